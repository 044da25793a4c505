pub mod Reserved
pub mod SlotLaws
