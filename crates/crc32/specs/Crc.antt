-- 01: "CRC-32 of IEEE 802.3, reflected, started at 0xFFFFFFFF, without the final complement". Assumes nothing.
use Rattle.std.specs.Prelude.{ℕ, zero, suc, ◌/◌, ◌%◌, List, [], ◌∷◌}
use Rattle.std.specs.Int.Bits.{bit_xor}

-- the polynomial of IEEE 802.3, its bits in reverse order, if the bit shifted out is set, else 0
unfoldable pub tap : ℕ → ℕ
tap zero = 0
tap (suc b) = 0xEDB88320

-- the state after one shift; "reflected": the lowest bit goes out first
unfoldable pub crc_bit : ℕ → ℕ
crc_bit c = bit_xor (c / 2) (tap (c % 2))

-- the state after n shifts
unfoldable pub crc_bits : ℕ → ℕ → ℕ
crc_bits zero c = c
crc_bits (suc n) c = crc_bits n (crc_bit c)

-- the state after a byte
unfoldable pub crc_byte : ℕ → ℕ → ℕ
crc_byte c b = crc_bits 8 (bit_xor c b)

-- the state after the bytes of a list
unfoldable pub crc_from : ℕ → List ℕ → ℕ
crc_from c [] = c
crc_from c (b ∷ bs) = crc_from (crc_byte c b) bs

-- "started at 0xFFFFFFFF, without the final complement"
abbrev pub crc_of : List ℕ → ℕ
crc_of bs = crc_from 0xFFFFFFFF bs
