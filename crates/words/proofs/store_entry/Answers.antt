-- `words::store_entry` meets its contract. Assumes nothing.
use Prim.Native.Nat.{◌*◌}
use native.Mathlib.Omega.{arith}
use Rattle.words.specs.Words.{entry_stride}
use Rattle.words.proofs.Laws.{set_three}
use Rattle.words.proofs.store_entry.Goals as goal

pub returns : goal.returns
returns c =
    let a = c.args in
    set_three a.map.now (a.k * entry_stride) a.volume a.lnum a.peb (omega arith)
