-- `words::store_peb` meets its contract. Assumes nothing.
use Prim.Native.Nat.{◌*◌}
use native.Mathlib.Omega.{arith}
use Rattle.words.specs.Words.{peb_stride}
use Rattle.words.proofs.Laws.{set_two}
use Rattle.words.proofs.store_peb.Goals as goal

pub returns : goal.returns
returns c =
    let a = c.args in set_two a.pebs.now (a.i * peb_stride) a.class a.counter (omega arith)
