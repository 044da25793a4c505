-- `crc32::fold::fold_four` meets its contract. Assumes nothing.
use Rattle.crc32.proofs.Folding.{fold_turn}
use lib.ListN.{length-set}
use Rattle.crc32.proofs.fold.fold_four.Goals as goal

pub returns : goal.returns
returns c =
    let a = c.args in
    let pre = c.requires in (
      simp length-set pre.0,
      fold_turn a.kept.now a.bytes.now a.j c.sum_at-a.result c.sum_at-b.result c.sum_at-c.result
          c.sum_at-d.result (λ k. (c.type_inv.bytes k).fits) pre.0 pre.1.0 pre.1.1
          c.sum_at-a.ensures c.sum_at-b.ensures c.sum_at-c.ensures c.sum_at-d.ensures,
    )
