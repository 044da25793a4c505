-- `volume_table::table::name_repeats` meets its contract: none of the first i records has the name of record j. Assumes
-- nothing.
use mathlib.Core.Path.{◌≡◌, sym, ◌∙◌}
use Prim.Native.Nat.{◌*◌}
use native.Mathlib.Nat.{add-sub_cancel_left}
use native.Mathlib.Omega.{arith}
use Rattle.base.proofs.Below.{any_intro, any_more}
use Rattle.base.proofs.Lists.{lent_length}
use Rattle.volume_table.proofs.Tables.{empty_at, repeats, none_repeats, repeats_as}
use Rattle.volume_table.proofs.table.name_repeats.Goals as goal

pub is_empty-requires : goal.is_empty-requires
is_empty-requires c =
    (lent_length (172 * c.args.j) 172 c.args.t.now (omega arith), c.requires.1.1)

pub returns-then-is_empty : goal.returns-then-is_empty
returns-then-is_empty c =
    let a = c.args in
    none_repeats a.t.now a.j (empty_at (172 * a.j) a.t.now c.is_empty.ensures) c.if-is_empty.true

pub names_clash-requires : goal.names_clash-requires
names_clash-requires c =
    let a = c.args in (
      lent_length (172 * c.loop-i.i) 172 a.t.now (omega arith),
      (lent_length (172 * a.j) 172 a.t.now (omega arith), c.requires.1.1),
    )

pub returns-then-names_clash : goal.returns-then-names_clash
returns-then-names_clash c =
    let a = c.args in
    let judged : c.names_clash.result ≡ repeats a.t.now a.j c.loop-i.i =
    repeats_as a.t.now a.j c.loop-i.i (empty_at (172 * a.j) a.t.now c.is_empty.ensures)
    c.if-is_empty.false (simp add-sub_cancel_left at c.names_clash.ensures) in
    sym (any_intro a.j (repeats a.t.now a.j) c.loop-i.i (omega arith) (sym judged ∙ c.if-names_clash.true))

pub loop-i-preserved : goal.loop-i-preserved
loop-i-preserved c =
    let a = c.args in
    let judged : c.names_clash.result ≡ repeats a.t.now a.j c.loop-i.i =
    repeats_as a.t.now a.j c.loop-i.i (empty_at (172 * a.j) a.t.now c.is_empty.ensures)
    c.if-is_empty.false (simp add-sub_cancel_left at c.names_clash.ensures) in
    any_more (repeats a.t.now a.j) c.loop-i.i c.loop-i.invariant (sym judged ∙ c.if-names_clash.false)

pub returns : goal.returns
returns c = let e : c.loop-i.i ≡ c.args.j = omega arith in sym (rw e at c.loop-i.invariant)
