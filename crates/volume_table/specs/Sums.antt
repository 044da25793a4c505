-- What private contracts cite: the sums of a pass over records. No public promise names them. Assumes nothing.
use Rattle.std.specs.Prelude.{◌≡◌, List, ℕ, ◌+◌, cond, Option, Some, None, is_some, IfSome}
use Rattle.std.specs.Int.Bits.{bit_and}
use Rattle.base.specs.Below.{all_below, count_below, sum_below}
use Rattle.volume_record.specs.Record.{record_of}
use Rattle.volume_table.specs.Table.{record_at, empty_or_good, autoresizes}
use Rattle.volume_table.specs.declared.Tally.{Tally}

-- the sums with one record more; none where it is neither empty nor good
unfoldable pub tallied : ℕ → ℕ → Tally → List ℕ → Option Tally
tallied size unit s r =
    cond (empty_or_good size unit r)
    (Some (record {
      reserved = s.reserved + (record_of r).reserved;
      autoresize = s.autoresize + bit_and (record_of r).flags 1;
    })) None

-- the sums over the first n records; none where not all are empty or good
pub record TallyOf (n size unit : ℕ) (t : List ℕ) (s : Option Tally) : Type 0 where
  pub good : is_some s ≡ all_below n (λ i. empty_or_good size unit (record_at t i))
  pub reserved : IfSome s (λ u. u.reserved ≡ sum_below n (λ i. (record_of (record_at t i)).reserved))
  pub autoresize : IfSome s (λ u. u.autoresize ≡ count_below n (λ i. autoresizes (record_at t i)))
