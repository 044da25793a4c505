-- The content of each volume of a filled image is what was given. Assumes nothing.
use mathlib.Core.Path.{◌≡◌, sym, ap, ◌∙◌}
use mathlib.Core.Logic.{⊎_elim}
use mathlib.Core.List.{List, [], ◌++◌}
use Prim.Native.Nat.{ℕ, ◌-◌, ◌*◌, ◌≤◌, ◌<◌}
use native.Mathlib.Nat.{suc-mul, mul-le-mul_right, sub-zero}
use native.Mathlib.Omega.{arith}
use lib.ListN.{length, take, replicate, length-append, length-replicate, drop_of_length-le}
use lib.Seq.{take_all, take-nil}
use Rattle.base.specs.Lists.{part}
use Rattle.base.proofs.Answers.{by_test}
use Rattle.base.proofs.Below.{lt_or_le}
use Rattle.base.proofs.Rows.{rows_of, concat_cong}
use Rattle.base.proofs.Stores.{part_padded}
use Rattle.report.specs.Report.{faces}
use Rattle.builder_rules.specs.Blocks.{BuildPlan, volume_of, is_static, length_of, volume_content, room, lebs_of, leb_data}
use Rattle.builder_rules.proofs.Numbers.{below_ceiling}
use Rattle.builder_rules.specs.Filling.{Accepted}
use Rattle.builder_rules.proofs.Accepted.{room_above, length_within, content_length}
use Rattle.builder_attaches.specs.Claim.{record_in, leb_read, volume_read, padded}
use Rattle.builder_attaches.proofs.Views.{filled}
use Rattle.builder_attaches.proofs.Faces.{leb_content, records_are, face_is, face_none}

module _ (b : BuildPlan) (n : ℕ) (a : Accepted b n) (v : ℕ) (h : v < b.volumes) where
  -- behind the LEBs built there is nothing of the content
  ends_before : (l : ℕ) → lebs_of b v ≤ l → length_of b v ≤ l * room b v
  unfolding lebs_of
  ends_before l k =
      ⊎_elim (λ q. absurd (omega (arith, below_ceiling (room b v) (length_of b v) (room_above b n a v h) l q))) (λ q. q)
      (lt_or_le (l * room b v) (length_of b v))

  no_data : (l : ℕ) → lebs_of b v ≤ l → leb_data b v l ≡ []
  unfolding leb_data
  no_data l k =
      ap (take (room b v))
      (drop_of_length-le (volume_content b v) {i = l * room b v}
      (omega (arith, content_length b n a v h, ends_before l k)))
      ∙ take-nil (room b v)

  leb_read_lem : (l : ℕ) → leb_read b.geometry (volume_of b v) (faces (filled b n) v l) ≡ leb_content b v l
  leb_read_lem l =
      ⊎_elim (λ k. rw (face_is b n a v h l k)) (λ k. rw (face_none b n a v h l k, no_data l k, sub-zero))
      (lt_or_le l (lebs_of b v))

  -- the record found is the plan's
  record_found : record_in (filled b n) v ≡ volume_of b v
  unfolding volume_of
  record_found = rw (records_are b n a)

  pub content_given : volume_read (filled b n) v ≡ padded b v
  unfolding padded leb_data
  content_given =
      rw record_found
      (by_test (is_static b v)
      (λ e.
      rw e
      (concat_cong m _ (λ l. part (l * r) r s) (λ l _. leb_read_lem l ∙ rw e) ∙ rows_of m r s ∙ take_all (m * r) s long))
      (λ e.
      rw e
      (concat_cong m _ (λ l. part (l * r) r (s ++ p))
      (λ l k.
      leb_read_lem l
      ∙ rw e (sym (part_padded 0xFF (l * r) r (m * r - length s) s
      (omega (arith, long, suc-mul l r, mul-le-mul_right r k)))))
      ∙ rows_of m r (s ++ p)
      ∙ take_all (m * r) (s ++ p)
      (rw (length-append, length-replicate {A = ℕ} (m * r - length s) 0xFF) (omega (arith, long))))))
    where
      s : List ℕ
      s = volume_content b v

      r : ℕ
      r = room b v

      m : ℕ
      m = (volume_of b v).reserved

      p : List ℕ
      p = replicate (m * r - length s) 0xFF

      long : length s ≤ m * r
      long = omega (arith, content_length b n a v h, length_within b n a v h)
