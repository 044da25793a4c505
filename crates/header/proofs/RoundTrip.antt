-- "Headers written read back as given; a good header with zero padding is written back byte for byte." Assumes nothing.
use mathlib.Core.Path.{◌≡◌, refl, sym, ap, ap₂, ◌∙◌}
use mathlib.Core.Bool.{Bool, true, ◌&&◌, false≢true}
use mathlib.Core.List.{List, ◌++◌}
use Prim.Native.Nat.{ℕ, ◌+◌, ◌≤◌}
use native.Mathlib.Omega.{arith}
use borrow.Author.Tests.{eq-eqb, eqb-true, le-ltb, ltb-false}
use lib.Dec.{T, ltb, leb, leb→le}
use lib.ListN.{length, take, drop, length-take, take-append-drop}
use lib.Seq.{take-add, take-append_seam}
use Rattle.base.specs.Answers.{given}
use Rattle.base.specs.Lists.{part, eqs, Bytes}
use Rattle.base.proofs.Answers.{and_left, and_right, cond_yes, cond_no, refused_not}
use Rattle.base.proofs.Lists.{eqs_true, EachByte, each_append, each_zero, bytes_each}
use Rattle.field.specs.Be.{be_of, to_be_on, to_be}
use Rattle.field.proofs.Laws.{read_back_fits, written_read, each_to_be, field_lt}
use Rattle.crc32.specs.Crc.{crc_of}
use Rattle.crc32.proofs.Laws.{crc_of_lt}
use Rattle.header.specs.declared.EcHeader.{EcHeader}
use Rattle.header.specs.declared.VidHeader.{VidHeader}
use Rattle.header.specs.Fields.{crc_matches, Verdict, good, bad, newer, judged, is_good, read_header, verdict_answer}
use Rattle.header.specs.Fields.{lent_header, header_bytes, header_written, header_out}
use Rattle.header.specs.Ec.{ec_magic, ec_fields, ec_rules, judge_ec, read_ec, ec_read, ec_head, ec_bytes, ec_written}
use Rattle.header.specs.Ec.{ec_out, EcFits, EcPadded}
use Rattle.header.specs.Vid.{vid_magic, vid_fields, vid_rules, judge_vid, read_vid, vid_read, vid_head, vid_bytes}
use Rattle.header.specs.Vid.{vid_written, vid_out, VidFits, VidPadded}
use Rattle.header.proofs.Laws.{bad_not, read_good}
use Rattle.header.proofs.Writes.{ec_64, vid_64}

-- ---- answers

module _ {A : Type 0} where
  good_of : (v : Verdict A) → is_good v ≡ true → (x : A) × (v ≡ good x)
  good_of (good x) e = (x, refl)
  good_of bad e = absurd (false≢true e)
  good_of newer e = absurd (false≢true e)

  verdict_good : (v : Verdict A) {h : A} → verdict_answer v ≡ given (good h) → v ≡ good h
  verdict_good (good g) e = cc
  verdict_good bad e = cc
  verdict_good newer e = absurd (refused_not e)

  -- a header that was read as good
  lent_good : (v : Verdict A) (l : List ℕ) {h : A} → lent_header v l ≡ given (good h) → (64 ≤ length l) × (v ≡ good h)
  lent_good v l e =
      let p = cond_no (ltb (length l) 64) refused_not e in
      (ltb-false (length l) 64 p.0, verdict_good v p.1)

  module _ (v : Verdict A) (bytes out : List ℕ) where
    -- a good header is written to 64 bytes or more, and the others stay
    writes : 64 ≤ length out → is_good v ≡ true
        → (header_written v out ≡ given tt) × (header_out v bytes out ≡ bytes ++ drop 64 out)
    writes long g = (rw (le-ltb _ _ long, g), rw (le-ltb _ _ long, g))

    -- a write that was not refused
    wrote : header_written v out ≡ given tt → (is_good v ≡ true) × (header_out v bytes out ≡ bytes ++ drop 64 out)
    wrote e =
        let p = cond_no (ltb (length out) 64) refused_not e in
        let g = (cond_yes (is_good v) refused_not p.1).0 in
        (g, (writes (ltb-false (length out) 64 p.0) g).1)

-- ---- bytes 0-59, piece by piece

module _ (l : List ℕ) (b : Bytes l) (long : 64 ≤ length l) where
  -- one piece more: known bytes, or those of the number in a field
  bytes_on : (at w : ℕ) {a z : List ℕ} → part at w l ≡ z → take at l ≡ a → take (at + w) l ≡ a ++ z
  bytes_on at w q p = take-add at w l ∙ ap₂ ◌++◌ p q

  field_on : (at w : ℕ) {a : List ℕ} → T (leb (at + w) 64) → take at l ≡ a
      → take (at + w) l ≡ a ++ to_be w (be_of (part at w l))
  field_on at w k p =
      let h = leb→le (at + w) 64 k in
      bytes_on at w (sym (written_read at w l (omega arith) b)) p

  -- the 64 bytes, once the first 60 are known
  whole : (head : List ℕ) → crc_matches l ≡ true → take 60 l ≡ head → header_bytes head ≡ take 64 l
  unfolding crc_matches
  whole head t e =
      let s = eqb-true (crc_of (take 60 l)) (be_of (part 60 4 l)) t in
      sym (field_on 60 4 tt e ∙ ap (λ (x : ℕ). head ++ to_be 4 x) (sym s ∙ ap crc_of e))

  ec_head_is : EcPadded l → take 4 l ≡ ec_magic → take 60 l ≡ ec_head (ec_fields l)
  unfolding ec_head ec_fields
  ec_head_is z m =
      bytes_on 28 32 z.zero_28
      (field_on 24 4 tt (field_on 20 4 tt
      (field_on 16 4 tt (field_on 8 8 tt (bytes_on 5 3 z.zero_5 (field_on 4 1 tt m))))))

  vid_head_is : VidPadded l → take 4 l ≡ vid_magic → take 60 l ≡ vid_head (vid_fields l)
  unfolding vid_head vid_fields
  vid_head_is z m =
      let a : take 16 l ≡ _ = field_on 12 4 tt
      (field_on 8 4 tt (field_on 7 1 tt (field_on 6 1 tt (field_on 5 1 tt (field_on 4 1 tt m))))) in
      let d : take 36 l ≡ _ = field_on 32 4 tt
      (field_on 28 4 tt (field_on 24 4 tt (field_on 20 4 tt (bytes_on 16 4 z.zero_16 a)))) in
      bytes_on 48 12 z.zero_48 (field_on 40 8 tt (bytes_on 36 4 z.zero_36 d))

-- ---- of both headers, by their magic, version, rules, fields and bytes 0-59

module _ {A : Type 0} (magic : List ℕ) (version : A → ℕ) (rules : A → List Bool) (fields : List ℕ → A)
    (head : A → List ℕ) where
  abbrev judge : A → Verdict A
  judge h = judged (version h) (rules h) h

  abbrev reads : List ℕ → Verdict A
  reads s = read_header magic (λ (l : List ℕ). judge (fields l)) s

  abbrev bytes : A → List ℕ
  bytes h = header_bytes (head h)

  -- a header that was written is read as given, from any bytes that begin with the 64 that were written: the lent ones, or others
  both_written_read : (h : A) (out : List ℕ) → length (bytes h) ≡ 64 → ((t : List ℕ) → reads (bytes h ++ t) ≡ judge h)
      → header_written (judge h) out ≡ given tt
      → (s : List ℕ) → take 64 s ≡ take 64 (header_out (judge h) (bytes h) out) → lent_header (reads s) s ≡ given (good h)
  both_written_read h out l r e s same =
      let w = wrote (judge h) (bytes h) out e in
      let t : take 64 (bytes h ++ drop 64 out) ≡ bytes h = rw l at (take-append_seam (bytes h) (drop 64 out)) in
      let b : take 64 s ≡ bytes h = same ∙ ap (take 64) w.1 ∙ t in
      let q : reads s ≡ judge h = ap reads (sym (take-append-drop 64 s) ∙ ap (λ (x : List ℕ). x ++ drop 64 s) b)
      ∙ r (drop 64 s) in
      let n : 64 ≤ length s = omega (arith, length-take 64 s, ap length b, l) in
      let g = good_of (judge h) w.0 in
      let f = (read_good true (version h) (rules h) g.1).0 in
      rw (le-ltb _ _ n) (ap verdict_answer (q ∙ g.1 ∙ ap good (sym f)))

  -- a good header with zero padding that was read is written back byte for byte, to any 64 bytes or more, and the others stay
  both_read_written : (l out : List ℕ) (h : A) → Bytes l → lent_header (reads l) l ≡ given (good h)
      → (64 ≤ length l → take 4 l ≡ magic → take 60 l ≡ head (fields l)) → 64 ≤ length out
      → (header_written (judge h) out ≡ given tt) × (header_out (judge h) (bytes h) out ≡ take 64 l ++ drop 64 out)
  both_read_written l out h b r z long =
      let p = lent_good (reads l) l r in
      let t = cond_yes (eqs (part 0 4 l) magic && crc_matches l) bad_not p.1 in
      let f = (read_good (eqs (part 0 4 l) magic && crc_matches l) (version (fields l)) (rules (fields l)) p.1).0 in
      let m = eqs_true (part 0 4 l) magic (and_left (eqs (part 0 4 l) magic) (crc_matches l) t.0) in
      let g : is_good (judge h) ≡ true = ap (λ (x : A). is_good (judge x)) (sym f) ∙ ap is_good t.1 in
      let w = writes (judge h) (bytes h) out long g in
      let c = and_right (eqs (part 0 4 l) magic) (crc_matches l) t.0 in
      (w.0, w.1 ∙ ap (λ (x : List ℕ). x ++ drop 64 out) (whole l b p.0 (head h) c (z p.0 m ∙ ap head f)))

-- ---- the EC header

each_ec_magic : EachByte ec_magic
each_ec_magic = omega arith

module _ (h : EcHeader) (t : List ℕ) where
  ec_head_bytes : Bytes (ec_head h)
  unfolding ec_head
  ec_head_bytes = bytes_each (ec_head h) (search (each_append, each_to_be, each_zero, each_ec_magic) depth 12)

  ec_crc_matches : crc_matches (ec_bytes h ++ t) ≡ true
  unfolding crc_matches ec_bytes ec_head to_be_on
  ec_crc_matches =
      eq-eqb (crc_of (ec_head h)) _ (sym (read_back_fits 4 (crc_of (ec_head h)) (crc_of_lt (ec_head h) ec_head_bytes)))

  ec_magic_lem : eqs (part 0 4 (ec_bytes h ++ t)) ec_magic ≡ true
  unfolding eqs ec_bytes ec_head to_be_on
  ec_magic_lem = refl

  ec_fields_back : EcFits h → ec_fields (ec_bytes h ++ t) ≡ h
  unfolding ec_fields ec_bytes ec_head to_be_on
  ec_fields_back f = λ i. record {
    version = read_back_fits 1 h.version f.version i;
    counter = read_back_fits 8 h.counter f.counter i;
    vid_start = read_back_fits 4 h.vid_start f.vid_start i;
    data_start = read_back_fits 4 h.data_start f.data_start i;
    image_seq = read_back_fits 4 h.image_seq f.image_seq i;
  }

  -- the reader calls a written header what its fields make it: this is what refusal 19 speaks of
  pub ec_judged : EcFits h → read_ec (ec_bytes h ++ t) ≡ judge_ec h
  unfolding read_ec
  ec_judged f = rw (ec_magic_lem, ec_crc_matches, ec_fields_back f)

pub ec_written_read : (h : EcHeader) (out : List ℕ) → EcFits h → ec_written h out ≡ given tt
    → (s : List ℕ) → take 64 s ≡ take 64 (ec_out h out) → ec_read s ≡ given (good h)
unfolding ec_written ec_out ec_read read_ec judge_ec ec_bytes
ec_written_read h out f =
    both_written_read ec_magic (λ (x : EcHeader). x.version) ec_rules ec_fields ec_head h out (ec_64 h)
    (λ t. ec_judged h t f)

pub ec_read_written : (l out : List ℕ) (h : EcHeader) → Bytes l → ec_read l ≡ given (good h) → EcPadded l
    → 64 ≤ length out
    → (ec_written h out ≡ given tt) × (ec_out h out ≡ take 64 l ++ drop 64 out)
unfolding ec_read ec_written ec_out read_ec judge_ec ec_bytes
ec_read_written l out h b r z =
    both_read_written ec_magic (λ (x : EcHeader). x.version) ec_rules ec_fields ec_head l out h b r
    (λ n. ec_head_is l b n z)

-- what is read is as large as its bytes allow
pub ec_read_fits : (l : List ℕ) → Bytes l → 64 ≤ length l → EcFits (ec_fields l)
unfolding ec_fields
ec_read_fits l b long = record {
  version = field_lt 4 1 l (omega arith) b;
  counter = field_lt 8 8 l (omega arith) b;
  vid_start = field_lt 16 4 l (omega arith) b;
  data_start = field_lt 20 4 l (omega arith) b;
  image_seq = field_lt 24 4 l (omega arith) b;
}

-- ---- the VID header

each_vid_magic : EachByte vid_magic
each_vid_magic = omega arith

module _ (h : VidHeader) (t : List ℕ) where
  vid_head_bytes : Bytes (vid_head h)
  unfolding vid_head
  vid_head_bytes = bytes_each (vid_head h) (search (each_append, each_to_be, each_zero, each_vid_magic) depth 24)

  vid_crc_matches : crc_matches (vid_bytes h ++ t) ≡ true
  unfolding crc_matches vid_bytes vid_head to_be_on
  vid_crc_matches =
      eq-eqb (crc_of (vid_head h)) _ (sym (read_back_fits 4 (crc_of (vid_head h)) (crc_of_lt (vid_head h) vid_head_bytes)))

  vid_magic_lem : eqs (part 0 4 (vid_bytes h ++ t)) vid_magic ≡ true
  unfolding eqs vid_bytes vid_head to_be_on
  vid_magic_lem = refl

  vid_fields_back : VidFits h → vid_fields (vid_bytes h ++ t) ≡ h
  unfolding vid_fields vid_bytes vid_head to_be_on
  vid_fields_back f = λ i. record {
    version = read_back_fits 1 h.version f.version i;
    vol_type = read_back_fits 1 h.vol_type f.vol_type i;
    copy_flag = read_back_fits 1 h.copy_flag f.copy_flag i;
    compat = read_back_fits 1 h.compat f.compat i;
    volume = read_back_fits 4 h.volume f.volume i;
    lnum = read_back_fits 4 h.lnum f.lnum i;
    data_size = read_back_fits 4 h.data_size f.data_size i;
    used_lebs = read_back_fits 4 h.used_lebs f.used_lebs i;
    data_pad = read_back_fits 4 h.data_pad f.data_pad i;
    data_crc = read_back_fits 4 h.data_crc f.data_crc i;
    sequence = read_back_fits 8 h.sequence f.sequence i;
  }

  -- the reader calls a written header what its fields make it: this is what refusal 19 speaks of
  pub vid_judged : (size : ℕ) → VidFits h → read_vid size (vid_bytes h ++ t) ≡ judge_vid size h
  unfolding read_vid
  vid_judged size f = rw (vid_magic_lem, vid_crc_matches, vid_fields_back f)

-- as of an EC header, at the same LEB size
module _ (size : ℕ) where
  pub vid_written_read : (h : VidHeader) (out : List ℕ) → VidFits h → vid_written size h out ≡ given tt
      → (s : List ℕ) → take 64 s ≡ take 64 (vid_out size h out) → vid_read size s ≡ given (good h)
  unfolding vid_written vid_out vid_read read_vid judge_vid vid_bytes
  vid_written_read h out f =
      both_written_read vid_magic (λ (x : VidHeader). x.version) (vid_rules size) vid_fields vid_head h out (vid_64 h)
      (λ t. vid_judged h t size f)

  pub vid_read_written : (l out : List ℕ) (h : VidHeader) → Bytes l → vid_read size l ≡ given (good h) → VidPadded l
      → 64 ≤ length out
      → (vid_written size h out ≡ given tt) × (vid_out size h out ≡ take 64 l ++ drop 64 out)
  unfolding vid_read vid_written vid_out read_vid judge_vid vid_bytes
  vid_read_written l out h b r z =
      both_read_written vid_magic (λ (x : VidHeader). x.version) (vid_rules size) vid_fields vid_head l out h b r
      (λ n. vid_head_is l b n z)

-- what is read is as large as its bytes allow
pub vid_read_fits : (l : List ℕ) → Bytes l → 64 ≤ length l → VidFits (vid_fields l)
unfolding vid_fields
vid_read_fits l b long = record {
  version = field_lt 4 1 l (omega arith) b;
  vol_type = field_lt 5 1 l (omega arith) b;
  copy_flag = field_lt 6 1 l (omega arith) b;
  compat = field_lt 7 1 l (omega arith) b;
  volume = field_lt 8 4 l (omega arith) b;
  lnum = field_lt 12 4 l (omega arith) b;
  data_size = field_lt 20 4 l (omega arith) b;
  used_lebs = field_lt 24 4 l (omega arith) b;
  data_pad = field_lt 28 4 l (omega arith) b;
  data_crc = field_lt 32 4 l (omega arith) b;
  sequence = field_lt 40 8 l (omega arith) b;
}
