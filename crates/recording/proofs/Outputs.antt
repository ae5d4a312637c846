-- What writing checks, answers and leaves in the output, test by test, and the level bytes that it joins. Assumes nothing.
use mathlib.Core.Path.{◌≡◌, ap, ◌∙◌}
use Rattle.std.specs.Prelude.{Result, Ok, Err}
use mathlib.Core.Bool.{Bool, true, false, ◌&&◌}
use mathlib.Core.List.{List, ◌++◌}
use Prim.Native.Nat.{ℕ, ◌+◌, ◌/◌, ◌%◌, ◌≤◌, ◌<◌}
use native.Mathlib.Omega.{arith}
use lib.Dec.{leb, eqb}
use lib.ListN.{length, take, drop, length-append}
use lib.Seq.{take-append_seam, take_at}
use Rattle.model.specs.declared.Counts.{Counts}
use Rattle.model.specs.declared.Refusal.{Refusal}
use Rattle.model.specs.Refusals.{Check, after}
use Rattle.model.specs.Recording.{size, flags_of, first_fault}
use Rattle.model.specs.File.{start_count, recording_by}
use Rattle.model.specs.Reading.{known_edition, in_range, posts_up}
use Rattle.model.specs.Writing.{file_of, file_length, levels_fit, lent_check, records_check, writing_check, written_by, written_of, out_after_writing}
use Rattle.model.proofs.Tests.{cases, tests, first, second, le-leb, lt-leb, ne_eqb, eqb-true, leb-true}
use Rattle.model.proofs.Checks.{unless_passed, then_passed}
use Rattle.model.proofs.Files.{in_range_lem, events_length}
use Rattle.recording.specs.Filing.{filing_check}

-- two tests made together
pub together : {a b x y : Bool} → a ≡ x → b ≡ y → (a && b) ≡ (x && y)
together p q = rw (p, q)

-- ---- the checks of what is lent, in their order

module _ (s : List ℕ) (c : Counts) (b p : List ℕ) where
  pub other_edition : known_edition c ≡ false → Err Refusal.Edition ≡ lent_check s c b p
  unfolding lent_check
  other_edition k = rw k

  module _ (k : known_edition c ≡ true) where
    pub ragged : (length s % 4 ≡ 0 → ⊥) → Err Refusal.Extent ≡ lent_check s c b p
    unfolding lent_check
    ragged a = rw (k, ne_eqb (length s % 4) 0 a)

    module _ (a : length s % 4 ≡ 0) where
      pub beyond : (in_range c (length s / 4) && posts_up p) ≡ false → Err Refusal.Count ≡ lent_check s c b p
      unfolding lent_check
      beyond r =
          cases (in_range c (length s / 4)) (λ t. let u : posts_up p ≡ false = rw t at r in rw (k, a, t, u)) (λ t. rw (k, a, t))

      module _ (r : (in_range c (length s / 4) && posts_up p) ≡ true) where
        in_counts : in_range c (length s / 4) ≡ true
        in_counts = first (in_range c (length s / 4)) (posts_up p) r

        up : posts_up p ≡ true
        up = second (in_range c (length s / 4)) (posts_up p) r

        pub other_number : levels_fit c b p ≡ false → Err Refusal.Starts ≡ lent_check s c b p
        unfolding lent_check
        other_number d = rw (k, a, in_counts, up, d)

        pub all_kept : levels_fit c b p ≡ true → Ok tt ≡ lent_check s c b p
        unfolding lent_check
        all_kept d = rw (k, a, in_counts, up, d)

  -- where they pass, the counts are in range, and the level bytes are few
  module _ (l : lent_check s c b p ≡ Ok tt) where
    parts : (in_range c (length s / 4) ≡ true) × (levels_fit c b p ≡ true)
    unfolding lent_check
    parts =
        let (k, x) = unless_passed (known_edition c) _ _ l in
        let (a, y) = unless_passed (eqb (length s % 4) 0) _ _ x in
        let (r, z) = unless_passed (in_range c (length s / 4)) _ _ y in
        let (u, w) = unless_passed (posts_up p) _ _ z in
        (r, (unless_passed (levels_fit c b p) _ _ w).0)

    pub ranged : in_range c (length s / 4) ≡ true
    ranged = parts.0

    pub few_levels : length b + length p ≤ 128
    unfolding levels_fit start_count
    few_levels =
        let i = in_range_lem c (length s / 4) ranged in
        let n = first (eqb (length b) (start_count c)) (eqb (length p) (flags_of c)) parts.1 in
        let m = eqb-true (length p) (flags_of c) (second (eqb (length b) (start_count c)) (eqb (length p) (flags_of c)) parts.1) in
        let few : start_count c ≤ 64 = cases (eqb c.edition 1) (λ t. rw t (omega arith)) (λ t. rw t i.few_semaphores) in
        omega (tests, i.few_flags)

    -- then the file of the joined level bytes m is checked, and written where the check passes
    module _ (out m : List ℕ) (e : m ≡ b ++ p) where
      filing : writing_check s c b p out ≡ filing_check s c m out
      unfolding writing_check records_check filing_check
      filing = rw (l, e)

      pub answered : (r : Result ℕ Refusal) → r ≡ written_by (file_length s m) (filing_check s c m out) → r ≡ written_of s c b p out
      unfolding written_of
      answered r q = rw (filing, ← e) q

      pub left : (last : List ℕ) → last ≡ after (filing_check s c m out) (λ _. file_of s c m ++ drop (file_length s m) out) out → last ≡ out_after_writing s c b p out
      unfolding out_after_writing
      left last q = rw (filing, ← e) q

  -- where one fails, its refusal is answered, and the output stays
  module _ (r : Refusal) (l : lent_check s c b p ≡ Err r) (out : List ℕ) where
    pub refused : Err r ≡ written_of s c b p out
    unfolding written_of writing_check records_check
    refused = rw l

    pub kept : out ≡ out_after_writing s c b p out
    unfolding out_after_writing writing_check records_check
    kept = rw l

-- ---- the check of the file

-- records in range are short
pub short : (s : List ℕ) (c : Counts) → in_range c (length s / 4) ≡ true → length s ≤ 4099
short s c r = let i = in_range_lem c (length s / 4) r in omega (arith, i.few_records)

module _ (s : List ℕ) (c : Counts) (b out : List ℕ) where
  module _ (x : Check) (q : x ≡ first_fault (recording_by s c b) (length s / 4)) where
    pub faulty : (r : Refusal) → x ≡ Err r → Err r ≡ filing_check s c b out
    unfolding filing_check
    faulty r e = rw (events_length s, ← q, e)

    module _ (e : x ≡ Ok tt) where
      pub no_room : length out < file_length s b → Err Refusal.Out ≡ filing_check s c b out
      unfolding filing_check
      no_room l = rw (events_length s, ← q, e, lt-leb (file_length s b) (length out) l)

      pub room : file_length s b ≤ length out → Ok tt ≡ filing_check s c b out
      unfolding filing_check
      room l = rw (events_length s, ← q, e, le-leb (file_length s b) (length out) l)

  -- where it passes the output has room
  pub fits : filing_check s c b out ≡ Ok tt → file_length s b ≤ length out
  unfolding filing_check
  fits p =
      let (f, q) = then_passed (let E = recording_by s c b in first_fault E (size E)) _ p in
      leb-true (file_length s b) (length out) (unless_passed (leb (file_length s b) (length out)) _ _ q).0

-- ---- start bytes and post bytes joined

-- the front of an array to which b was copied, and then p behind it
pub joined : (old b p mid last : List ℕ) → mid ≡ take 0 old ++ b ++ drop (0 + length b) old
    → last ≡ take (length b) mid ++ p ++ drop (length b + length p) mid → take (length b + length p) last ≡ b ++ p
joined old b p mid last e q =
    let front : take (length b) mid ≡ b = ap (take (length b)) e ∙ take-append_seam b (drop (0 + length b) old) in
    rw (q, front) (take_at (b ++ p) (drop (length b + length p) mid) (length b + length p) (length-append b p))
