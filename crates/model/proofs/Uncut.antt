-- The program's report is never cut off: a line has few bytes, and an accepted file has few entries.
-- Assumes nothing.
use Prim.Native.Nat.{ℕ, zero, suc, ◌+◌, ◌*◌, ◌/◌, ◌^◌, ◌≤◌, ◌<◌, zero-le}
use Rattle.std.specs.Prelude.{Ok, Err}
use mathlib.Core.Path.{◌≡◌, refl}
use mathlib.Core.Logic.{inl}
use mathlib.Core.Bool.{Bool, true, false}
use mathlib.Core.List.{List, [], ◌∷◌, Memᴰ}
use native.Mathlib.Nat.{le_refl, min-eq_left, pow-suc, div-lt_iff_lt-mul}
use native.Mathlib.Omega.{arith}
use lib.Dec.{ltb, eqb}
use lib.ListN.{length, take, length-append}
use lib.Seq.{take_all, take-append_seam}
use Rattle.model.specs.Refusals.{Check, number_of, record_of}
use Rattle.model.specs.declared.Refusal.{Refusal}
use Rattle.model.specs.Recording.{Recording, size, tasks, cells, object_of}
use Rattle.model.specs.File.{recording_of}
use Rattle.model.specs.Reading.{file_check, most_cells, most_events}
use Rattle.model.specs.Passes.{run, budget_of}
use Rattle.model.specs.Pairs.{Entry, listed}
use Rattle.model.specs.Analysing.{work_check, analysis_check}
use Rattle.model.specs.Text.{bytes, decimal_in}
use Rattle.model.specs.Report.{field, settled_word, result_line, mark_word, entry_line, entry_text, entries_text, refusal_line, result_text, report_by, is_long, report_of, laid, filling}
use Rattle.model.specs.Uncut.{list_numbers, out_bytes, Uncut}
use Rattle.model.proofs.Tests.{cases, lt-ltb, leb-true}
use Rattle.model.proofs.Checks.{unless_passed, then_passed}
use Rattle.model.proofs.Promise.{on_list, inside}
use Rattle.model.proofs.Files.{sound, size_records}

-- ---- how many digits a number has

-- made of at most k digits, it has no more
digits_most : (k n : ℕ) → length (decimal_in k n) ≤ k
unfolding decimal_in
digits_most zero n = zero-le
digits_most (suc k) n =
    cases (ltb n 10) (λ t. rw t (omega arith)) (λ t. rw t (let h = digits_most k (n / 10) in simp length-append (omega arith)))

-- below 10 ^ d it has at most d
digits_few : (k d n : ℕ) → n < 10 ^ suc d → length (decimal_in k n) ≤ suc d
unfolding decimal_in
digits_few zero d n h = zero-le
digits_few (suc k) zero n h = rw (lt-ltb n 10 h) (le_refl 1)
digits_few (suc k) (suc d) n h =
    let fewer : n / 10 < 10 ^ suc d = (div-lt_iff_lt-mul {k = 10} {x = n} {y = 10 ^ suc d} (omega arith)).1 (rw pow-suc at h) in
    cases (ltb n 10) (λ t. rw t (omega arith)) (λ t. rw t (let r = digits_few k d (n / 10) fewer in simp length-append (omega arith)))

-- ---- how many bytes a line has

mark_length : (b : Bool) → length (mark_word b) ≡ 4
unfolding bytes
mark_length true = refl
mark_length false = refl

settled_length : (b : Bool) → length (settled_word b) ≤ 3
unfolding bytes
settled_length true = omega arith
settled_length false = omega arith

-- the line of an entry whose numbers have at most four digits
entry_length : (cell a b m : ℕ) → cell < 10000 → a < 10000 → b < 10000 → length (entry_line cell a b m) ≤ 25
unfolding entry_line field bytes
entry_length cell a b m h k l =
    let x = digits_few 20 3 cell h in
    let y = digits_few 20 3 a k in
    let z = digits_few 20 3 b l in
    let w = mark_length (eqb m 1) in
    simp length-append (omega arith)

result_length : (n t passes : ℕ) (settled : Bool) (pairs : ℕ) → length (result_line n t passes settled pairs) ≤ 122
unfolding result_line field bytes
result_length n t passes settled pairs =
    let x = digits_most 20 n in
    let y = digits_most 20 t in
    let z = digits_most 20 passes in
    let w = digits_most 20 pairs in
    let s = settled_length settled in
    simp length-append (omega arith)

refusal_length : (r : Refusal) → length (refusal_line r) ≤ 50
unfolding refusal_line field bytes
refusal_length r =
    let x = digits_most 20 (number_of r) in
    let y = digits_most 20 (record_of r) in
    simp length-append (omega arith)

-- ---- the lines of the entries

lines_length : (E : Recording) (l : List Entry) → ((p : Entry) → Memᴰ p l → length (entry_text E.events p) ≤ 25) → length (entries_text E.events l) ≤ 25 * length l
unfolding entries_text
lines_length E [] h = zero-le
lines_length E (p ∷ l) h =
    let x = h p (Memᴰ.head refl) in
    let y = lines_length E l (λ q m. h q (Memᴰ.tail m)) in
    simp length-append (omega arith)

listed_length : (E : Recording) → size E ≤ most_events → cells E ≤ most_cells → (budget : ℕ) (p : Entry) → Memᴰ p (listed E budget) → length (entry_text E.events p) ≤ 25
unfolding entry_text
listed_length E n c budget p m =
    let r = on_list E budget p.first p.second p.mark (inl m) in
    let cell = r.cell in
    let a = inside E p.first r.first_in in
    let b = inside E p.second r.second_in in
    entry_length (object_of E p.first) p.first p.second p.mark (omega arith) (omega arith) (omega arith)

text_length : (E : Recording) → size E ≤ most_events → cells E ≤ most_cells → (budget : ℕ) → length (result_text E budget) ≤ 122 + 25 * length (listed E budget)
unfolding result_text
text_length E n c budget =
    let x = result_length (size E) (tasks E) (run E budget).passes (run E budget).settled (length (listed E budget)) in
    let y = lines_length E (listed E budget) (listed_length E n c budget) in
    simp length-append (omega arith)

-- ---- the report

-- analysing passes only a file that is accepted, with a list that its pairs fit in
pub analysis_passed : (f : List ℕ) (budget : ℕ) (work list : List ℕ) → analysis_check f budget work list ≡ Ok tt
    → (file_check f ≡ Ok tt) × (3 * length (listed (recording_of f) budget) ≤ length list)
unfolding analysis_check work_check
analysis_passed f budget work list q =
    let (w, l) = then_passed _ _ q in
    ((then_passed _ _ w).0, leb-true _ _ (unless_passed _ _ _ l).0)

fits_by : (f : List ℕ) (budget : ℕ) (work list : List ℕ) → length list ≡ list_numbers → (c : Check) → analysis_check f budget work list ≡ c
    → length (report_by (recording_of f) budget c) ≤ out_bytes
unfolding recording_of
fits_by f budget work list n (Ok tt) q =
    let (p, pairs) = analysis_passed f budget work list q in
    let s = sound f p in
    let e = size_records f s in
    let r = s.range in
    let x = text_length (recording_of f) (omega arith) r.few_cells budget in
    omega arith
fits_by f budget work list n (Err r) q = let x = refusal_length r in omega arith

fits : (f work list : List ℕ) → length list ≡ list_numbers → length (report_of f work list) ≤ out_bytes
unfolding report_of bytes
fits f work list n =
    let E = recording_of f in
    cases (is_long f) (λ t. rw t (omega arith)) (λ t. rw t (fits_by f (budget_of E) work list n (analysis_check f (budget_of E) work list) refl))

-- what fits in an output is laid there whole
laid_whole : (text out : List ℕ) → length text ≤ length out → take (filling text out) (laid text out) ≡ text
unfolding filling laid
laid_whole text out h =
    rw (min-eq_left h, take_all (length out) text h, take-append_seam)

pub uncut : Uncut
uncut =
    record {
      fits = fits;
      whole = λ f work list out n m. laid_whole (report_of f work list) out (let h = fits f work list n in omega arith);
    }
