-- The records and the level bytes of a file that reading accepts.
-- Assumes nothing.
use mathlib.Core.Path.{◌≡◌, sym, ap, ap₂, subst, ◌∙◌}
use Rattle.std.specs.Prelude.{Ok}
use mathlib.Core.List.{List}
use Prim.Native.Nat.{ℕ, ◌+◌, ◌*◌, ◌/◌, ◌≤◌, ◌<◌}
use native.Mathlib.Omega.{arith}
use lib.Dec.{eqb}
use lib.ListN.{length, drop, length-take}
use Rattle.model.specs.declared.Counts.{Counts}
use Rattle.model.specs.declared.Trailer.{Trailer}
use Rattle.model.specs.Recording.{Recording, size, kind_of, object_of, names_of, class_of, Accepted, wait, flag_wait}
use Rattle.model.specs.File.{trailer_of, record_bytes, start_count, level_count, level_bytes, recording_by, recording_of}
use Rattle.model.specs.Reading.{file_check, reading_of, most_semaphores, most_flags, most_events}
use Rattle.model.specs.Acceptable.{InRange}
use Rattle.model.specs.Passes.{budget_of}
use Rattle.model.proofs.Tests.{cases, le-leb}
use Rattle.model.proofs.Accept.{task_inside, object_inside}
use Rattle.model.proofs.LastEvent.{none_after_join}
use Rattle.model.proofs.Files.{sound, bytes_length, size_records}
use Rattle.recording.proofs.Files.{accepted_is, within}
use Rattle.work.specs.Lent.{Ready, budget_in}

-- an event of kind k names one of k's class, of which there are at most `most`
named_below : (E : Recording) → Accepted E → (k most : ℕ) → names_of E.counts (class_of k) ≤ most → (e : ℕ) → e < size E → kind_of E e ≡ k → object_of E e < most
named_below E acc k most few e l w =
    let low : object_of E e < names_of E.counts (class_of k) = subst (λ (j : ℕ). object_of E e < names_of E.counts (class_of j)) w (object_inside E acc e l) in
    omega arith

-- as many level bytes as there may be: a start byte for each semaphore, a post byte for each flag
few_counted : (c : Counts) (n : ℕ) → InRange c n → level_count c ≤ most_semaphores + most_flags
unfolding level_count start_count
few_counted c n r =
    cases (eqb c.edition 1) (λ t. rw t (omega (arith, r.few_flags))) (λ t. rw t (omega (arith, r.few_semaphores, r.few_flags)))

-- the budget of record bytes is that of their recording
pub ready_budget : (s : List ℕ) (c : Counts) (v : List ℕ) → Ready s c → budget_in s ≡ budget_of (recording_by s c v)
unfolding budget_in
ready_budget s c v r =
    let E = recording_by s c v in
    let n : length s / 4 ≡ size E = omega (arith, r.records.whole) in
    rw (n, le-leb (size E) most_events r.records.few)

module _ (f : List ℕ) (h : Trailer) (q : reading_of f ≡ Ok h) where
  pub passed : file_check f ≡ Ok tt
  passed = (accepted_is f h q).1

  trailer : h ≡ trailer_of f
  trailer = (accepted_is f h q).0

  -- the records' part and the level bytes, cut by the trailer, lie within the file
  pub inside : h.start + 4 * h.records ≤ length f
  inside = omega (arith, within f h q)

  pub levels_inside : h.start + 4 * h.records + level_count h.counts ≤ length f
  levels_inside = omega (arith, within f h q)

  module _ (s : List ℕ) (e : s ≡ record_bytes f h) (v : List ℕ) (g : v ≡ level_bytes f h) where
    pub the_recording : recording_by s h.counts v ≡ recording_of f
    unfolding recording_of
    the_recording =
        ap₂ (λ (l : List ℕ) (c : Counts). recording_by l c v) (e ∙ ap (record_bytes f) trailer) (ap (λ (x : Trailer). x.counts) trailer)
        ∙ ap (recording_by (record_bytes f (trailer_of f)) (trailer_of f).counts) (g ∙ ap (level_bytes f) trailer)

    range : InRange h.counts h.records
    range = subst (λ (x : Trailer). InRange x.counts x.records) (sym trailer) (sound f passed).range

    pub ready : Ready s h.counts
    unfolding class_of
    ready =
        let u = sound f passed in
        let E = recording_by s h.counts v in
        let n : size E ≡ (trailer_of f).records = ap size the_recording ∙ size_records f u in
        let acc = subst Accepted (sym the_recording) u.accepted in
        record {
          records =
              record {
                whole = ap length (e ∙ ap (record_bytes f) trailer) ∙ bytes_length f u ∙ ap (λ (m : ℕ). 4 * m) (sym n);
                few = omega (arith, n, u.range.few_records);
                named = task_inside E acc;
                waits = named_below E acc wait most_semaphores range.few_semaphores;
                flag_waits = named_below E acc flag_wait most_flags range.few_flags;
                joined = none_after_join E acc;
              };
          tasks = range.few_tasks;
          cells = range.few_cells;
        }

    -- no more level bytes than these
    pub few_levels : length v ≤ most_semaphores + most_flags
    unfolding level_bytes
    few_levels = omega (arith, ap length g, length-take (level_count h.counts) (drop (h.start + 4 * h.records) f), few_counted h.counts h.records range)

    -- by these records, the budget of a run that settles is the recording's
    pub the_budget : budget_in s ≡ budget_of (recording_of f)
    the_budget = ready_budget s h.counts v ready ∙ ap (λ (F : Recording). budget_of F) the_recording

-- ---- the parts of such a file, the counts among them

module _ (f : List ℕ) (h : Trailer) (q : reading_of f ≡ Ok h) (s : List ℕ) (e : s ≡ record_bytes f h) (c : Counts) (d : c ≡ h.counts)
    (v : List ℕ) (g : v ≡ level_bytes f h) where
  pub parts_recording : recording_by s c v ≡ recording_of f
  parts_recording = rw d (the_recording f h q s e v g)

  pub parts_ready : Ready s c
  parts_ready = rw d (ready f h q s e v g)
