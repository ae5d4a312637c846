-- A pass event by event, and a run pass by pass.
-- Assumes nothing.
use Prim.Native.Nat.{ℕ, ◌+◌, ◌*◌, ◌≤◌}
use mathlib.Core.Path.{◌≡◌, refl, sym, ap, ◌∙◌}
use mathlib.Core.Bool.{Bool, true, false, not}
use mathlib.Core.List.{List}
use native.Mathlib.Numerals.{add-one}
use lib.ListN.{length}
use Rattle.model.specs.Recording.{Recording, size}
use Rattle.model.specs.Vectors.{Vectors, flat, start}
use Rattle.model.specs.Passes.{pass_to, pass, same_row, same, Run, run}
use Rattle.model.proofs.Climb.{run_suc, further_goes, settled_stays}
use Rattle.vectors.specs.Rows.{chunks, Rose}
use Rattle.vectors.proofs.Chunks.{flat_chunks, same_chunks}
use Rattle.passes.specs.Steps.{raised_event}

-- ---- a pass

pub pass_start : (E : Recording) (X : Vectors) → X ≡ pass_to E X 0
unfolding pass_to
pass_start E X = refl

pub pass_next : (E : Recording) (X Y Z : Vectors) (e : ℕ) → Y ≡ pass_to E X e → Z ≡ raised_event E Y e → Z ≡ pass_to E X (e + 1)
unfolding pass_to raised_event
pass_next E X Y Z e q r = rw (add-one e) (r ∙ ap (λ (W : Vectors). raised_event E W e) q)

pub pass_end : (E : Recording) (X Y : Vectors) (e : ℕ) → e ≡ size E → Y ≡ pass_to E X e → Y ≡ pass E X
unfolding pass
pass_end E X Y e q r = r ∙ ap (pass_to E X) q

-- whether a pass was quiet, by the flag
pub quiet : (n m : ℕ) (l k : List ℕ) (r : Bool) → length l ≡ n * m → length k ≡ n * m → Rose l k r → same (chunks n m l) (chunks n m k) ≡ not r
quiet n m l k r p q s = same_chunks n m l k p q ∙ sym (not_not (same_row l k)) ∙ ap not (sym s.flag)
  where
    not_not : (b : Bool) → not (not b) ≡ b
    not_not true = refl
    not_not false = refl

-- ---- a run

-- X are the vectors after b passes, none of them quiet
pub record Made (E : Recording) (b : ℕ) (X : Vectors) : Type 0 where
  pub vectors : X ≡ (run E b).vectors
  pub passes : (run E b).passes ≡ b
  pub unsettled : (run E b).settled ≡ false

pub made_none : (E : Recording) (X : Vectors) → X ≡ start E → Made E 0 X
unfolding run
made_none E X q = record { vectors = q; passes = refl; unsettled = refl }

module _ (E : Recording) (b : ℕ) (X Y : Vectors) (m : Made E b X) (q : Y ≡ pass E X) where
  next : run E (b + 1) ≡ record { passes = b + 1; settled = same X Y; vectors = Y }
  next =
      let v = m.vectors in
      let y : Y ≡ pass E (run E b).vectors = q ∙ ap (pass E) v in
      ap (run E) (add-one b)
      ∙ run_suc E b
      ∙ further_goes E (run E b) m.unsettled
      ∙ rw (m.passes, ← y, ← v, add-one b)

  -- a pass that changes something
  pub made_more : same X Y ≡ false → Made E (b + 1) Y
  made_more d =
      record {
        vectors = sym (ap (λ (r : Run). r.vectors) next);
        passes = ap (λ (r : Run). r.passes) next;
        unsettled = ap (λ (r : Run). r.settled) next ∙ d;
      }

  -- a quiet one
  pub made_quiet : (d : ℕ) → b + 1 ≤ d → same X Y ≡ true → (b + 1 ≡ (run E d).passes) × (true ≡ (run E d).settled) × (Y ≡ (run E d).vectors)
  made_quiet d h t =
      let r : run E d ≡ record { passes = b + 1; settled = same X Y; vectors = Y } =
      settled_stays E (b + 1) d h (ap (λ (r : Run). r.settled) next ∙ t) ∙ next in
      (sym (ap (λ (r : Run). r.passes) r), sym (ap (λ (r : Run). r.settled) r ∙ t), sym (ap (λ (r : Run). r.vectors) r))

-- the budget is spent
pub made_spent : (E : Recording) (b d : ℕ) (X : Vectors) → Made E b X → b ≡ d → (b ≡ (run E d).passes) × (false ≡ (run E d).settled) × (X ≡ (run E d).vectors)
made_spent E b d X m q = rw (← q) (sym m.passes, sym m.unsettled, m.vectors)

-- ---- lent numbers whose rows are known

pub numbers_of : (n m : ℕ) (l : List ℕ) (X : Vectors) → length l ≡ n * m → chunks n m l ≡ X → l ≡ flat X
numbers_of n m l X h q = sym (flat_chunks n m l h) ∙ ap flat q
