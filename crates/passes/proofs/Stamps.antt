-- Laws of the stamps: what the raising of an event reads is what its stamps watch, so an event that reads nothing that has changed since
-- its last turn stays as it is. Assumes nothing.
use Prim.Native.Nat.{ℕ, zero, suc, ◌+◌, ◌*◌, ◌≤◌, ◌<◌, zero-le}
use mathlib.Core.Path.{◌≡◌, refl, sym, ap, subst, ◌∙◌}
use mathlib.Core.Logic.{inl, inr, ⊎_elim}
use mathlib.Core.Bool.{Bool, true, cond, ◌&&◌}
use mathlib.Core.List.{List, [], ◌∷◌, ◌++◌, Memᴰ}
use native.Mathlib.Nat.{le_refl}
use native.Mathlib.Omega.{arith}
use lib.Dec.{ltb, eqb}
use lib.ListN.{length, get_or, set, replicate, length-set, length-replicate, get_or-replicate, get_or-eq_default}
use lib.Seq.{get_or-set_same, get_or-set_other, set-get_or}
use Rattle.model.specs.declared.Event.{Event}
use Rattle.model.specs.Numbers.{found}
use Rattle.model.specs.Recording.{Recording, size, event, event_in, kind_of, object_of, is_on, signal, wait, post}
use Rattle.model.specs.Vectors.{Vectors}
use Rattle.model.specs.Reading.{most_semaphores, most_flags, most_events}
use Rattle.model.specs.Passes.{sources, events_on, serving, raised}
use Rattle.model.specs.Raising.{Waiting, Reads}
use Rattle.model.proofs.Tests.{cases, both, first, second, eqb-true, eqb-false, ltb-true, ltb-false, lt-ltb}
use Rattle.model.proofs.Picked.{picked_mem}
use Rattle.model.proofs.Raising.{raised_apart}
use Rattle.events.specs.Kept.{found_below, source_of, Sources}
use Rattle.events.specs.Chains.{slots, slot_of}
use Rattle.events.proofs.Kept.{place_of, three_sources}
use Rattle.events.proofs.Chains.{slot_passed}
use Rattle.passes.specs.Stamps.{stamps, slot_stamp, served_at, below, still, touched, Known}
use Rattle.passes.specs.Steps.{raised_event}

-- ---- places

-- a bound on both is one on either
cond_le : (b : Bool) (x y m : ℕ) → (b ≡ true → x ≤ m) → y ≤ m → cond b x y ≤ m
cond_le b x y m h k = cases b (λ t. rw t (h t)) (λ t. rw t k)

slot_few : (kind x : ℕ) → slot_of kind x ≤ slots
unfolding slot_of
slot_few kind x =
    cond_le (eqb kind signal && ltb x most_semaphores) x _ slots (λ t. omega (arith, (slot_passed kind signal x t).1))
    (cond_le (eqb kind wait && ltb x most_semaphores) (64 + x) _ slots (λ t. omega (arith, (slot_passed kind wait x t).1))
    (cond_le (eqb kind post && ltb x most_flags) (128 + x) slots slots (λ t. omega (arith, (slot_passed kind post x t).1)) (le_refl slots)))

-- the stamp of what serves a wait is that of its slot
served_stamp : (E : Recording) (e : ℕ) → Waiting E e → served_at (event E e) ≡ slot_stamp (slot_of (serving (kind_of E e)) (object_of E e))
unfolding served_at
served_stamp E e (inl q) = rw q
served_stamp E e (inr q) = rw q

-- ---- sources

-- a kept number stands for no other event
kept_only : (n x a : ℕ) → Memᴰ a (found (found_below n x)) → a ≡ x
kept_only n x a m = cases (ltb x n) (λ t. mathlib.Core.List.Memᴰ.eq_of_singleton (rw t at m)) (λ t. absurd (mathlib.Core.List.Memᴰ.not-nil (rw t at m)))

module _ (l : List Event) (kept : List ℕ) (k : Sources l kept) (e : ℕ) (h : e < length l) where
  source_at : (j i a : ℕ) → j < 3 → i ≡ 3 * e + j → Memᴰ a (found (source_of l e j)) → a ≡ get_or kept i 0
  source_at j i a q r m = let (d, o) = place_of i e j r q in kept_only (length l) (get_or kept i 0) a (rw (k.source i (omega arith), d, o) m)

  -- what holds of the three kept numbers holds of each source
  each_source : (P : ℕ → Type 0) → P (get_or kept (3 * e) 0) → P (get_or kept (3 * e + 1) 0) → P (get_or kept (3 * e + 2) 0) → (a : ℕ) → Memᴰ a (sources l e) → P a
  each_source P x y z a m =
      let of_join_lem : Memᴰ a (found (source_of l e 1) ++ found (source_of l e 2)) → P a = λ w.
      ⊎_elim (λ u. rw (source_at 1 (3 * e + 1) a (omega arith) refl u) y) (λ u. rw (source_at 2 (3 * e + 2) a (omega arith) refl u) z)
      (mathlib.Core.List.Memᴰ.append_cases (found (source_of l e 1)) w) in
      ⊎_elim (λ u. rw (source_at 0 (3 * e) a (omega arith) (omega arith) u) x) of_join_lem (mathlib.Core.List.Memᴰ.append_cases (found (source_of l e 0)) (rw (three_sources l e) at m))

-- ---- what is still

both_by : {a b c d : Bool} → (a ≡ true → c ≡ true) → (b ≡ true → d ≡ true) → (a && b) ≡ true → (c && d) ≡ true
both_by {a} {b} f g p = both (f (first a b p)) (g (second a b p))

module _ (l : List Event) (kept : List ℕ) (e since : ℕ) where
  -- with stamps that are no later it is still too
  still_by : (when last : List ℕ) → ((i : ℕ) → get_or when i 0 ≤ get_or last i 0) → still l kept last e since ≡ true → still l kept when e since ≡ true
  unfolding still
  still_by when last h =
      let each : (i : ℕ) → below last since i ≡ true → below when since i ≡ true = λ i t.
      lt-ltb (get_or when i 0) since (omega (arith, h i, ltb-true (get_or last i 0) since t)) in
      both_by (both_by (both_by (both_by (each e) (each (get_or kept (3 * e) 0))) (each (get_or kept (3 * e + 1) 0))) (each (get_or kept (3 * e + 2) 0))) (each (served_at (event_in l e)))

  -- the stamps that it reads
  still_tells : (when : List ℕ) → still l kept when e since ≡ true
      → (get_or when e 0 < since) × (get_or when (get_or kept (3 * e) 0) 0 < since) × (get_or when (get_or kept (3 * e + 1) 0) 0 < since) × (get_or when (get_or kept (3 * e + 2) 0) 0 < since)
      × (get_or when (served_at (event_in l e)) 0 < since)
  unfolding still
  still_tells when t =
      let a = below when since e in
      let b = below when since (get_or kept (3 * e) 0) in
      let c = below when since (get_or kept (3 * e + 1) 0) in
      let d = below when since (get_or kept (3 * e + 2) 0) in
      let f = below when since (served_at (event_in l e)) in
      let four = first (a && b && c && d) f t in
      let three = first (a && b && c) d four in
      let two = first (a && b) c three in
      let told : (i : ℕ) → below when since i ≡ true → get_or when i 0 < since = λ i. ltb-true (get_or when i 0) since in
      (told _ (first a b two), told _ (second a b two), told _ (second (a && b) c three), told _ (second (a && b && c) d four), told _ (second (a && b && c && d) f t))

-- ---- a stamp is set

stamp_up : (o : List ℕ) (e t i : ℕ) → get_or o i 0 ≤ t → (get_or o i 0 ≤ get_or (set o e t) i 0) × (get_or (set o e t) i 0 ≤ t)
stamp_up [] e t i h = (zero-le, zero-le)
stamp_up (x ∷ o) zero t zero h = (h, le_refl t)
stamp_up (x ∷ o) zero t (suc i) h = (le_refl (get_or o i 0), h)
stamp_up (x ∷ o) (suc e) t zero h = (le_refl x, h)
stamp_up (x ∷ o) (suc e) t (suc i) h = stamp_up o e t i h

module _ (v : Event) (e time : ℕ) (when : List ℕ) where
  -- no stamp falls, nor is it later than this time
  touched_up : (i : ℕ) → get_or when i 0 ≤ time → (get_or when i 0 ≤ get_or (touched v e time when) i 0) × (get_or (touched v e time when) i 0 ≤ time)
  touched_up i h =
      let a = stamp_up when e time i h in
      let b = stamp_up (set when e time) (slot_stamp (slot_of v.kind v.object)) time i a.1 in
      (omega arith, b.1)

  touched_length : length (touched v e time when) ≡ length when
  touched_length = length-set (set when e time) (slot_stamp (slot_of v.kind v.object)) time ∙ length-set when e time

  -- both are set
  touched_event : e < most_events → e < length when → get_or (touched v e time when) e 0 ≡ time
  touched_event h k =
      get_or-set_other (set when e time) (slot_stamp (slot_of v.kind v.object)) e time 0 (λ q. omega arith) ∙ get_or-set_same when e time 0 k

  touched_slot : length when ≡ stamps → get_or (touched v e time when) (slot_stamp (slot_of v.kind v.object)) 0 ≡ time
  touched_slot h =
      let y = slot_of v.kind v.object in
      get_or-set_same (set when e time) (slot_stamp y) time 0 (omega (arith, slot_few v.kind v.object, length-set when e time))

-- ---- turns

module _ (E : Recording) (kept : List ℕ) (k : Sources E.events kept) where
  -- where e reads the vector of j, which changed at this time, that is seen
  watched : (when : List ℕ) (e j since time : ℕ) → e < size E → Reads E e j → get_or when j 0 ≡ time
      → get_or when (slot_stamp (slot_of (kind_of E j) (object_of E j))) 0 ≡ time → still E.events kept when e since ≡ true → time < since
  unfolding events_on
  watched when e j since time h (inl m) p q s =
      let t = still_tells E.events kept e since when s in
      let low : get_or when j 0 < since =
      ⊎_elim (λ r. rw r t.0) (λ u. each_source E.events kept k e h (λ x. get_or when x 0 < since) t.1 t.2 t.3 j u) (mathlib.Core.List.Memᴰ.cases_cons m) in
      omega arith
  watched when e j since time h (inr (w, m)) p q s =
      let kind = serving (kind_of E e) in
      let on = (picked_mem (λ a. is_on kind (object_of E e) (event E a)) j (size E) m).1 in
      let same : kind_of E j ≡ kind = eqb-true (kind_of E j) kind (first (eqb (kind_of E j) kind) (eqb (object_of E j) (object_of E e)) on) in
      let object : object_of E j ≡ object_of E e = eqb-true (object_of E j) (object_of E e) (second (eqb (kind_of E j) kind) (eqb (object_of E j) (object_of E e)) on) in
      let place : slot_stamp (slot_of (kind_of E j) (object_of E j)) ≡ served_at (event E e) = rw (same, object) (sym (served_stamp E e w)) in
      omega (arith, ap (λ (i : ℕ). get_or when i 0) place, (still_tells E.events kept e since when s).4)

  -- an event that reads nothing that has changed since its last turn stays as it is
  pub known_still : (X : Vectors) (when : List ℕ) (base j since : ℕ) → j < size E → Known E X kept when base j → still E.events kept when j since ≡ true
      → since + 1024 ≤ base + j → raised E X j ≡ get_or X j []
  known_still X when base j since l n s h = n.clean j since l (omega arith) (λ _. h) s

  -- its turn
  pub known_kept : (X : Vectors) (when : List ℕ) (base j : ℕ) → Known E X kept when base j → raised E X j ≡ get_or X j []
      → Known E X kept when base (j + 1)
  known_kept X when base j n q =
      record {
        room = n.room;
        past = λ i. omega (arith, n.past i);
        clean = λ e since h p r s.
            cases (eqb e j) (λ t. rw (eqb-true e j t) q)
            (λ t. let d = eqb-false e j t in n.clean e since h p (λ g. r (omega arith)) s);
      }

  -- the turn of one that is raised, and changes
  pub known_raised : (X Y : Vectors) (when : List ℕ) (base j : ℕ) → j < size E → size E ≤ most_events → length X ≡ size E → Known E X kept when base j
      → Y ≡ raised_event E X j → Known E Y kept (touched (event E j) j (base + j) when) base (j + 1)
  unfolding raised_event
  known_raised X Y when base j l few rows n q =
      let row = raised E X j in
      let last = touched (event E j) j (base + j) when in
      let up : (i : ℕ) → (get_or when i 0 ≤ get_or last i 0) × (get_or last i 0 ≤ base + j) = λ i.
      touched_up (event E j) j (base + j) when i (omega (arith, n.past i)) in
      rw q
      (record {
        room = touched_length (event E j) j (base + j) when ∙ n.room;
        past = λ i. omega (arith, (up i).1);
        clean = λ e since h p r s.
            let apart : Reads E e j → ⊥ = λ m.
            let z = watched last e j since (base + j) h m (touched_event (event E j) j (base + j) when (omega arith) (omega (arith, n.room)))
            (touched_slot (event E j) j (base + j) when n.room) s in
            omega (arith, r (omega arith)) in
            let d : e ≡ j → ⊥ = λ o. apart (subst (Reads E e) o (inl (mathlib.Core.List.Memᴰ.head refl))) in
            raised_apart E X e j row (omega arith) apart
            ∙ n.clean e since h p (λ g. r (omega arith)) (still_by E.events kept e since when last (λ i. (up i).0) s)
            ∙ sym (get_or-set_other X j e row [] d);
      })

  -- and of one that is raised, and does not
  pub known_quiet : (X Y : Vectors) (when : List ℕ) (base j : ℕ) → j < length X → Known E X kept when base j → Y ≡ raised_event E X j → X ≡ Y
      → Known E Y kept when base (j + 1)
  unfolding raised_event
  known_quiet X Y when base j l n q r =
      rw (← r) (known_kept X when base j n (sym (ap (λ (Z : Vectors). get_or Z j []) (r ∙ q) ∙ get_or-set_same X j (raised E X j) [] l)))

-- left as it is, an event is as if it had been raised
pub stays : (E : Recording) (X : Vectors) (e : ℕ) → raised E X e ≡ get_or X e [] → X ≡ raised_event E X e
unfolding raised_event
stays E X e q = rw q (sym (set-get_or X e []))

-- ---- passes

-- before the first pass no event has had its turn
pub known_first : (E : Recording) (X : Vectors) (kept : List ℕ) {x : ℕ} → size E ≤ most_events → x ≡ 1023 → Known E X kept (replicate stamps x) 1024 0
known_first E X kept {x} few q =
    let n = length-replicate stamps x in
    record {
      room = n;
      past = λ i.
          cases (ltb i stamps) (λ t. omega (arith, get_or-replicate stamps i x 0 (ltb-true i stamps t)))
          (λ t. omega (arith, get_or-eq_default (replicate stamps x) 0 {n = i} (omega (arith, n, ltb-false i stamps t))));
      clean = λ e since h l r s.
          absurd (omega (arith, get_or-replicate stamps e x 0 (omega arith), (still_tells E.events kept e since (replicate stamps x) s).0, r zero-le));
    }

-- after the last turn of a pass the next begins
pub known_pass : (E : Recording) (X : Vectors) (kept when : List ℕ) (base j : ℕ) → j ≡ size E → j ≤ most_events → Known E X kept when base j
    → Known E X kept when (base + 1024) 0
known_pass E X kept when base j q few n =
    record {
      room = n.room;
      past = λ i. omega (arith, n.past i);
      clean = λ e since h p r s. n.clean e since h (omega (arith, r zero-le)) (λ g. absurd (omega arith)) s;
    }
