-- Twins: an event of one list of events and one of another with the same task, kind, object and position. Where each task has the
-- same records in the same order in both, each event has a twin and no second, and the two task orders are twins place by place.
-- Assumes nothing.
use Prim.Native.Nat.{ℕ, suc, ◌≤◌, ◌<◌}
use Rattle.std.specs.Prelude.{Some}
use mathlib.Core.Path.{◌≡◌, refl, sym, ap, ap₂, subst, subst₂, ◌∙◌}
use mathlib.Core.Bool.{Bool, true, ◌&&◌}
use mathlib.Core.List.{List}
use native.Mathlib.Omega.{arith}
use lib.Dec.{eqb}
use lib.ListN.{length, get_or, length-map}
use Rattle.model.specs.declared.Event.{Event}
use Rattle.model.specs.Numbers.{tally}
use Rattle.model.specs.Recording.{no_event, event_in, of_task, is_on}
use Rattle.model.specs.Vectors.{position}
use Rattle.model.specs.Pairs.{own_events, task_order}
use Rattle.model.specs.Together.{own_records, at_position, name_of}
use Rattle.model.proofs.Tests.{cases, both, first, second, compared, eqb-true, eqb-false, eq-eqb, ne_eqb}
use Rattle.model.proofs.Sum.{rank_rises, tally_inject}
use Rattle.model.proofs.Place.{at_map, sum_ones}
use Rattle.model.proofs.Picked.{picked_length, rank_at, at_rank}
use Rattle.model.proofs.Alongside.{Alongside, alongside_each, alongside_at, alongside_by}
use Rattle.model.proofs.Sources.{last_some, last_found}
use Rattle.model.proofs.Positions.{position_rank, position_rises, position_one}
use Rattle.model.proofs.TaskOrder.{order_length}

-- ---- the events of a task, by place

module _ (l : List Event) (t : ℕ) where
  -- the one at place i has i others before it
  pub own_at : (i : ℕ) → i < length (own_events l t)
      → let a = get_or (own_events l t) i 0 in (a < length l) × ((event_in l a).task ≡ t) × (position l a ≡ suc i)
  own_at i h =
      let a = get_or (own_events l t) i 0 in
      let (k, p, r) = at_rank (λ e. of_task t (event_in l e)) (length l) i h in
      let own = eqb-true (event_in l a).task t p in
      (k, own, position_rank l a ∙ ap (λ (x : ℕ). suc (tally (λ e. of_task x (event_in l e)) a)) own ∙ ap suc r)

  -- and its record stands there among the task's records
  record_at_lem : (i : ℕ) → i < length (own_events l t) → get_or (own_records l t) i no_event ≡ event_in l (get_or (own_events l t) i 0)
  record_at_lem i h = at_map (event_in l) i (own_events l t) 0 no_event h

-- ---- names

-- the event that a name finds
pub named_of : (l : List Event) (t p a : ℕ) → at_position l t p ≡ Some a → (a < length l) × ((event_in l a).task ≡ t) × (position l a ≡ p)
unfolding at_position
named_of l t p a q =
    let r = last_some (λ e. of_task t (event_in l e) && eqb (position l e) p) (length l) a q in
    let own = first (of_task t (event_in l a)) _ r.passes in
    let here = second (of_task t (event_in l a)) _ r.passes in
    (r.inside, eqb-true (event_in l a).task t own, eqb-true (position l a) p here)

-- an event is found by its name
pub finds : (l : List Event) (t p a : ℕ) → a < length l → (event_in l a).task ≡ t → position l a ≡ p → at_position l t p ≡ Some a
unfolding at_position
finds l t p a k u v =
    let here = both (eq-eqb _ _ u) (eq-eqb _ _ v) in
    let (z, q, r, h) = last_found (λ e. of_task t (event_in l e) && eqb (position l e) p) (length l) a k here in
    let (i, j, n) = named_of l t p z q in
    q ∙ ap (λ (c : ℕ). Some c) (position_one l z a (j ∙ sym u) (n ∙ sym v))

-- ---- twins

pub record Twin (l m : List Event) (a x : ℕ) : Type 0 where
  pub left : a < length l
  pub right : x < length m
  pub same : event_in l a ≡ event_in m x
  pub place : position l a ≡ position m x

module _ (l m : List Event) where
  pub twin_sym : (a x : ℕ) → Twin l m a x → Twin m l x a
  twin_sym a x w = record { left = w.right; right = w.left; same = sym w.same; place = sym w.place }

  -- an event has one twin
  pub twin_one : (a b x : ℕ) → Twin l m a x → Twin l m b x → a ≡ b
  twin_one a b x v w = position_one l a b (ap (λ (r : Event). r.task) (v.same ∙ sym w.same)) (v.place ∙ sym w.place)

module _ (l m : List Event) where
  -- so two events are one where their twins are
  pub twin_equal : (a b x y : ℕ) → Twin l m a x → Twin l m b y → eqb a b ≡ eqb x y
  twin_equal a b x y v w =
      cases (eqb a b)
      (λ t.
      let u = subst (λ (c : ℕ). Twin l m c y) (sym (eqb-true a b t)) w in
      t ∙ sym (eq-eqb x y (twin_one m l x y a (twin_sym l m a x v) (twin_sym l m a y u))))
      (λ t. t ∙ sym (ne_eqb x y (λ q. eqb-false a b t (twin_one l m a b x v (subst (Twin l m b) (sym q) w)))))

  -- twins are alike: one is of the kind k that an event asks for, on its object, where its twin is so for that event's twin
  pub twin_on : (k : Event → ℕ) (e x a y : ℕ) → Twin l m e x → Twin l m a y
      → is_on (k (event_in l e)) (event_in l e).object (event_in l a) ≡ is_on (k (event_in m x)) (event_in m x).object (event_in m y)
  twin_on k e x a y w v = ap₂ (λ (u r : Event). is_on (k u) u.object r) w.same v.same

  -- and their pairs have the same name
  pub twin_name : (a b x y i j : ℕ) → Twin l m a x → Twin l m b y
      → name_of l (record { first = a; second = b; mark = i }) ≡ name_of m (record { first = x; second = y; mark = j })
  unfolding name_of
  twin_name a b x y i j v w = rw (v.same, v.place, w.same, w.place)

  -- twins stand in the same order in their task
  pub twin_before : (a b x y : ℕ) → Twin l m a x → Twin l m b y → (event_in l a).task ≡ (event_in l b).task → a < b → x < y
  twin_before a b x y v w t k =
      let r = position_rises l a b k t in
      let p = v.place in
      let q = w.place in
      let u : (event_in m x).task ≡ (event_in m y).task = subst₂ (λ (i j : Event). i.task ≡ j.task) v.same w.same t in
      compared x y (λ h. h) (λ e. let h = ap (position m) e in absurd (omega arith))
      (λ h. let i = position_rises m y x h (sym u) in absurd (omega arith))

-- each task has the same records, by position
abbrev pub SameRecords : List Event → List Event → Type 0
SameRecords l m = (t : ℕ) → own_records l t ≡ own_records m t

module _ (l m : List Event) (same : SameRecords l m) where
  -- the events of a task are twins by place
  own_twins : (t : ℕ) → Alongside (Twin l m) (own_events l t) (own_events m t)
  own_twins t =
      let n : length (own_events l t) ≡ length (own_events m t) =
      sym (length-map (own_events l t) (event_in l)) ∙ ap length (same t) ∙ length-map (own_events m t) (event_in m) in
      alongside_by (own_events l t) (own_events m t) n
      (λ i h.
      let k : i < length (own_events m t) = omega arith in
      let (inl, tl, pl) = own_at l t i h in
      let (inm, tm, pm) = own_at m t i k in
      record {
        left = inl;
        right = inm;
        same = sym (record_at_lem l t i h) ∙ ap (λ (r : List Event). get_or r i no_event) (same t) ∙ record_at_lem m t i k;
        place = pl ∙ sym pm;
      })

  -- each event has a twin
  pub twin_of : (a : ℕ) → a < length l → (x : ℕ) × Twin l m a x
  twin_of a h =
      let t = (event_in l a).task in
      let own : of_task t (event_in l a) ≡ true = eq-eqb t t refl in
      let i = tally (λ e. of_task t (event_in l e)) a in
      let less = rank_rises (λ e. of_task t (event_in l e)) a (length l) h own in
      let n = picked_length (λ e. of_task t (event_in l e)) (length l) in (
        get_or (own_events m t) i 0,
        subst (λ (b : ℕ). Twin l m b (get_or (own_events m t) i 0)) (rank_at (λ e. of_task t (event_in l e)) (length l) a h own)
            (alongside_at (own_twins t) i (omega arith)),
      )

  -- so are the events in task order, tasks below i here and below j there
  pub tasks_twins : (i j : ℕ) → i ≡ j → Alongside (Twin l m) (task_order l i) (task_order m j)
  unfolding task_order
  tasks_twins i j q = alongside_each (own_events l) (own_events m) own_twins i j q

  -- where each event is of a task below `tasks`, that is all events, by place
  pub order_twins : (tasks : ℕ) → ((e : ℕ) → e < length l → (event_in l e).task < tasks) → (i : ℕ) → i < length l
      → Twin l m (get_or (task_order l tasks) i 0) (get_or (task_order m tasks) i 0)
  order_twins tasks named i h = alongside_at (tasks_twins tasks tasks refl) i (let n = order_length l tasks named in omega arith)

-- ---- counts

pub same_back : (l m : List Event) → SameRecords l m → SameRecords m l
same_back l m same t = sym (same t)

-- what passes in m is no more than what passes in l, where the twins of what passes in m do
pub fewer : (l m : List Event) → SameRecords l m → (p q : ℕ → Bool)
    → ((a x : ℕ) → Twin l m a x → q x ≡ true → p a ≡ true) → tally q (length m) ≤ tally p (length l)
fewer l m same p q h =
    tally_inject (λ x a. Twin m l x a) (λ x y a v w. twin_one m l x y a v w) q p (length m) (length l)
    (λ x k t. let (a, w) = twin_of m l (same_back l m same) x k in (a, w.right, h a x (twin_sym m l x a w) t, w))

-- so there are as many events
pub same_size : (l m : List Event) → SameRecords l m → length l ≡ length m
same_size l m same =
    let i = sum_ones (length l) in
    let j = sum_ones (length m) in
    let h = fewer l m same (λ a. true) (λ x. true) (λ a x w t. refl) in
    let k = fewer m l (same_back l m same) (λ x. true) (λ a. true) (λ x a w t. refl) in omega arith
