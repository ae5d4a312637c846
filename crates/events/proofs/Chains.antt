-- Laws of the chains: how they start and go on by one place, that they go by the test alone, and what slots hold. Assumes nothing.
use mathlib.Core.Path.{◌≡◌, refl, sym, ap, ap₂, subst, ◌∙◌}
use mathlib.Core.Bool.{Bool, true, false, not, ◌&&◌, ◌||◌, true≢false}
use mathlib.Core.Logic.{⊎_elim}
use mathlib.Core.List.{List, [], ◌∷◌}
use Prim.Native.Nat.{ℕ, ◌+◌, ◌*◌, ◌/◌, ◌%◌, ◌≤◌, ◌<◌, zero-le}
use native.Mathlib.Omega.{arith}
use lib.Dec.{leb, ltb, eqb}
use lib.ListN.{length, get_or, set, replicate, length-set, length-replicate, get_or-replicate}
use lib.Seq.{get_or-set_same, get_or-set_other}
use Rattle.model.specs.declared.Event.{Event}
use Rattle.model.specs.Recording.{event_in, is_on, signal, wait, post}
use Rattle.model.specs.File.{events_of}
use Rattle.model.specs.Reading.{most_semaphores, most_flags}
use Rattle.model.specs.Pairs.{is_access, is_access_of}
use Rattle.model.proofs.Tests.{cases, tests, clash, fails, of-not, to_not, both, first, second, either, leb-true, leb-false, ltb-true, eqb-true, eq-eqb}
use Rattle.events.specs.Chains.{Nearest, head, put_first, left_out, linked, Chained, Chain, slots, slot_of, on_at, Gathered}
use Rattle.events.proofs.Laws.{events_length}

-- over no event yet
pub start : (p : ℕ → ℕ → Bool) (n k : ℕ) → k ≤ 1024 → Chained p n k n (replicate 2048 n)
start p n k h =
    record {
      wide = length-replicate {A = ℕ} 2048 n;
      heads = λ x l. rw (get_or-replicate 2048 (head x) n 0 (omega arith)) (record { low = omega arith; high = omega arith; passed = λ i m o. absurd (omega arith); hit = λ o. absurd (omega arith) });
      links = λ a x l m. absurd (omega arith);
    }

-- nearest from e on, where e is none
nearest_more : (p : ℕ → Bool) (n e b : ℕ) → p e ≡ false → Nearest p n (e + 1) b → Nearest p n e b
nearest_more p n e b h r =
    record {
      low = omega (arith, r.low);
      high = r.high;
      passed = λ i l m. cases (eqb i e) (λ t. let q : i ≡ e = omega tests in rw q h) (λ t. r.passed i (omega tests) m);
      hit = r.hit;
    }

module _ (p : ℕ → ℕ → Bool) (n k e : ℕ) (chain : List ℕ) (c : Chained p n k (e + 1) chain) where
  -- an event that stands in none of the chains
  next_none : ((x : ℕ) → x < k → p x e ≡ false) → Chained p n k e chain
  next_none h =
      record {
        wide = c.wide;
        heads = λ x l. nearest_more (p x) n e _ (h x l) (c.heads x l);
        links = λ a x l m o t. cases (eqb a e) (λ u. let q : a ≡ e = omega tests in clash t (rw q (h x o))) (λ u. c.links a x (omega tests) m o t);
      }

  -- an event that stands in the chain of y, and in no other
  module _ (y : ℕ) (l : y < k) (f : k ≤ 1024) (g : n ≤ 1024) (w : e < n) (h : p y e ≡ true) (only : (x : ℕ) → p x e ≡ true → x ≡ y) where
    at_head : get_or (put_first y e chain) (head y) 0 ≡ e
    at_head = get_or-set_same (set chain e (get_or chain (head y) 0)) (head y) e 0 (omega (arith, length-set chain e (get_or chain (head y) 0), c.wide))

    -- places behind those of the events
    at_others : (x : ℕ) → (x ≡ y → ⊥) → get_or (put_first y e chain) (head x) 0 ≡ get_or chain (head x) 0
    at_others x o =
        get_or-set_other (set chain e (get_or chain (head y) 0)) (head y) (head x) e 0 (λ q. o (omega arith))
        ∙ get_or-set_other chain e (head x) (get_or chain (head y) 0) 0 (λ q. omega arith)

    at_event : (a : ℕ) → a < 1024 → get_or (put_first y e chain) a 0 ≡ get_or (set chain e (get_or chain (head y) 0)) a 0
    at_event a m = get_or-set_other (set chain e (get_or chain (head y) 0)) (head y) a e 0 (λ q. omega arith)

    head_next : (x : ℕ) → x < k → Nearest (p x) n e (get_or (put_first y e chain) (head x) 0)
    head_next x m =
        cases (eqb x y)
        (λ t. let q : x ≡ y = omega tests in rw (q, at_head) (record { low = omega arith; high = omega arith; passed = λ i a b. absurd (omega arith); hit = λ _. h }))
        (λ t. rw (at_others x (λ q. omega tests)) (nearest_more (p x) n e (get_or chain (head x) 0) (fails (p x e) (λ u. let q = only x u in omega tests)) (c.heads x m)))

    link_next : (a x : ℕ) → e ≤ a → a < n → x < k → p x a ≡ true → Nearest (p x) n (a + 1) (get_or (put_first y e chain) a 0)
    link_next a x m r o t =
        cases (eqb a e)
        (λ u.
        let q : a ≡ e = omega tests in
        let z : x ≡ y = only x (rw q at t) in
        rw (at_event a (omega arith), q, z, get_or-set_same chain e (get_or chain (head y) 0) 0 (omega (arith, c.wide))) (c.heads y l))
        (λ u. rw (at_event a (omega arith), get_or-set_other chain e a (get_or chain (head y) 0) 0 (λ q. omega tests)) (c.links a x (omega tests) r o t))

    next_put : Chained p n k e (put_first y e chain)
    next_put =
        record {
          wide = length-set (set chain e (get_or chain (head y) 0)) (head y) e ∙ length-set chain e (get_or chain (head y) 0) ∙ c.wide;
          heads = head_next;
          links = link_next;
        }

-- chains by a number of each event: the event e stands in that of its number alone
pub next_by : (f : ℕ → ℕ) (n k e y : ℕ) (chain : List ℕ) → Chained (λ x i. eqb (f i) x) n k (e + 1) chain → f e ≡ y → y < k → k ≤ 1024 → n ≤ 1024 → e < n
    → Chained (λ x i. eqb (f i) x) n k e (put_first y e chain)
next_by f n k e y chain c q l g h w = next_put (λ x i. eqb (f i) x) n k e chain c y l g h w (eq-eqb (f e) y q) (λ x t. sym (eqb-true (f e) x t) ∙ q)

-- the same chains by another test that says the same
nearest_by : (p q : ℕ → Bool) (n m b : ℕ) → ((i : ℕ) → p i ≡ q i) → Nearest p n m b → Nearest q n m b
nearest_by p q n m b h r = record { low = r.low; high = r.high; passed = λ i l u. sym (h i) ∙ r.passed i l u; hit = λ l. sym (h b) ∙ r.hit l }

-- the chain of x, by another test that says the same
chain_of : (p : ℕ → ℕ → Bool) (n k : ℕ) (chain : List ℕ) → Chained p n k 0 chain → (x : ℕ) → x < k → (q : ℕ → Bool) → ((i : ℕ) → p x i ≡ q i) → Chain q n (head x) chain
chain_of p n k chain c x l q h =
    record {
      first = nearest_by (p x) q n 0 _ h (c.heads x l);
      next = λ a m t. nearest_by (p x) q n (a + 1) _ h (c.links a x zero-le m l (h a ∙ t));
    }

-- ---- the test of the code: an access of a cell below k

pub or_none : (a b : Bool) → (a || b) ≡ false → (a ≡ false) × (b ≡ false)
or_none true b h = absurd (true≢false h)
or_none false b h = (refl, h)

module _ (k : ℕ) (v : Event) where
  outside : left_out k v ≡ true → (x : ℕ) → x < k → is_access_of x v ≡ false
  outside h x l =
      fails (is_access_of x v) λ t.
      ⊎_elim (λ u. clash (first (is_access v) (eqb v.object x) t) (of-not (is_access v) u))
      (λ u. let z = leb-true k v.object u in let d = eqb-true v.object x (second (is_access v) (eqb v.object x) t) in omega arith)
      (either (not (is_access v)) (leb k v.object) h)

  pub within : left_out k v ≡ false → (v.object < k) × (is_access_of v.object v ≡ true)
  within h =
      let (a, b) = or_none (not (is_access v)) (leb k v.object) h in
      (leb-false k v.object b, both (cases (is_access v) (λ t. t) (λ t. clash (to_not t) a)) (eq-eqb v.object v.object refl))

  alone : (x : ℕ) → is_access_of x v ≡ true → x ≡ v.object
  alone x t = sym (eqb-true v.object x (second (is_access v) (eqb v.object x) t))

  -- one place more, that of the event v
  pub linked_next : (p : ℕ → ℕ → Bool) (n e : ℕ) (chain : List ℕ) → Chained p n k (e + 1) chain → ((x : ℕ) → p x e ≡ is_access_of x v)
      → k ≤ 1024 → n ≤ 1024 → e < n → Chained p n k e (linked k v e chain)
  unfolding linked
  linked_next p n e chain c same f g w =
      cases (left_out k v) (λ t. rw t (next_none p n k e chain c (λ x l. same x ∙ outside t x l)))
      (λ t.
      let (l, h) = within t in
      rw t (next_put p n k e chain c v.object l f g w (same v.object ∙ h) (λ x q. alone x (sym (same x) ∙ q))))

-- ---- slots

-- event i of the record bytes s is in the slot y
abbrev pub in_slot : List ℕ → ℕ → ℕ → Bool
in_slot s y i = eqb (slot_of (event_in (events_of s) i).kind (event_in (events_of s) i).object) y

-- the kinds that have slots, 64 each
abbrev slot_kinds : List ℕ
slot_kinds = signal ∷ wait ∷ post ∷ []

-- one that passes the test of its kind
pub slot_passed : (k kind x : ℕ) → (eqb k kind && ltb x 64) ≡ true → (k ≡ kind) × (x < 64)
slot_passed k kind x t = (eqb-true k kind (first (eqb k kind) (ltb x 64) t), ltb-true x 64 (second (eqb k kind) (ltb x 64) t))

-- a slot tells kind and object
slot_tells : (k x : ℕ) → slot_of k x < slots → (k ≡ get_or slot_kinds (slot_of k x / 64) 0) × (x ≡ slot_of k x % 64)
unfolding slot_of
slot_tells k x =
    cases (eqb k signal && ltb x most_semaphores) (λ t. rw t (λ _. told signal 0 x refl (omega arith) t))
    (λ a.
    cases (eqb k wait && ltb x most_semaphores) (λ t. rw (a, t) (λ _. told wait 1 (64 + x) refl (omega arith) t))
    (λ b. cases (eqb k post && ltb x most_flags) (λ t. rw (a, b, t) (λ _. told post 2 (128 + x) refl (omega arith) t)) (λ d. rw (a, b, d) (λ h. absurd (omega arith)))))
  where
    told : (kind j y : ℕ) → kind ≡ get_or slot_kinds j 0 → y ≡ 64 * j + x → (eqb k kind && ltb x 64) ≡ true → (k ≡ get_or slot_kinds (y / 64) 0) × (x ≡ y % 64)
    told kind j y q r t =
        let (a, b) = slot_passed k kind x t in
        let d : j ≡ y / 64 = omega arith in
        (a ∙ q ∙ ap (λ (i : ℕ). get_or slot_kinds i 0) d, omega arith)

-- so in a slot are the events of its kind on its object
slot_on : (kind x : ℕ) (v : Event) → slot_of kind x < slots → eqb (slot_of v.kind v.object) (slot_of kind x) ≡ is_on kind x v
slot_on kind x v h =
    cases (is_on kind x v)
    (λ t.
    let k = eqb-true v.kind kind (first (eqb v.kind kind) (eqb v.object x) t) in
    let o = eqb-true v.object x (second (eqb v.kind kind) (eqb v.object x) t) in
    eq-eqb _ _ (ap₂ slot_of k o) ∙ sym t)
    (λ t.
    fails _ (λ u.
    let q = eqb-true (slot_of v.kind v.object) (slot_of kind x) u in
    let (k, o) = slot_tells kind x h in
    let (m, p) = slot_tells v.kind v.object (subst (λ (y : ℕ). y < slots) (sym q) h) in
    clash (both (eq-eqb v.kind kind (m ∙ ap (λ (y : ℕ). get_or slot_kinds (y / 64) 0) q ∙ sym k)) (eq-eqb v.object x (p ∙ ap (λ (y : ℕ). y % 64) q ∙ sym o))) t)
    ∙ sym t)

-- chains of slots are chains of the events on an object
pub slots_gathered : (s chain : List ℕ) → Chained (in_slot s) (length s / 4) 193 0 chain → Gathered s chain
slots_gathered s chain c =
    record {
      wide = c.wide;
      each =
          λ kind x h.
          rw (events_length s) (chain_of (in_slot s) (length s / 4) 193 chain c (slot_of kind x) (omega arith) (on_at s kind x) (λ i. slot_on kind x (event_in (events_of s) i) h));
    }
