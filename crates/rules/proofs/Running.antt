-- Laws of the running counts: how they start and go on by one event, what they are at most, and when an event has a place in them. Assumes nothing.
use mathlib.Core.Path.{◌≡◌, refl, sym, ap, ◌∙◌}
use Rattle.std.specs.Prelude.{Ok}
use mathlib.Core.Bool.{Bool, true, false, ◌&&◌}
use mathlib.Core.List.{List, [], ◌∷◌, ◌++◌}
use Prim.Native.Nat.{ℕ, zero, suc, ◌+◌, ◌≤◌, ◌<◌}
use native.Mathlib.Omega.{arith}
use lib.Dec.{eqb, ltb, leb}
use lib.ListN.{length, get_or, replicate, length-set, length-replicate, get_or-replicate}
use Rattle.model.specs.declared.Event.{Event}
use Rattle.model.specs.declared.Counts.{Counts}
use Rattle.model.specs.Numbers.{bit, count}
use Rattle.model.specs.Recording.{Levels, join, read, write, post, flag_wait, of_task, is_on, class_of, names_of, known_kind, named, record_check}
use Rattle.model.specs.Reading.{in_range}
use Rattle.model.proofs.Tests.{cases, clash, tests, first, second, ne_eqb}
use Rattle.model.proofs.Checks.{failed_passed}
use Rattle.model.proofs.Files.{in_range_lem}
use Rattle.model.proofs.Counting.{count_append, count_length}
use Rattle.events.proofs.Running.{more_at}
use Rattle.rules.specs.Running.{places, Few, counted, Counted, Small, place, Running, Room, noted_on, noted_own}

-- a kind that is counted has a row of its own
pub low : (k : ℕ) → Counted k → k ≤ post
low k h = cases (leb k join) (λ t. omega tests) (λ t. let q : eqb k post ≡ true = rw t at h in omega tests)

-- before the first event
pub start : Running [] (replicate 512 0) (replicate 64 0)
unfolding count
start =
    record {
      wide = length-replicate {A = ℕ} 512 0;
      tall = length-replicate {A = ℕ} 64 0;
      counted = λ k x a b. get_or-replicate 512 (place k x) 0 0 (omega (arith, low k a));
      owned = λ t h. get_or-replicate 64 t 0 0 h;
    }

-- objects of one kind have places of their own
place_same : (k x l y : ℕ) → x < places → y < places → eqb (place k x) (place l y) ≡ (eqb k l && eqb x y)
place_same k x l y a b =
    cases (eqb k l) (λ t. rw t (cases (eqb x y) (λ u. rw u (omega tests)) (λ u. rw u (omega tests)))) (λ t. rw t (omega tests))

count_last : (p : Event → Bool) (before : List Event) (v : Event) → count p (before ++ v ∷ []) ≡ count p before + bit (p v)
unfolding count
count_last p before v = count_append p before (v ∷ []) ∙ omega arith

-- one event more, which has its places
module _ (before : List Event) (on own : List ℕ) (v : Event) (r : Running before on own) (s : Small v) where
  counted_next : (k x : ℕ) → Counted k → x < places → get_or (noted_on on v) (place k x) 0 ≡ count (is_on k x) (before ++ v ∷ [])
  unfolding noted_on
  counted_next k x a b =
      let m = count_last (is_on k x) before v in
      cases (counted v.kind)
      (λ t. let o : v.object < places = s.object t in let q = ap bit (place_same v.kind v.object k x o b) in
      rw t (omega (arith, more_at on (place v.kind v.object) (place k x) (omega (arith, r.wide, low v.kind t)), r.counted k x a b)))
      (λ t.
      let z : eqb v.kind k ≡ false = ne_eqb v.kind k (λ e. clash a (sym (ap counted e) ∙ t)) in
      let q : is_on k x v ≡ false = rw z in
      rw t (omega (arith, ap bit q, r.counted k x a b)))

  pub next : Running (before ++ v ∷ []) (noted_on on v) (noted_own own v)
  unfolding noted_on noted_own
  next =
      record {
        wide = cases (counted v.kind) (λ t. rw t (length-set on (place v.kind v.object) _ ∙ r.wide)) (λ t. rw t r.wide);
        tall = length-set own v.task _ ∙ r.tall;
        counted = counted_next;
        owned = λ t h. omega (arith, more_at own v.task t (omega (arith, s.task, r.tall)), r.owned t h, count_last (of_task t) before v);
      }

  -- a count is at most as many as have come
  pub room : length before < 65535 → Room on own v
  room h =
      record {
        kind = λ k. omega (arith, r.counted v.kind v.object k (s.object k), count_length (is_on v.kind v.object) before);
        task = omega (arith, r.owned v.task s.task, count_length (of_task v.task) before);
      }

-- counts in range are few enough
pub few : (c : Counts) (n : ℕ) → in_range c n ≡ true → Few c
few c n h = let r = in_range_lem c n h in record { tasks = omega arith; semaphores = r.few_semaphores; flags = r.few_flags }

-- an event whose names are known has its places, unless it is an access: a cell has none
few_names : (c : Counts) (k : ℕ) → Few c → k ≤ flag_wait → ¬ (k ≡ read) → ¬ (k ≡ write) → names_of c (class_of k) ≤ places
unfolding class_of
few_names c zero f l h g = omega arith
few_names c (suc zero) f l h g = f.semaphores
few_names c (suc (suc zero)) f l h g = f.semaphores
few_names c (suc (suc (suc zero))) f l h g = f.tasks
few_names c (suc (suc (suc (suc zero)))) f l h g = f.tasks
few_names c (suc (suc (suc (suc (suc zero))))) f l h g = absurd (h refl)
few_names c (suc (suc (suc (suc (suc (suc zero)))))) f l h g = absurd (g refl)
few_names c (suc (suc (suc (suc (suc (suc (suc zero))))))) f l h g = f.flags
few_names c (suc (suc (suc (suc (suc (suc (suc (suc zero)))))))) f l h g = f.flags
few_names c (suc (suc (suc (suc (suc (suc (suc (suc (suc k))))))))) f l h g = absurd (omega arith)

pub small : (c : Counts) (v : Event) → Few c → named c v ≡ true → Small v
unfolding named
small c v f h =
    let t = first (ltb v.task c.tasks) (ltb v.object (names_of c (class_of v.kind))) h in
    let o = second (ltb v.task c.tasks) (ltb v.object (names_of c (class_of v.kind))) h in
    record {
      task = omega (tests, f.tasks);
      object = λ k. omega (tests, few_names c v.kind f (omega (arith, low v.kind k)) (λ q. clash k (ap counted q)) (λ q. clash k (ap counted q)));
      flag = λ k. omega (tests, few_names c v.kind f (omega arith) (λ q. omega arith) (λ q. omega arith));
    }

-- and so has one that passed the check
pub passed_small : (c : Counts) (x : Levels) (before : List Event) (v : Event) → Few c → Ok tt ≡ record_check c x before v → Small v
unfolding record_check
passed_small c x before v f h =
    cases (known_kind c v)
    (λ a. cases (named c v) (small c v f) (λ b. failed_passed _ (rw (a, b) at (sym h))))
    (λ a. failed_passed _ (rw a at (sym h)))
