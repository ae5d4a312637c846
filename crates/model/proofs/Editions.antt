-- What the editions say of start counts and post counts, and that nothing is said of flags and of single-instruction accesses in
-- editions 1 and 2.
-- Assumes nothing.
use Prim.Native.Nat.{ℕ, zero, suc, ◌≤◌, ◌<◌}
use Rattle.std.specs.Prelude.{Ok}
use mathlib.Core.Path.{◌≡◌, refl, sym, ap, ap₂, ◌∙◌}
use mathlib.Core.Bool.{false, not, cond, ◌&&◌, ◌||◌, or_comm}
use mathlib.Core.List.{List, [], ◌∷◌, ◌++◌, append-nil}
use native.Mathlib.Omega.{arith}
use lib.Dec.{leb, eqb}
use lib.ListN.{length, get_or}
use Rattle.model.specs.declared.Event.{Event}
use Rattle.model.specs.declared.Trailer.{Trailer}
use Rattle.model.specs.Numbers.{filter, found}
use Rattle.model.specs.Recording.{start_of, Recording, size, event, kind_of, object_of, signal, wait, read, write, flag_wait, single_read, single_write, wait_kept, flag_kept, life_kept, obeys, has_flags, semaphores_of, flags_of, last_kind, known_kind, Accepted}
use Rattle.model.specs.File.{trailer_of, start_count, recording_of}
use Rattle.model.specs.Reading.{reading_of, starts_of, posts_of}
use Rattle.model.specs.Vectors.{Vectors, ordered}
use Rattle.model.specs.Passes.{sources, signals_on, k_of, needed, candidates}
use Rattle.model.specs.Recorded.{matched, opened, causes}
use Rattle.model.specs.Pairs.{is_write, is_access, is_single, conflict}
use Rattle.model.specs.Editions.{is_plain, plain_conflict, AsBefore, Editions}
use Rattle.model.proofs.Tests.{cases, second, and_true, leb-true, ne_eqb}
use Rattle.model.proofs.Accept.{kept_at}
use Rattle.model.proofs.Files.{sound, reading_passed, trailer_read, accepted_recording, starts_met, posts_met}

no_starts : (f : List ℕ) → (trailer_of f).counts.edition ≡ 1 → (s : ℕ) → start_of (recording_of f).levels s ≡ 0
unfolding recording_of start_count
no_starts f q s = rw q refl

-- ---- a recording whose edition has no flags

none_given : (p : List ℕ) → length p ≡ 0 → p ≡ []
none_given [] q = refl
none_given (x ∷ p) q = absurd (omega arith)

-- no kind of document 01 is an access by a single instruction
plain_kind : (k : ℕ) → k ≤ write → is_single (record { task = 0; kind = k; object = 0 }) ≡ false
plain_kind zero l = refl
plain_kind (suc zero) l = refl
plain_kind (suc (suc zero)) l = refl
plain_kind (suc (suc (suc zero))) l = refl
plain_kind (suc (suc (suc (suc zero)))) l = refl
plain_kind (suc (suc (suc (suc (suc zero))))) l = refl
plain_kind (suc (suc (suc (suc (suc (suc zero)))))) l = refl
plain_kind (suc (suc (suc (suc (suc (suc (suc k))))))) l = absurd (omega arith)

module _ (E : Recording) (acc : Accepted E) (none : has_flags E.counts ≡ false) (given : length E.levels.posts ≡ flags_of E.counts) where
  no_flags : flags_of E.counts ≡ 0
  unfolding flags_of
  no_flags = rw none

  few_kinds : (e : ℕ) → e < size E → kind_of E e ≤ write
  unfolding known_kind last_kind
  few_kinds e l = leb-true (kind_of E e) write (rw none at (second (leb signal (kind_of E e)) _ (kept_at E acc e l).kind))

  no_later : (k : ℕ) → write < k → (e : ℕ) → e < size E → eqb (kind_of E e) k ≡ false
  no_later k g e l = ne_eqb (kind_of E e) k (λ q. omega (arith, few_kinds e l))

  no_flag_wait : (e : ℕ) → e < size E → eqb (kind_of E e) flag_wait ≡ false
  no_flag_wait = no_later flag_wait (omega arith)

  four_rules : (before : List Event) (e : ℕ) → e < size E
      → obeys E.levels before (event E e) ≡ (life_kept before (event E e) && wait_kept E.levels before (event E e))
  unfolding obeys flag_kept
  four_rules before e l = rw (no_flag_wait e l) (and_true _)

  wait_k : (X : Vectors) (e : ℕ) → e < size E → needed E X e ≡ cond (eqb (kind_of E e) wait) (k_of E X e (object_of E e)) 0
  unfolding needed
  wait_k X e l = cases (eqb (kind_of E e) wait) (λ t. rw t) (λ t. rw (t, no_flag_wait e l))

  by_signals : (X : Vectors) (e : ℕ) → e < size E
      → candidates E X e ≡ filter (λ s. not (ordered E.events X e s)) (signals_on E.events (object_of E e))
  unfolding candidates
  by_signals X e l = rw (no_flag_wait e l)

  signal_alone : (e : ℕ) → e < size E → causes E.levels E.events e ≡ sources E.events e ++ found (matched E.levels E.events e)
  unfolding opened
  signal_alone e l = rw (no_flag_wait e l) (ap (λ (m : List ℕ). sources E.events e ++ m) (append-nil _))

  plain_write : (e : ℕ) → e < size E → is_write (event E e) ≡ eqb (kind_of E e) write
  plain_write e l = rw (no_later single_write (omega arith) e l) (or_comm (eqb (kind_of E e) write) false)

  plain : (e : ℕ) → e < size E → is_access (event E e) ≡ is_plain E e
  plain e l = rw (no_later single_read (omega arith) e l) (ap₂ ◌||◌ (or_comm (eqb (kind_of E e) read) false) (plain_write e l))

  no_single : (e : ℕ) → e < size E → is_single (event E e) ≡ false
  no_single e l = plain_kind (kind_of E e) (few_kinds e l)

  plain_conflicts : (a b : ℕ) → a < size E → b < size E → conflict (event E a) (event E b) ≡ plain_conflict E a b
  unfolding conflict
  plain_conflicts a b l m = rw (plain a l, plain b m, plain_write a l, plain_write b m, no_single a l) (and_true _)

  before_edition_3 : AsBefore E
  unfolding semaphores_of
  before_edition_3 =
      record {
        semaphores = rw none;
        flags = no_flags;
        posts = none_given E.levels.posts (given ∙ no_flags);
        kinds = few_kinds;
        rules = four_rules;
        k = wait_k;
        served_by = by_signals;
        follows = signal_alone;
        single = no_single;
        conflicts = plain_conflicts;
      }

-- ---- a file that reading accepts

module _ (f : List ℕ) (h : Trailer) (q : reading_of f ≡ Ok h) where
  starts_are : starts_of f ≡ (recording_of f).levels.starts
  unfolding starts_of
  starts_are = rw (reading_passed f h q)

  posts_are : posts_of f ≡ (recording_of f).levels.posts
  unfolding posts_of
  posts_are = rw (reading_passed f h q)

  as_many_starts : 2 ≤ h.counts.edition → length (starts_of f) ≡ semaphores_of h.counts
  unfolding start_count
  as_many_starts e =
      ap length starts_are ∙ starts_met f (sound f (reading_passed f h q)).extent ∙ ap (λ (t : Trailer). start_count t.counts) (trailer_read f h q)
      ∙ rw (ne_eqb h.counts.edition 1 (λ z. omega arith))

  as_many_posts : length (posts_of f) ≡ flags_of h.counts
  as_many_posts =
      ap length posts_are ∙ posts_met f (sound f (reading_passed f h q)).extent ∙ ap (λ (t : Trailer). flags_of t.counts) (trailer_read f h q)

  as_before : h.counts.edition ≤ 2 → AsBefore (recording_of f)
  unfolding recording_of
  as_before e =
      let own = ap (λ (t : Trailer). t.counts.edition) (trailer_read f h q) in
      before_edition_3 (recording_of f) (accepted_recording f h q) (ne_eqb (trailer_of f).counts.edition 3 (λ z. omega arith))
      (posts_met f (sound f (reading_passed f h q)).extent)

pub editions : Editions
editions =
    record {
      first = no_starts;
      starts = as_many_starts;
      posts = as_many_posts;
      start_bytes = λ f h q s. ap (λ (b : List ℕ). get_or b s 0) (sym (starts_are f h q));
      post_bytes = λ f h q g. ap (λ (b : List ℕ). get_or b g 0) (sym (posts_are f h q));
      as_before = as_before;
    }
