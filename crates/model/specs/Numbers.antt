-- Sums, counts and lists of numbers: what the definitions of the papers are written with.
-- Assumes nothing.
use Rattle.std.specs.Prelude.{ℕ, zero, suc, ◌+◌, max, Bool, true, false, cond, List, [], ◌∷◌, ◌++◌, leb, get_or, Option, Some, None}

abbrev pub bit : Bool → ℕ
bit true = 1
bit false = 0

-- f 0 + .. + f (n - 1)
unfoldable pub sum : (ℕ → ℕ) → ℕ → ℕ
sum f zero = 0
sum f (suc n) = sum f n + f n

-- how many numbers below n pass the test
abbrev pub tally : (ℕ → Bool) → ℕ → ℕ
tally p n = sum (λ e. bit (p e)) n

-- how many elements of the list pass the test
unfoldable pub count : {A : Type 0} → (A → Bool) → List A → ℕ
count p [] = 0
count p (x ∷ l) = bit (p x) + count p l

-- the elements of the list that pass the test
unfoldable pub filter : {A : Type 0} → (A → Bool) → List A → List A
filter p [] = []
filter p (x ∷ l) = cond (p x) (x ∷ filter p l) (filter p l)

-- f i, f (i + 1), .., n of them
unfoldable pub list_from : {A : Type 0} → (ℕ → A) → ℕ → ℕ → List A
list_from f i zero = []
list_from f i (suc n) = f i ∷ list_from f (suc i) n

-- f 0, .., f (n - 1)
abbrev pub list_of : {A : Type 0} → (ℕ → A) → ℕ → List A
list_of f n = list_from f 0 n

-- f 0 ++ .. ++ f (n - 1)
unfoldable pub each : {A : Type 0} → (ℕ → List A) → ℕ → List A
each f zero = []
each f (suc n) = each f n ++ f n

-- f of each element of the list, one after another
unfoldable pub flat_map : {A B : Type 0} → (A → List B) → List A → List B
flat_map f [] = []
flat_map f (x ∷ l) = f x ++ flat_map f l

-- f of each element of the list and the elements behind it, one after another
unfoldable pub flat_map_tails : {A B : Type 0} → (A → List A → List B) → List A → List B
flat_map_tails f [] = []
flat_map_tails f (x ∷ l) = f x l ++ flat_map_tails f l

-- the numbers below n that pass the test, in order
unfoldable pub picked : (ℕ → Bool) → ℕ → List ℕ
picked p n = each (λ e. cond (p e) (e ∷ []) []) n

-- the last number below n that passes the test
unfoldable pub last_of : (ℕ → Bool) → ℕ → Option ℕ
last_of p zero = None
last_of p (suc n) = elim (p n) [ true ↦ Some n | false ↦ last_of p n ]

-- the element at place k, from 0
unfoldable pub nth : List ℕ → ℕ → Option ℕ
nth [] k = None
nth (x ∷ l) zero = Some x
nth (x ∷ l) (suc k) = nth l k

-- what was found, as a list
abbrev pub found : Option ℕ → List ℕ
found (Some e) = e ∷ []
found None = []

-- the largest f x over the list; 0 where it is empty
unfoldable pub largest : {A : Type 0} → (A → ℕ) → List A → ℕ
largest f [] = 0
largest f (x ∷ l) = max (f x) (largest f l)

-- x put before the first number that is not below it
unfoldable pub insert : ℕ → List ℕ → List ℕ
insert x [] = x ∷ []
insert x (y ∷ l) = cond (leb x y) (x ∷ y ∷ l) (y ∷ insert x l)

unfoldable pub sort : List ℕ → List ℕ
sort [] = []
sort (x ∷ l) = insert x (sort l)

-- the k-th least, from 1: the k-th number once sorted; 0 where there are fewer than k, and for k = 0
unfoldable pub kth_least : ℕ → List ℕ → ℕ
kth_least zero l = 0
kth_least (suc k) l = get_or (sort l) k 0
