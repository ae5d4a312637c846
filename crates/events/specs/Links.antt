-- The numbers that a chain links, one after another.
-- Assumes nothing.
use Rattle.std.specs.Prelude.{ℕ, zero, suc, Bool, cond, List, [], ◌∷◌, ltb, get_or}
use Rattle.std.specs.List.{list_all}

-- from m on, as long as they are below n; k of them at most
unfoldable pub along : List ℕ → ℕ → ℕ → ℕ → List ℕ
along links n zero m = []
along links n (suc k) m = cond (ltb m n) (m ∷ along links n k (get_or links m 0)) []

-- each link leads up
unfoldable pub rising : List ℕ → ℕ → ℕ → Bool
rising links n m = list_all (λ a. ltb a (get_or links a 0)) (along links n n m)
