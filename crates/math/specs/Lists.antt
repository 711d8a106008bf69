-- What definitions of several crates say of lists.
use Rattle.std.specs.Prelude.{ℕ, zero, suc, Bool, true, ◌&&◌, List, [], ◌∷◌, ◌++◌, take, drop}

-- a test passes for each of a list
abbrev pub every : {A : Type 0} → (A → Bool) → List A → Bool
every test [] = true
every test (x ∷ xs) = test x && every test xs

-- the first n parts of a list that is cut into parts of so many elements
unfoldable pub split : {A : Type 0} → ℕ → ℕ → List A → List (List A)
split size zero l = []
split size (suc n) l = take size l ∷ split size n (drop size l)

-- the first n of a sequence
unfoldable pub firsts : {A : Type 0} → (ℕ → A) → ℕ → List A
firsts f zero = []
firsts f (suc n) = firsts f n ++ (f n ∷ [])
