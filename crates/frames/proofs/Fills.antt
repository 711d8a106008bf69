-- A list whose front is filled, place by place, from another list. Assumes nothing.
use Prim.Native.Nat.{ℕ, suc, ◌+◌, ◌<◌, ◌≤◌}
use mathlib.Core.Path.{◌≡◌, refl, ap, ◌∙◌}
use mathlib.Core.List.{List, [], ◌∷◌, ◌++◌, map, append_assoc}
use native.Mathlib.Numerals.{add-one}
use native.Mathlib.Omega.{arith}
use lib.ListN.{length, take, drop, get_or, set, length-map}
use lib.Seq.{drop-cons, length-take-le, take-suc, take-length, take_at, set_at}

map_snoc : {A B : Type 0} (f : A → B) (l : List A) (x : A) → map f (l ++ (x ∷ [])) ≡ map f l ++ (f x ∷ [])
map_snoc f [] x = refl
map_snoc {B = B} f (a ∷ l) x = ap (λ (r : List B). f a ∷ r) (map_snoc f l x)

-- the first i places are filled
unfoldable pub fill_to : {A B : Type 0} → (A → B) → List A → List B → ℕ → List B
fill_to f from out i = map f (take i from) ++ drop i out

module _ {A B : Type 0} (f : A → B) (d : A) (from : List A) (out : List B) (room : length from ≤ length out) where
  pub fill_none : out ≡ fill_to f from out 0
  unfolding fill_to
  fill_none = refl

  front_length : (i : ℕ) → i ≤ length from → length (map f (take i from)) ≡ i
  front_length i h = length-map (take i from) f ∙ length-take-le i from h

  pub fill_more : (i : ℕ) → i < length from → set (fill_to f from out i) i (f (get_or from i d)) ≡ fill_to f from out (i + 1)
  unfolding fill_to
  fill_more i h =
      let o : i < length out = omega arith in
      let n : length (map f (take i from)) ≡ i = front_length i (omega arith) in
      rw (add-one, take-suc from i d h, map_snoc, append_assoc, drop-cons out i (f d) o) (set_at (map f (take i from)) (get_or out i (f d)) (drop (suc i) out) (f (get_or from i d)) i n)

  pub fill-all : fill_to f from out (length from) ≡ map f from ++ drop (length from) out
  unfolding fill_to
  fill-all = rw take-length

  pub fill-front : (i : ℕ) → i ≤ length from → take i (fill_to f from out i) ≡ map f (take i from)
  unfolding fill_to
  fill-front i h = take_at (map f (take i from)) (drop i out) i (front_length i h)
