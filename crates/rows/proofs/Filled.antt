-- A list whose front is filled, place by place, from a sequence. Assumes nothing.
use Prim.Native.Nat.{ℕ, zero, suc, ◌+◌, ◌<◌}
use mathlib.Core.Path.{◌≡◌, refl}
use mathlib.Core.List.{List, ◌++◌, append_assoc}
use native.Mathlib.Numerals.{add-one}
use native.Mathlib.Omega.{arith}
use lib.ListN.{length, drop, get_or, set, length-append}
use lib.Seq.{drop-cons, set_at}
use Rattle.math.specs.Lists.{firsts}

module _ {A : Type 0} (f : ℕ → A) where
  length-firsts : (n : ℕ) → length (firsts f n) ≡ n
  unfolding firsts
  length-firsts zero = refl
  length-firsts (suc n) = rw (length-append, length-firsts n) (omega arith)

  pub fill_one : (out : List A) (i : ℕ) → i < length out → set (firsts f i ++ drop i out) i (f i) ≡ firsts f (i + 1) ++ drop (i + 1) out
  unfolding firsts
  fill_one out i h = rw (add-one, append_assoc, drop-cons out i (f i) h) (set_at (firsts f i) (get_or out i (f i)) (drop (suc i) out) (f i) i (length-firsts i))

  pub fill_none : (out : List A) → out ≡ firsts f 0 ++ drop 0 out
  unfolding firsts
  fill_none out = refl
