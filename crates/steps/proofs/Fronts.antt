-- A lent list that is written from its front on. Assumes nothing.
use Prim.Native.Nat.{ℕ, suc, ◌+◌, ◌<◌}
use mathlib.Core.Path.{ap, ◌∙◌}
use mathlib.Core.List.{List, [], ◌∷◌, ◌++◌, append_assoc}
use native.Mathlib.Numerals.{add-one}
use lib.ListN.{length, drop, get_or, set, length-append}
use lib.Seq.{drop-cons, set_at}
pub use Rattle.steps.specs.Inner.{Written}

-- one place more
pub more : {A : Type 0} (d : A) (front : List A) (i : ℕ) (l was : List A) (x : A) → i < length was → Written front i l was → Written (front ++ (x ∷ [])) (i + 1) (set l i x) was
more {A} d front i l was x h (n, e) = (
  length-append front (x ∷ []) ∙ ap (λ (k : ℕ). k + 1) n,
  rw (e, add-one, append_assoc, drop-cons was i d h) (set_at front (get_or was i d) (drop (suc i) was) x i n),
)
