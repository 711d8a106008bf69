-- What a test says of every element of a list, it says of each member. Assumes nothing.
use Rattle.std.proofs.Common.{◌≡◌, Bool, true, T, List, [], ◌∷◌, sym, subst, ⊎_elim}
use mathlib.Core.List.Memᴰ
use mathlib.Core.List.{Memᴰ}
use lib.Ieee.Fits.{and_l, and_r}
use lib.Ieee.Bits.{is_true}
use Rattle.math.specs.Lists.{every}

pub every-member : {A : Type 0} (f : A → Bool) (l : List A) → T (every f l) → (e : A) → Memᴰ e l → f e ≡ true
every-member f [] h e m = absurd (Memᴰ.not-nil m)
every-member f (k ∷ ks) h e m =
    ⊎_elim (λ q. subst (λ x. f x ≡ true) (sym q) (is_true (f k) (and_l (f k) (every f ks) h))) (λ r. every-member f ks (and_r (f k) (every f ks) h) e r) (Memᴰ.cases_cons m)
