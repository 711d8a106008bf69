-- What the tag of a match on an easing says: it is the number of the kind, and the number and the parameters are the easing. Assumes nothing.
use Prim.Native.Nat.{ℕ, zero, suc, ◌<◌}
use native.Mathlib.Nat.{eq-or-lt_of_le}
use native.Mathlib.Omega.{arith}
use mathlib.Core.Path.{◌≡◌, refl, sym, subst, ◌∙◌}
use mathlib.Core.Bool.{Bool, true, false, ◌&&◌, ◌||◌, cond}
use mathlib.Core.List.{List, [], ◌∷◌}
use mathlib.Core.Logic.{⊎_elim}
use lib.Dec.{T, eqb, ltb}
use lib.ListN.{length}
use lib.Ieee.Fits.{and_l, and_r}
use lib.Ieee.Bits.{is_true}
use borrow.Author.Tests.{ltb-true}
use types.Run.{OneOf}
use denote.Enum.Declared.{tag_of}
use Rattle.math.specs.Lists.{every}
use Rattle.math.proofs.Choice.{and_both}
use Rattle.easing.specs.Kinds.{number_of, all_named}
use Rattle.easing.specs.Params.{params, no_params, params_of, with_params, of_number}
use Rattle.easing.specs.declared.params.Params.{Params}
use Rattle.easing.specs.contracts.kinds.Easing.{the_type}
use Rattle.easing.specs.declared.kinds.Easing.{Easing}
use Rattle.easing.specs.declared.kinds.Easing.TheVariants.{Linear, EaseInQuad, EaseOutQuad, EaseInOutQuad, EaseInCubic, EaseOutCubic, EaseInOutCubic, EaseInQuart, EaseOutQuart, EaseInOutQuart, EaseInQuint, EaseOutQuint, EaseInOutQuint, EaseInSine, EaseOutSine, EaseInOutSine, EaseInExpo, EaseOutExpo, EaseInOutExpo, EaseInCirc, EaseOutCirc, EaseInOutCirc, EaseInBack, EaseOutBack, EaseInOutBack, EaseInElastic, EaseOutElastic, EaseInOutElastic, EaseInBounce, EaseOutBounce, EaseInOutBounce, CubicBezier, Steps, RoughEase, SlowMo, Wiggle, CustomBounce, ExpoScale}

abbrev pub among : List ℕ → ℕ → Bool
among [] n = false
among (k ∷ ks) n = eqb n k || among ks n

-- the numbers of the kinds that are not in a list
abbrev without : List Easing → List ℕ → List ℕ
without [] ks = []
without (e ∷ es) ks = cond (among ks (number_of e)) (without es ks) (number_of e ∷ without es ks)

abbrev pub all_but : List ℕ → List ℕ
all_but ks = without all_named ks

-- the kinds that are named and refused
abbrev pub twelve : List ℕ
twelve = 13 ∷ 14 ∷ 15 ∷ 16 ∷ 17 ∷ 18 ∷ 25 ∷ 26 ∷ 27 ∷ 33 ∷ 35 ∷ 37 ∷ []

-- the kinds with parameters
abbrev pub seven : List ℕ
seven = 31 ∷ 32 ∷ 33 ∷ 34 ∷ 35 ∷ 36 ∷ 37 ∷ []

-- the parameters of e, without the least count of its kind
abbrev pub own : Easing → Params
own e = let p = params_of e in params p.a p.b p.c p.d p.count

pub record Told (e : Easing) : Type 0 where
  pub tag : tag_of the_type e ≡ number_of e
  pub known : ltb (number_of e) (length all_named) ≡ true
  pub back : of_number (number_of e) (own e) ≡ e
  pub plain : among seven (number_of e) ≡ false → params_of e ≡ no_params

some-params : (e : Easing) → tag_of the_type e ≡ number_of e → ltb (number_of e) (length all_named) ≡ true → of_number (number_of e) (own e) ≡ e → among seven (number_of e) ≡ true → Told e
some-params e t k b f = record { tag = t; known = k; back = b; plain = λ p. absurd (subst T (sym f ∙ p) tt) }

no-params : (e : Easing) → tag_of the_type e ≡ number_of e → ltb (number_of e) (length all_named) ≡ true → of_number (number_of e) (own e) ≡ e → params_of e ≡ no_params → Told e
no-params e t k b p = record { tag = t; known = k; back = b; plain = λ _. p }

pub told : (e : Easing) → Told e
unfolding params_of with_params
told Linear = no-params Linear refl refl refl refl
told EaseInQuad = no-params EaseInQuad refl refl refl refl
told EaseOutQuad = no-params EaseOutQuad refl refl refl refl
told EaseInOutQuad = no-params EaseInOutQuad refl refl refl refl
told EaseInCubic = no-params EaseInCubic refl refl refl refl
told EaseOutCubic = no-params EaseOutCubic refl refl refl refl
told EaseInOutCubic = no-params EaseInOutCubic refl refl refl refl
told EaseInQuart = no-params EaseInQuart refl refl refl refl
told EaseOutQuart = no-params EaseOutQuart refl refl refl refl
told EaseInOutQuart = no-params EaseInOutQuart refl refl refl refl
told EaseInQuint = no-params EaseInQuint refl refl refl refl
told EaseOutQuint = no-params EaseOutQuint refl refl refl refl
told EaseInOutQuint = no-params EaseInOutQuint refl refl refl refl
told EaseInSine = no-params EaseInSine refl refl refl refl
told EaseOutSine = no-params EaseOutSine refl refl refl refl
told EaseInOutSine = no-params EaseInOutSine refl refl refl refl
told EaseInExpo = no-params EaseInExpo refl refl refl refl
told EaseOutExpo = no-params EaseOutExpo refl refl refl refl
told EaseInOutExpo = no-params EaseInOutExpo refl refl refl refl
told EaseInCirc = no-params EaseInCirc refl refl refl refl
told EaseOutCirc = no-params EaseOutCirc refl refl refl refl
told EaseInOutCirc = no-params EaseInOutCirc refl refl refl refl
told EaseInBack = no-params EaseInBack refl refl refl refl
told EaseOutBack = no-params EaseOutBack refl refl refl refl
told EaseInOutBack = no-params EaseInOutBack refl refl refl refl
told EaseInElastic = no-params EaseInElastic refl refl refl refl
told EaseOutElastic = no-params EaseOutElastic refl refl refl refl
told EaseInOutElastic = no-params EaseInOutElastic refl refl refl refl
told EaseInBounce = no-params EaseInBounce refl refl refl refl
told EaseOutBounce = no-params EaseOutBounce refl refl refl refl
told EaseInOutBounce = no-params EaseInOutBounce refl refl refl refl
told (CubicBezier x1 y1 x2 y2) = some-params (CubicBezier x1 y1 x2 y2) refl refl refl refl
told (Steps n) = some-params (Steps n) refl refl refl refl
told (RoughEase strength points) = some-params (RoughEase strength points) refl refl refl refl
told (SlowMo ratio power) = some-params (SlowMo ratio power) refl refl refl refl
told (Wiggle wiggles) = some-params (Wiggle wiggles) refl refl refl refl
told (CustomBounce strength) = some-params (CustomBounce strength) refl refl refl refl
told (ExpoScale start end) = some-params (ExpoScale start end) refl refl refl refl

-- what a test says of each key of an arm, it says of the tag
one_of : (f : ℕ → Bool) (ks : List ℕ) (x : ℕ) → T (every f ks) → OneOf ks x → f x ≡ true
one_of f [] x h o = absurd o
one_of f (k ∷ []) x h o = subst (λ n. f n ≡ true) (sym o) (is_true (f k) (and_l (f k) _ h))
one_of f (k ∷ j ∷ ks) x h o = ⊎_elim (λ e. subst (λ n. f n ≡ true) (sym e) (is_true (f k) (and_l (f k) _ h))) (λ r. one_of f (j ∷ ks) x (and_r (f k) _ h) r) o

-- and so, where it speaks of the kinds with these keys as their numbers, of the easing
pub by-tag : (f : Easing → Bool) (ks : List ℕ) (e : Easing) → T (every (λ n. f (of_number n (own e))) ks) → OneOf ks (tag_of the_type e) → f e ≡ true
by-tag f ks e h o =
    subst (λ x. f x ≡ true) (told e).back
    (subst (λ n. f (of_number n (own e)) ≡ true) (told e).tag (one_of (λ n. f (of_number n (own e))) ks (tag_of the_type e) h o))

-- what a test says of every number below n, it says of each
abbrev pub all_below : ℕ → (ℕ → Bool) → Bool
all_below zero f = true
all_below (suc n) f = f n && all_below n f

pub each_below : (n : ℕ) (f : ℕ → Bool) → all_below n f ≡ true → (i : ℕ) → i < n → f i ≡ true
each_below zero f h i b = absurd (omega (arith, b))
each_below (suc n) f h i b =
    let p = and_both (f n) (all_below n f) h in
    ⊎_elim (λ (e : i ≡ n). rw e p.0) (λ (l : i < n). each_below n f p.1 i l) (eq-or-lt_of_le (omega (arith, b)))

-- what it says of every kind at any parameters, it says of each easing
pub every-kind : (f : Easing → Bool) → ((p : Params) → all_below (length all_named) (λ n. f (of_number n p)) ≡ true) → (e : Easing) → f e ≡ true
every-kind f h e =
    subst (λ x. f x ≡ true) (told e).back
    (each_below (length all_named) (λ n. f (of_number n (own e))) (h (own e)) (number_of e) (ltb-true (number_of e) (length all_named) (told e).known))
