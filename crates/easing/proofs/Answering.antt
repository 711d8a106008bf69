-- The answers of `apply` and of `eq`, case by case. Assumes nothing.
use Rattle.std.specs.Prelude.{Err, Ok, Result, Option, None, Some}
use Prim.Native.Nat.{ℕ}
use mathlib.Core.Path.{◌≡◌, refl, sym, ap, ◌∙◌}
use mathlib.Core.Bool.{Bool, true, false, ◌&&◌, true≢false}
use lib.Dec.{T, eqb}
use lib.Ieee.{Float, is_nan, le, lt, eq, of_bits}
use Rattle.math.specs.Range.{clamp01_of}
use Rattle.bezier.specs.declared.types.Solved.{Solved}
use Rattle.bezier.specs.declared.types.Found.{Found}
use Rattle.bezier.specs.Bezier.{plain_of, found_by}
use Rattle.refusal.specs.declared.Refusal.TheVariants.{ProgressIsNan, EasingNotSupplied, EasingParameter}
use Rattle.easing.specs.declared.kinds.Easing.{Easing}
use Rattle.easing.specs.declared.params.Params.{Params}
use Rattle.easing.specs.Kinds.{number_of, curve_of, is_some, supplied_of}
use Rattle.easing.specs.Params.{no_params, params_of, within_of, equal_of}
use Rattle.easing.specs.Apply.{limited_of, search_of, eased_at, apply_of, fits_record_of, eq_of}
use lib.Ieee.Fits.{and_l, and_r}
use Rattle.refusal.specs.declared.Refusal.{Refusal}

none_within : within_of no_params ≡ true
unfolding within_of le lt eq of_bits
none_within = refl

-- b is whether t is NaN
module _ (e : Easing) (t : Float) (b : Bool) (eb : b ≡ is_nan t) where
  pub no_number : b ≡ true → Err ProgressIsNan ≡ apply_of e t
  unfolding apply_of
  no_number h = rw (← eb, h)

  module _ (h : b ≡ false) where
    none-refused : (c : Option (Float → Float)) (search : Float → Solved) (fine : Bool) (u : Float) → is_some c ≡ false → Err EasingNotSupplied ≡ eased_at c search fine u
    none-refused None search fine u s = refl
    none-refused (Some f) search fine u s = absurd (true≢false s)

    pub not-supplied : supplied_of e ≡ false → Err EasingNotSupplied ≡ apply_of e t
    unfolding apply_of supplied_of
    not-supplied s = rw (← eb, h) (none-refused (curve_of e) (search_of e) (within_of (params_of e)) (clamp01_of t) s)

    -- at a kind x with no parameters, and with some
    module _ (u : Float) (eu : u ≡ clamp01_of t) (x : Easing) (ex : e ≡ x) where
      pub bare : (v w : Float) (r : Result Found Refusal) → v ≡ w → r ≡ Ok (plain_of v) → params_of x ≡ no_params → eased_at (curve_of x) (search_of x) true u ≡ Ok (plain_of w) → r ≡ apply_of e t
      unfolding apply_of
      bare v w r ev er ep ec = er ∙ rw (← eb, h, ex, ep, none_within, ← eu, ec, ev)

      pub with_params_lem : (f g : Found) (p : Params) (fine : Bool) (r : Result Found Refusal) → f ≡ g → p ≡ params_of x → fine ≡ within_of p → r ≡ limited_of fine f → ((fine : Bool) → eased_at (curve_of x) (search_of x) fine u ≡ limited_of fine g) → r ≡ apply_of e t
      unfolding apply_of
      with_params_lem f g p fine r eg ep ef er ec = er ∙ ap (limited_of fine) eg ∙ sym (ec fine) ∙ rw (← eb, h, ex, ← ep, ← ef, ← eu)

-- s and z say whether the two are supplied
module _ (x y : Easing) (s z : Bool) (es : s ≡ supplied_of x) (ez : z ≡ supplied_of y) where
  pub eq-not-supplied : s && z ≡ false → Err EasingNotSupplied ≡ eq_of x y
  unfolding eq_of
  eq-not-supplied h = rw (← es, ← ez, h)

  -- and i and j whether their parameters are within limits
  module _ (h : s && z ≡ true) (p q : Params) (i j : Bool) (ep : p ≡ params_of x) (eq : q ≡ params_of y) (ei : i ≡ within_of p) (ej : j ≡ within_of q) where
    pub eq-parameter : i && j ≡ false → Err EasingParameter ≡ eq_of x y
    unfolding eq_of
    eq-parameter k = rw (← es, ← ez, h, ← ep, ← eq, ← ei, ← ej, k)

    pub eq-compared : i && j ≡ true → (m n : ℕ) (b : Bool) → m ≡ number_of x → n ≡ number_of y → b ≡ equal_of p q → Ok (eqb m n && b) ≡ eq_of x y
    unfolding eq_of
    eq-compared k m n b em en eb = rw (em, en, eb, ← es, ← ez, h, ← ep, ← eq, ← ei, ← ej, k)

-- an easing that fits a record answers at any progress that is a number
pub fits-answers : (e : Easing) (p : Float) → T (fits_record_of e) → is_nan p ≡ false → (f : Found) × (apply_of e p ≡ Ok f)
unfolding fits_record_of supplied_of apply_of
fits-answers e p f n =
    let k = go (curve_of e) (search_of e) (within_of (params_of e)) (clamp01_of p) (and_l (is_some (curve_of e)) (within_of (params_of e)) f) (and_r (is_some (curve_of e)) (within_of (params_of e)) f) in
    (k.0, rw n k.1)
  where
    go : (c : Option (Float → Float)) (search : Float → Solved) (fine : Bool) (u : Float) → T (is_some c) → T fine → (f : Found) × (eased_at c search fine u ≡ Ok f)
    go None search fine u s h = absurd s
    go (Some f) search true u s h = (found_by (search u) (f u), refl)
    go (Some f) search false u s h = absurd h
