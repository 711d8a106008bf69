-- W3C's rule on whole step numbers, over the position: from 0 to jumps, and it never falls; and what follows for the values. Assumes nothing.
use Rattle.std.proofs.Common.{◌≡◌, ℕ, ◌*◌, ◌%◌, ◌<◌, ◌≤◌, Bool, true, false, T, eqb, sym, refl, ap, ◌∙◌, subst, le_refl, zero-lt-suc, mul_comm, one-mul, zero-mul, arith, lt→ltb, eqb-true}
use mathlib.Core.Path.{subst⁻¹}
use mathlib.Core.Bool.{false≢true}
use native.Mathlib.Nat.{min-le_right, min-eq_left}
use lib.Ieee.{Float, binary32, round, of_int, of_bits}
use lib.Ieee.Scale.{round_same}
use lib.Ieee.Positive.{num, den, den_pos}
use Rattle.math.specs.Rounded.{◌⊘◌, whole_f, zero_f, one_f}
use Rattle.math.specs.Whole.{whole_part_of, Is}
use Rattle.math.proofs.Wholes.{whole_is, zero_is, one-is, lt-is, mul-exact}
use Rattle.math.proofs.Sizes.{is-at-most, at-most-finite}
use Rattle.math.proofs.Zeros.{zero-over}
use Rattle.curves.specs.Stairs.{is_whole}
use Rattle.curves.specs.Jumps.{product_of, raised_of, lowered_of, jumps_of, cut_of, current_of, step_of, jump_of, least_of}
use Rattle.curves.specs.Rising.{StepWithin, StepRises, ProgressRises, JumpRises, JumpWithin, first_of, last_of, JumpEnds}
use Rattle.curves.specs.declared.jumps.Position.{Position}
use Rattle.curves.specs.declared.jumps.Position.TheVariants.{JumpStart, JumpEnd, JumpBoth, JumpNone}
use Rattle.curves.proofs.Products.{count-is, of-whole, floors, wholes, product, product-cross}
use Rattle.curves.proofs.Quotients as quotients

pub step-within : StepWithin
step-within p before n floor whole = min-le_right (lowered_of before whole (raised_of p floor)) (jumps_of p n)

lowered-rises : (before whole then : Bool) (i j : ℕ) → i ≤ j → (i ≡ j → then ≡ true → whole ≡ true) → lowered_of before whole i ≤ lowered_of before then j
lowered-rises false whole then i j h k = h
lowered-rises true true true i j h k = omega (arith, h)
lowered-rises true true false i j h k = omega (arith, h)
lowered-rises true false false i j h k = h
lowered-rises true false true i j h k =
    let apart : (i ≡ j) → ⊥ = λ e. false≢true (k e refl) in
    omega (arith, h)

cut-rises : (i j jumps : ℕ) → i ≤ j → cut_of i jumps ≤ cut_of j jumps
cut-rises i j jumps h = omega (arith, h)

-- a rise at 0 is one step more for both
raised-rises : (p : Position) (i j : ℕ) → i ≤ j → raised_of p i ≤ raised_of p j
raised-rises JumpStart i j h = omega (arith, h)
raised-rises JumpEnd i j h = h
raised-rises JumpBoth i j h = omega (arith, h)
raised-rises JumpNone i j h = h

raised-back : (p : Position) (i j : ℕ) → raised_of p i ≡ raised_of p j → i ≡ j
raised-back JumpStart i j h = omega (arith, h)
raised-back JumpEnd i j h = h
raised-back JumpBoth i j h = omega (arith, h)
raised-back JumpNone i j h = h

pub step-rises : StepRises
step-rises p before n floor next whole then h k =
    cut-rises (lowered_of before whole (raised_of p floor)) (lowered_of before then (raised_of p next)) (jumps_of p n)
    (lowered-rises before whole then (raised_of p floor) (raised_of p next) (raised-rises p floor next h) (λ e. k (raised-back p floor next e)))

pub progress-rises : ProgressRises
progress-rises p before t u n w x l h =
    let y = product_of t n in
    let z = product_of u n in
    let f = product n l t w in
    let g = product n l u x in
    let c : num y * den z ≤ num z * den y = product-cross n l t u w x h in
    step-rises p before n (whole_part_of y) (whole_part_of z) (is_whole y) (is_whole z)
    (rw (f.floor, g.floor) (floors (num y) (den y) (num z) (den z) (den_pos y) (den_pos z) c))
    (λ e v.
    f.whole
    ∙ ap (λ (i : ℕ). eqb i 0) (wholes (num y) (den y) (num z) (den z) (den_pos y) (den_pos z) c (sym f.floor ∙ e ∙ g.floor) (eqb-true (num z % den z) 0 (sym g.whole ∙ v))))

-- jumps are at least 1
module _ (p : Position) (n : ℕ) (least : least_of p ≤ n) (l : n ≤ 65536) where
  jumps-some : 0 < jumps_of p n
  jumps-some = go p least
    where
      go : (p : Position) → least_of p ≤ n → 0 < jumps_of p n
      go JumpStart h = omega (arith, h)
      go JumpEnd h = omega (arith, h)
      go JumpBoth h = omega (arith, h)
      go JumpNone h = omega (arith, h)

  jumps-most : jumps_of p n ≤ 65537
  jumps-most = go p
    where
      go : (p : Position) → jumps_of p n ≤ 65537
      go JumpStart = omega (arith, l)
      go JumpEnd = omega (arith, l)
      go JumpBoth = omega (arith, l)
      go JumpNone = omega (arith, l)

  jumps-is : Is (whole_f (jumps_of p n)) (jumps_of p n)
  jumps-is = whole_is binary32 (jumps_of p n) (omega (arith, jumps-most))

  pub zero-step : whole_f 0 ⊘ whole_f (jumps_of p n) ≡ zero_f
  zero-step = subst (λ (z : Float). z ⊘ whole_f (jumps_of p n) ≡ zero_f) no_step (zero-over (whole_f (jumps_of p n)) (at-most-finite (jumps_of p n) (whole_f (jumps_of p n)) (is-at-most (whole_f (jumps_of p n)) (jumps_of p n) (jumps_of p n) jumps-is (le_refl (jumps_of p n)))) (subst⁻¹ T (lt-is zero_f (whole_f (jumps_of p n)) 0 (jumps_of p n) zero_is jumps-is) (lt→ltb 0 (jumps_of p n) jumps-some)))
    where
      no_step : zero_f ≡ whole_f 0
      no_step = unfold of_int of_bits in refl

  full-step : whole_f (jumps_of p n) ⊘ whole_f (jumps_of p n) ≡ one_f
  full-step = quotients.quotient (jumps_of p n) jumps-some jumps-most (jumps_of p n) (le_refl (jumps_of p n)) ∙ round_same binary32 false (jumps_of p n) (jumps_of p n) 1 1 jumps-some (zero-lt-suc 0) (mul_comm (jumps_of p n) 1) ∙ (one-round)
    where
      one-round : round binary32 false 1 1 ≡ one_f
      one-round = unfold round of_bits in refl

pub jump-within : JumpWithin
unfolding jump_of
jump-within p before t n least l =
    let y = product_of t n in
    quotients.step-within (jumps_of p n) (jumps-some p n least l) (jumps-most p n least l) (step_of p before t n) (step-within p before n (whole_part_of y) (is_whole y))

pub jump-rises : JumpRises
unfolding jump_of
jump-rises p before t u n w x least l h =
    let z = product_of u n in
    quotients.step-rises (jumps_of p n) (jumps-some p n least l) (jumps-most p n least l) (step_of p before t n) (step_of p before u n) (progress-rises p before t u n w x l h) (step-within p before n (whole_part_of z) (is_whole z))

-- at a product that is a whole number
whole-step : (p : Position) (before : Bool) (t : Float) (n k : ℕ) → Is (product_of t n) k → k ≤ 65536 → step_of p before t n ≡ current_of p before n k true
whole-step p before t n k v l =
    let w = of-whole (product_of t n) k v l in
    rw (w.0, w.1) refl

pub jump-ends : JumpEnds
unfolding jump_of
jump-ends p n least l = (
  ap over (at_zero false ∙ first p least),
  ap over (at_one false ∙ full p) ∙ full-step p n least l,
  ap over (at_zero true ∙ none p) ∙ zero-step p n least l,
  ap over (at_one true ∙ last p least),
)
  where
    over : ℕ → Float
    over k = whole_f k ⊘ whole_f (jumps_of p n)

    at_zero : (before : Bool) → step_of p before zero_f n ≡ current_of p before n 0 true
    at_zero before = whole-step p before zero_f n 0 (subst-zero) (omega arith)
      where
        subst-zero : Is (product_of zero_f n) 0
        subst-zero = subst (Is (product_of zero_f n)) (zero-mul n) (mul-exact binary32 zero_f (whole_f n) 0 n zero_is (count-is n l) (omega (arith, zero-mul n)))

    at_one : (before : Bool) → step_of p before one_f n ≡ current_of p before n n true
    at_one before = whole-step p before one_f n n (rw (one-mul n) at (mul-exact binary32 one_f (whole_f n) 1 n one-is (count-is n l) (omega (arith, one-mul n, l)))) l

    first : (p : Position) → least_of p ≤ n → current_of p false n 0 true ≡ first_of p
    first JumpStart h = min-eq_left h
    first JumpEnd h = omega arith
    first JumpBoth h = omega (arith, h)
    first JumpNone h = omega arith

    full : (p : Position) → current_of p false n n true ≡ jumps_of p n
    full JumpStart = omega arith
    full JumpEnd = omega arith
    full JumpBoth = omega arith
    full JumpNone = omega arith

    none : (p : Position) → current_of p true n 0 true ≡ 0
    none JumpStart = omega arith
    none JumpEnd = omega arith
    none JumpBoth = omega arith
    none JumpNone = omega arith

    last : (p : Position) → least_of p ≤ n → current_of p true n n true ≡ last_of p n
    last JumpStart h = omega (arith, h)
    last JumpEnd h = omega (arith, h)
    last JumpBoth h = omega (arith, h)
    last JumpNone h = omega (arith, h)
