-- How large the curves are at a progress from 0 to 1: each is finite, and at most 134,217,728 in size. Assumes nothing.
use Rattle.std.proofs.Common.{◌≡◌, ℕ, ◌*◌, ◌<◌, ◌≤◌, max, true, false, pos, arith, lit≤, ltb-true}
use mathlib.Core.Bool.{false≢true}
use lib.Ieee.{Float, nan, inf, fin, binary32, up, down, lt, le, eq, neg, is_nan, of_int, of_bits}
use Rattle.math.specs.Rounded.{◌⊕◌, ◌⊖◌, ◌⊗◌, ◌⊘◌, f32, zero_f, half_f, one_f, two_f, epsilon_f}
use Rattle.math.specs.Range.{clamp01_of, max_zero_of, Within, AtMost}
use Rattle.math.specs.Whole.{ceil_of, Is}
use Rattle.math.proofs.Ceiling.{ceil-at-most}
use Rattle.math.proofs.Bounded.{plus, less, times, over, shrunk, zero-most, half-most, one-most, two-most, two-least, zero-within}
use Rattle.math.proofs.Choice.{by-test}
use Rattle.math.proofs.Wholes.{whole_is, power-is}
use Rattle.math.proofs.Upward.{Up, mul-up, max-zero-up}
use Rattle.math.proofs.Sizes.{AtLeast, is-at-most, is-at-least, at-most-number, at-most-more, at-most-finite, add-at-most, mul-at-most, one_more}
use Rattle.math.proofs.Ranges.{within-at-most, rest, less_one, turned, clamped}
use Rattle.curves.specs.Powers.{Power, quad, cubic, quart, quint, powi, times_t, lead_of, InPowerMost, OutPowerMost, InOutPowerMost}
use Rattle.curves.specs.Back.{back_c1, back_c2, back_c3, in_back, out_back, in_out_back}
use Rattle.curves.specs.Bounce.{bounce_n1, bounce_d1, arc_of, out_bounce, in_bounce, in_out_bounce, custom_bounce}
use Rattle.curves.specs.Slow.{slow_part, edge_of, mid_of, from_of, slow_at, slow_mo}
use Rattle.curves.specs.Stairs.{steps_of}

-- powers
times-t : (p : Power) (n : ℕ) → n ≤ 16777216 → (c t : Float) → AtMost n c → AtMost 1 t → AtMost n (times_t p c t)
times-t quad n s c t h k = shrunk n s c t h k
times-t cubic n s c t h k = shrunk n s (c ⊗ t) t (shrunk n s c t h k) k
times-t quart n s c t h k = shrunk n s (c ⊗ t ⊗ t) t (shrunk n s (c ⊗ t) t (shrunk n s c t h k) k) k
times-t quint n s c t h k = shrunk n s (c ⊗ t ⊗ t ⊗ t) t (shrunk n s (c ⊗ t ⊗ t) t (shrunk n s (c ⊗ t) t (shrunk n s c t h k) k) k) k

powi-most : (p : Power) (x : Float) → AtMost 1 x → AtMost 1 (powi p x)
powi-most p x h = go p
  where
    one : (x y : Float) → AtMost 1 x → AtMost 1 y → AtMost 1 (x ⊗ y)
    one x y h k = times 1 (lit≤ tt) 1 1 x y (lit≤ tt) h k

    square : AtMost 1 (x ⊗ x)
    square = one x x h h

    go : (p : Power) → AtMost 1 (powi p x)
    go quad = square
    go cubic = one (x ⊗ x) x square h
    go quart = one (x ⊗ x) (x ⊗ x) square square
    go quint = one ((x ⊗ x) ⊗ (x ⊗ x)) x (one (x ⊗ x) (x ⊗ x) square square) h

lead-most : (p : Power) → AtMost 16 (lead_of p)
unfolding of_bits
lead-most quad = lit≤ tt
lead-most cubic = lit≤ tt
lead-most quart = lit≤ tt
lead-most quint = lit≤ tt

pub in-power-most : InPowerMost
in-power-most p t w = times-t p 1 (lit≤ tt) t t (within-at-most t w) (within-at-most t w)

pub out-power-most : OutPowerMost
out-power-most p t w = less 2 (lit≤ tt) 1 1 one_f (powi p (one_f ⊖ t)) (lit≤ tt) one-most (powi-most p (one_f ⊖ t) (within-at-most (one_f ⊖ t) (rest t w)))

pub in-out-power-most : InOutPowerMost
in-out-power-most p t w =
    let k : AtMost 1 t = within-at-most t w in
    by-test (AtMost 16) (lt t half_f) _ _ (λ h. times-t p 16 (lit≤ tt) (lead_of p ⊗ t) t (shrunk 16 (lit≤ tt) (lead_of p) t (lead-most p) k) k)
    (λ h. less 16 (lit≤ tt) 1 1 one_f (powi p (neg two_f ⊗ t ⊕ two_f) ⊘ two_f) (lit≤ tt) one-most
    (over 1 (lit≤ tt) 1 1 (powi p (neg two_f ⊗ t ⊕ two_f)) two_f (lit≤ tt) (powi-most p (neg two_f ⊗ t ⊕ two_f) (turned t w h)) two-least))

-- Back
c1-most : AtMost 2 back_c1
unfolding of_bits
c1-most = lit≤ tt

c2-most : AtMost 3 back_c2
unfolding of_bits
c2-most = lit≤ tt

c3-most : AtMost 3 back_c3
unfolding of_bits
c3-most = lit≤ tt

module _ (t : Float) (w : Within t) where
  cubed : (u : Float) → AtMost 1 u → AtMost 3 (back_c3 ⊗ u ⊗ u ⊗ u)
  cubed u h = times-t quart 3 (lit≤ tt) back_c3 u c3-most h

  squared : (u : Float) → AtMost 1 u → AtMost 2 (back_c1 ⊗ u ⊗ u)
  squared u h = times-t cubic 2 (lit≤ tt) back_c1 u c1-most h

  pub in-back : AtMost 5 (in_back t)
  in-back = less 5 (lit≤ tt) 3 2 (back_c3 ⊗ t ⊗ t ⊗ t) (back_c1 ⊗ t ⊗ t) (lit≤ tt) (cubed t (within-at-most t w)) (squared t (within-at-most t w))

  pub out-back : AtMost 6 (out_back t)
  out-back =
      let u = t ⊖ one_f in
      let h : AtMost 1 u = less_one t w in
      plus 6 (lit≤ tt) 4 2 (one_f ⊕ back_c3 ⊗ u ⊗ u ⊗ u) (back_c1 ⊗ u ⊗ u) (lit≤ tt) (plus 4 (lit≤ tt) 1 3 one_f (back_c3 ⊗ u ⊗ u ⊗ u) (lit≤ tt) one-most (cubed u h)) (squared u h)

  twice : AtMost 2 (two_f ⊗ t)
  twice = times 2 (lit≤ tt) 2 1 two_f t (lit≤ tt) two-most (within-at-most t w)

  four : AtMost 4 (back_c2 ⊕ one_f)
  four = plus 4 (lit≤ tt) 3 1 back_c2 one_f (lit≤ tt) c2-most one-most

  low_half : AtMost 306 (powi quad (two_f ⊗ t) ⊗ ((back_c2 ⊕ one_f) ⊗ two_f ⊗ t ⊖ back_c2) ⊘ two_f)
  low_half =
      let x = two_f ⊗ t in
      let y = (back_c2 ⊕ one_f) ⊗ two_f ⊗ t in
      over 306 (lit≤ tt) 44 1 (x ⊗ x ⊗ (y ⊖ back_c2)) two_f (lit≤ tt)
      (times 44 (lit≤ tt) 4 11 (x ⊗ x) (y ⊖ back_c2) (lit≤ tt) (times 4 (lit≤ tt) 2 2 x x (lit≤ tt) twice twice)
      (less 11 (lit≤ tt) 8 3 y back_c2 (lit≤ tt)
      (shrunk 8 (lit≤ tt) ((back_c2 ⊕ one_f) ⊗ two_f) t (times 8 (lit≤ tt) 4 2 (back_c2 ⊕ one_f) two_f (lit≤ tt) four two-most) (within-at-most t w)) c2-most))
      two-least

  high_half : AtMost 306 ((powi quad (two_f ⊗ t ⊖ two_f) ⊗ ((back_c2 ⊕ one_f) ⊗ (two_f ⊗ t ⊖ two_f) ⊕ back_c2) ⊕ two_f) ⊘ two_f)
  high_half =
      let x = two_f ⊗ t ⊖ two_f in
      let y = (back_c2 ⊕ one_f) ⊗ x ⊕ back_c2 in
      let h : AtMost 4 x = less 4 (lit≤ tt) 2 2 (two_f ⊗ t) two_f (lit≤ tt) twice two-most in
      over 306 (lit≤ tt) 306 1 (x ⊗ x ⊗ y ⊕ two_f) two_f (lit≤ tt)
      (plus 306 (lit≤ tt) 304 2 (x ⊗ x ⊗ y) two_f (lit≤ tt)
      (times 304 (lit≤ tt) 16 19 (x ⊗ x) y (lit≤ tt) (times 16 (lit≤ tt) 4 4 x x (lit≤ tt) h h)
      (plus 19 (lit≤ tt) 16 3 ((back_c2 ⊕ one_f) ⊗ x) back_c2 (lit≤ tt) (times 16 (lit≤ tt) 4 4 (back_c2 ⊕ one_f) x (lit≤ tt) four h) c2-most))
      two-most)
      two-least

  pub in-out-back : AtMost 306 (in_out_back t)
  in-out-back = by-test (AtMost 306) (lt t half_f) _ _ (λ h. low_half) (λ h. high_half)

-- Bounce, also at the doubled progress of its InOut
d1-least : AtLeast 1 bounce_d1
unfolding of_bits
d1-least = lit≤ tt

n1-most : AtMost 8 bounce_n1
unfolding of_bits
n1-most = lit≤ tt

arc : (u h : Float) → AtMost 6 u → AtMost 1 h → AtMost 289 (arc_of u h)
arc u h a b =
    plus 289 (lit≤ tt) 288 1 (bounce_n1 ⊗ u ⊗ u) h (lit≤ tt) (times 288 (lit≤ tt) 48 6 (bounce_n1 ⊗ u) u (lit≤ tt) (times 48 (lit≤ tt) 8 6 bounce_n1 u (lit≤ tt) n1-most a) a) b

-- around a middle of m parts of 2.75
around : (t m h : Float) → AtMost 3 t → AtMost 3 m → AtMost 1 h → AtMost 289 (arc_of (t ⊖ m ⊘ bounce_d1) h)
around t m h a b c = arc (t ⊖ m ⊘ bounce_d1) h (less 6 (lit≤ tt) 3 3 t (m ⊘ bounce_d1) (lit≤ tt) a (over 3 (lit≤ tt) 3 1 m bounce_d1 (lit≤ tt) b d1-least)) c

bounce-most : (t : Float) → AtMost 3 t → AtMost 289 (out_bounce t)
unfolding of_bits
bounce-most t a =
    by-test (AtMost 289) (lt t (one_f ⊘ bounce_d1)) _ _
    (λ h. times 289 (lit≤ tt) 24 3 (bounce_n1 ⊗ t) t (lit≤ tt) (times 24 (lit≤ tt) 8 3 bounce_n1 t (lit≤ tt) n1-most a) a)
    (λ h. by-test (AtMost 289) (lt t (two_f ⊘ bounce_d1)) _ _ (λ h. around t (f32 0x3fc0_0000) (f32 0x3f40_0000) a (lit≤ tt) (lit≤ tt))
    (λ h. by-test (AtMost 289) (lt t (f32 0x4020_0000 ⊘ bounce_d1)) _ _ (λ h. around t (f32 0x4010_0000) (f32 0x3f70_0000) a (lit≤ tt) (lit≤ tt))
    (λ h. around t (f32 0x4028_0000) (f32 0x3f7c_0000) a (lit≤ tt) (lit≤ tt))))

module _ (t : Float) (w : Within t) where
  pub out-bounce : AtMost 289 (out_bounce t)
  out-bounce = bounce-most t (at-most-more 1 3 t (lit≤ tt) (within-at-most t w))

  pub in-bounce : AtMost 290 (in_bounce t)
  in-bounce =
      less 290 (lit≤ tt) 1 289 one_f (out_bounce (one_f ⊖ t)) (lit≤ tt) one-most (bounce-most (one_f ⊖ t) (at-most-more 1 3 (one_f ⊖ t) (lit≤ tt) (within-at-most (one_f ⊖ t) (rest t w))))

  pub in-out-bounce : AtMost 290 (in_out_bounce t)
  in-out-bounce =
      by-test (AtMost 290) (lt t half_f) _ _
      (λ h. over 290 (lit≤ tt) 290 1 (one_f ⊖ out_bounce (one_f ⊖ two_f ⊗ t)) two_f (lit≤ tt)
      (less 290 (lit≤ tt) 1 289 one_f (out_bounce (one_f ⊖ two_f ⊗ t)) (lit≤ tt) one-most (bounce-most (one_f ⊖ two_f ⊗ t) (less 3 (lit≤ tt) 1 2 one_f (two_f ⊗ t) (lit≤ tt) one-most (twice t w)))) two-least)
      (λ h. over 290 (lit≤ tt) 290 1 (one_f ⊕ out_bounce (two_f ⊗ t ⊖ one_f)) two_f (lit≤ tt)
      (plus 290 (lit≤ tt) 1 289 one_f (out_bounce (two_f ⊗ t ⊖ one_f)) (lit≤ tt) one-most (bounce-most (two_f ⊗ t ⊖ one_f) (less 3 (lit≤ tt) 2 1 (two_f ⊗ t) one_f (lit≤ tt) (twice t w) one-most))) two-least)

  pub custom-bounce-most : (strength : Float) → is_nan strength ≡ false → AtMost 290 (custom_bounce t strength)
  custom-bounce-most strength p =
      let s = clamp01_of strength in
      let h : Within s = clamped strength p in
      by-test (AtMost 290) (le t zero_f) _ _ (λ _. zero-most 290)
      (λ _. by-test (AtMost 290) (le one_f t) _ _ (λ _. at-most-more 1 290 one_f (lit≤ tt) one-most)
      (λ _. plus 290 (lit≤ tt) 1 289 (t ⊗ (one_f ⊖ s)) (out_bounce t ⊗ s) (lit≤ tt) (shrunk 1 (lit≤ tt) t (one_f ⊖ s) (within-at-most t w) (within-at-most (one_f ⊖ s) (rest s h)))
      (shrunk 289 (lit≤ tt) (out_bounce t) s out-bounce (within-at-most s h))))

-- SlowMo
-- above 2 ^ -23
edge-least : (x : Float) (n : ℕ) → AtMost n x → lt epsilon_f x ≡ true → AtLeast 8388608 x
unfolding lt of_bits
edge-least nan n h k = absurd h
edge-least (inf s) n h k = absurd h
edge-least (fin true m e) n h k = absurd (false≢true k)
edge-least (fin false m e) n h k = reach (m * up e) (down e) (ltb-true (1 * down e) (m * up e * 8388608) k)
  where
    reach : (a d : ℕ) → 1 * d < a * 8388608 → d ≤ 8388608 * a
    reach a d h = omega arith

-- the three parts, where the slope of the edges is at most 2 ^ 24
part-most : (t lr from to mid edge : Float) → AtMost 1 t → AtMost 1 lr → AtMost 1 from → AtMost 2 to → AtMost 1 mid → AtMost 16777216 edge → AtMost 134217728 (slow_part t lr from to mid edge)
part-most t lr from to mid edge a b c d e g =
    let ramp : AtMost 16777216 (from ⊗ edge) = times 16777216 (lit≤ tt) 1 16777216 from edge (lit≤ tt) c g in
    by-test (AtMost 134217728) (lt t from) _ _ (λ _. mul-at-most binary32 134217728 (power-is binary32 27 (lit≤ tt)) 1 16777216 t edge (lit≤ tt) a g)
    (λ _. by-test (AtMost 134217728) (lt to t) _ _
    (λ _. add-at-most binary32 134217728 (power-is binary32 27 (lit≤ tt)) 33554432 67108864 (from ⊗ edge ⊕ lr ⊗ mid) ((t ⊖ to) ⊗ edge) (lit≤ tt)
    (add-at-most binary32 33554432 (power-is binary32 25 (lit≤ tt)) 16777216 1 (from ⊗ edge) (lr ⊗ mid) (lit≤ tt) ramp (shrunk 1 (lit≤ tt) lr mid b e))
    (mul-at-most binary32 67108864 (power-is binary32 26 (lit≤ tt)) 3 16777216 (t ⊖ to) edge (lit≤ tt) (less 3 (lit≤ tt) 1 2 t to (lit≤ tt) a d) g))
    (λ _. add-at-most binary32 134217728 (power-is binary32 27 (lit≤ tt)) 16777216 2 (from ⊗ edge) ((t ⊖ from) ⊗ mid) (lit≤ tt) ramp
    (shrunk 2 (lit≤ tt) (t ⊖ from) mid (less 2 (lit≤ tt) 1 1 t from (lit≤ tt) a c) e)))

module _ (lr p : Float) (w : Within lr) (u : Up p) (h : AtMost 1024 p) where
  a : AtMost 1 lr
  a = within-at-most lr w

  b : AtMost 1 (one_f ⊖ lr)
  b = within-at-most (one_f ⊖ lr) (rest lr w)

  mid-most : AtMost 1 (mid_of lr p)
  mid-most =
      let z = p ⊗ (one_f ⊖ lr) in
      let k : AtMost 1024 z = shrunk 1024 (lit≤ tt) p (one_f ⊖ lr) h b in
      let l : AtMost 1025 (one_f ⊕ z) = plus 1025 (lit≤ tt) 1 1024 one_f z (lit≤ tt) one-most k in
      over 1 (lit≤ tt) 1 1 one_f (one_f ⊕ z) (lit≤ tt) one-most
      (one_more binary32 1025 z (mul-up binary32 p (one_f ⊖ lr) (at-most-finite 1024 p h) (at-most-finite 1 (one_f ⊖ lr) b) u (rest lr w).0) l (at-most-more 1024 1025 z (lit≤ tt) k))

  edge-most : AtMost 16777216 (edge_of lr (mid_of lr p))
  edge-most =
      by-test (AtMost 16777216) (lt epsilon_f (one_f ⊖ lr)) _ _
      (λ k. over 16777216 (lit≤ tt) 2 8388608 (one_f ⊖ mid_of lr p ⊗ lr) (one_f ⊖ lr) (lit≤ tt)
      (less 2 (lit≤ tt) 1 1 one_f (mid_of lr p ⊗ lr) (lit≤ tt) one-most (shrunk 1 (lit≤ tt) (mid_of lr p) lr mid-most a)) (edge-least (one_f ⊖ lr) 1 b k))
      (λ k. at-most-more 1 16777216 one_f (lit≤ tt) one-most)

  slow-at-most : (t : Float) → Within t → AtMost 134217728 (slow_at t lr p)
  slow-at-most t v =
      let c : AtMost 1 (from_of lr) = shrunk 1 (lit≤ tt) (one_f ⊖ lr) half_f b half-most in
      by-test (AtMost 134217728) (le one_f lr) _ _ (λ _. at-most-more 1 134217728 t (lit≤ tt) (within-at-most t v))
      (λ _. part-most t lr (from_of lr) (from_of lr ⊕ lr) (mid_of lr p) (edge_of lr (mid_of lr p)) (within-at-most t v) a c (plus 2 (lit≤ tt) 1 1 (from_of lr) lr (lit≤ tt) c a) mid-most edge-most)

pub slow-mo-most : (t ratio power : Float) → Within t → is_nan ratio ≡ false → AtMost 1024 power → AtMost 134217728 (slow_mo t ratio power)
slow-mo-most t ratio power w p h =
    by-test (AtMost 134217728) (le t zero_f) _ _ (λ _. zero-most 134217728)
    (λ _. by-test (AtMost 134217728) (le one_f t) _ _ (λ _. at-most-more 1 134217728 one_f (lit≤ tt) one-most)
    (λ _. slow-at-most (clamp01_of ratio) (max_zero_of power) (clamped ratio p) (max-zero-up power) (by-test (AtMost 1024) (lt zero_f power) power zero_f (λ _. h) (λ _. zero-most 1024)) t w))

-- Steps, from 0 to 1
pub steps-within : (t : Float) (n : ℕ) → Within t → n ≤ 65536 → Within (steps_of t n)
steps-within t n w l =
    let c = of_int binary32 (pos (max n 1)) in
    let m : max n 1 ≤ 65536 = omega arith in
    let v : Is c (max n 1) = whole_is binary32 (max n 1) (omega arith) in
    let y : AtMost 65536 (t ⊗ c) = times 65536 (lit≤ tt) 1 65536 t c (lit≤ tt) (within-at-most t w) (is-at-most c (max n 1) 65536 v m) in
    let q : AtMost 65536 (ceil_of (t ⊗ c) ⊘ c) = over 65536 (lit≤ tt) 65536 1 (ceil_of (t ⊗ c)) c (lit≤ tt) (ceil-at-most 65536 (t ⊗ c) (lit≤ tt) y) (is-at-least c (max n 1) v (omega arith)) in
    by-test Within (eq t zero_f) _ _ (λ _. zero-within) (λ _. clamped (ceil_of (t ⊗ c) ⊘ c) (at-most-number 65536 (ceil_of (t ⊗ c) ⊘ c) q))
