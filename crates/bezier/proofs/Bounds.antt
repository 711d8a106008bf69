-- How large the curve and its derivative can be, on control points that are at most p in size and at a t that is at most 1. Assumes nothing.
use Prim.Native.Nat.{ℕ, ◌+◌, ◌*◌, ◌≤◌}
use native.Mathlib.Omega.{arith}
use lib.Dec.{lit≤}
use lib.Ieee.{Float, of_bits}
use Rattle.math.specs.Range.{AtMost}
use Rattle.math.specs.Rounded.{◌⊕◌, ◌⊖◌, ◌⊗◌, one_f, two_f}
use Rattle.math.proofs.Bounded.{plus, less, times, shrunk, one-most, two-most}
use Rattle.bezier.specs.Curve.{three_f, coef_a, coef_b, coef_c, sample_cubic_of, sample_cubic_derivative_of}

three-at-most : AtMost 3 three_f
unfolding of_bits
three-at-most = lit≤ tt

module _ (p : ℕ) (room : 3 + 57 * p ≤ 16777216) (a1 a2 t : Float) (h1 : AtMost p a1) (h2 : AtMost p a2) (ht : AtMost 1 t) where
  c-at-most : AtMost (3 * p) (coef_c a1)
  c-at-most = times (3 * p) (omega arith) 3 p three_f a1 (omega arith) three-at-most h1

  b-at-most : AtMost (9 * p) (coef_b a1 a2)
  b-at-most =
      let d : AtMost (2 * p) (a2 ⊖ a1) = less (2 * p) (omega arith) p p a2 a1 (omega arith) h2 h1 in
      let d3 : AtMost (6 * p) (three_f ⊗ (a2 ⊖ a1)) = times (6 * p) (omega arith) 3 (2 * p) three_f (a2 ⊖ a1) (omega arith) three-at-most d in
      less (9 * p) (omega arith) (6 * p) (3 * p) (three_f ⊗ (a2 ⊖ a1)) (coef_c a1) (omega arith) d3 c-at-most

  a-at-most : AtMost (1 + 12 * p) (coef_a a1 a2)
  a-at-most =
      less (1 + 12 * p) (omega arith) (1 + 3 * p) (9 * p) (one_f ⊖ coef_c a1) (coef_b a1 a2) (omega arith) (less (1 + 3 * p) (omega arith) 1 (3 * p) one_f (coef_c a1) (omega arith) one-most c-at-most) b-at-most

  pub sample-at-most : AtMost (1 + 24 * p) (sample_cubic_of a1 a2 t)
  unfolding sample_cubic_of
  sample-at-most =
      let a = coef_a a1 a2 in
      let b = coef_b a1 a2 in
      let c = coef_c a1 in
      let l : AtMost (1 + 21 * p) (a ⊗ t ⊕ b) = plus (1 + 21 * p) (omega arith) (1 + 12 * p) (9 * p) (a ⊗ t) b (omega arith) (shrunk (1 + 12 * p) (omega arith) a t a-at-most ht) b-at-most in
      let m : AtMost (1 + 24 * p) ((a ⊗ t ⊕ b) ⊗ t ⊕ c) = plus (1 + 24 * p) (omega arith) (1 + 21 * p) (3 * p) ((a ⊗ t ⊕ b) ⊗ t) c (omega arith) (shrunk (1 + 21 * p) (omega arith) (a ⊗ t ⊕ b) t l ht) c-at-most in
      shrunk (1 + 24 * p) (omega arith) ((a ⊗ t ⊕ b) ⊗ t ⊕ c) t m ht

  pub derivative-at-most : AtMost (3 + 57 * p) (sample_cubic_derivative_of a1 a2 t)
  unfolding sample_cubic_derivative_of
  derivative-at-most =
      let a = coef_a a1 a2 in
      let b = coef_b a1 a2 in
      let c = coef_c a1 in
      let a3 : AtMost (3 + 36 * p) (three_f ⊗ a) = times (3 + 36 * p) (omega arith) 3 (1 + 12 * p) three_f a (omega arith) three-at-most a-at-most in
      let b2 : AtMost (18 * p) (two_f ⊗ b) = times (18 * p) (omega arith) 2 (9 * p) two_f b (omega arith) two-most b-at-most in
      let l : AtMost (3 + 54 * p) (three_f ⊗ a ⊗ t ⊕ two_f ⊗ b) = plus (3 + 54 * p) (omega arith) (3 + 36 * p) (18 * p) (three_f ⊗ a ⊗ t) (two_f ⊗ b) (omega arith) (shrunk (3 + 36 * p) (omega arith) (three_f ⊗ a) t a3 ht) b2 in
      plus (3 + 57 * p) room (3 + 54 * p) (3 * p) ((three_f ⊗ a ⊗ t ⊕ two_f ⊗ b) ⊗ t) c (omega arith) (shrunk (3 + 54 * p) (omega arith) (three_f ⊗ a ⊗ t ⊕ two_f ⊗ b) t l ht) c-at-most
