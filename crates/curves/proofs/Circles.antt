-- The circular curves at a t from 0 to 1 are at most 1 in size, and the third at most 2. Assumes nothing.
use Rattle.std.proofs.Common.{◌≡◌, ℕ, ◌*◌, ◌≤◌, Bool, true, false, cond, refl, lit≤}
use lib.Ieee.{Float, binary32, lt, neg}
use lib.Ieee.Fits.{sub-fits}
use Rattle.math.specs.Rounded.{◌⊕◌, ◌⊖◌, ◌⊗◌, ◌⊘◌, half_f, one_f, two_f}
use Rattle.math.specs.Range.{Within, AtMost}
use Rattle.math.proofs.Bounded.{plus, over, one-most, two-least}
use Rattle.math.proofs.Ranges.{within-at-most, rest, under-root, less_one, doubled, turned}
use Rattle.curves.specs.Circ.{circle_of, in_circ, out_circ, in_out_circ}
use Rattle.curves.proofs.Roots.{sqrt-within}

circle-within : (y : Float) → AtMost 1 y → Within (circle_of y)
circle-within y h = sqrt-within (one_f ⊖ y ⊗ y) (sub-fits binary32 one_f (y ⊗ y)) (under-root y h)

halved : (p : ℕ) (x : Float) → p * 1 ≤ 2 → AtMost p x → AtMost 2 (x ⊘ two_f)
halved p x l h = over 2 (lit≤ tt) p 1 x two_f l h two-least

pub circ-at-most : (t : Float) → Within t → AtMost 1 (in_circ t) × AtMost 1 (out_circ t) × AtMost 2 (in_out_circ t)
unfolding in_circ out_circ in_out_circ
circ-at-most t w = (
  within-at-most (one_f ⊖ circle_of t) (rest (circle_of t) (circle-within t (within-at-most t w))),
  within-at-most (circle_of (t ⊖ one_f)) (circle-within (t ⊖ one_f) (less_one t w)),
  go (lt t half_f) refl,
)
  where
    go : (b : Bool) → lt t half_f ≡ b → AtMost 2 (cond b ((one_f ⊖ circle_of (two_f ⊗ t)) ⊘ two_f) ((circle_of (neg two_f ⊗ t ⊕ two_f) ⊕ one_f) ⊘ two_f))
    go true h = halved 1 (one_f ⊖ circle_of (two_f ⊗ t)) (lit≤ tt) (within-at-most (one_f ⊖ circle_of (two_f ⊗ t)) (rest (circle_of (two_f ⊗ t)) (circle-within (two_f ⊗ t) (doubled t w h))))
    go false h =
        let y = neg two_f ⊗ t ⊕ two_f in
        halved 2 (circle_of y ⊕ one_f) (lit≤ tt) (plus 2 (lit≤ tt) 1 1 (circle_of y) one_f (lit≤ tt) (within-at-most (circle_of y) (circle-within y (turned t w h))) one-most)
