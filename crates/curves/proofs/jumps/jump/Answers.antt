-- `jump` meets its contract, by what its steps ensure of the product. Assumes nothing.
use Rattle.std.proofs.Common.{◌≡◌, ℕ, ◌≤◌, ap, ◌∙◌, le_trans, le_of_eq}
use lib.Ieee.{Float, le}
use Rattle.math.specs.Rounded.{◌⊗◌, whole_f}
use Rattle.math.specs.Whole.{whole_part_of}
use Rattle.curves.specs.Stairs.{is_whole}
use Rattle.curves.specs.Jumps.{product_of, jump_of}
use Rattle.curves.proofs.Products.{product-part, product_whole}
use Rattle.curves.proofs.jumps.jump.Goals as goal
use Rattle.curves.proofs.jumps.jump.Goals.{After-nearest_u32_to_f32, After-whole_part-floor}

-- once the product is there
module _ (c : After-nearest_u32_to_f32) where
  abbrev t : Float
  t = c.args.t

  abbrev n : ℕ
  n = c.args.n

  tested : le (product_of t n) (whole_f (whole_part_of (product_of t n))) ≡ is_whole (product_of t n)
  tested = product_whole n c.requires.n_bound t c.requires.within

few : (c : After-whole_part-floor) → c.whole_part-floor.result ≤ 65536
few c =
    let low : whole_part_of (product_of (t c.before) (n c.before)) ≤ n c.before = product-part (n c.before) c.requires.n_bound (t c.before) c.requires.within in
    let e : c.whole_part-floor.result ≡ whole_part_of (product_of (t c.before) (n c.before)) = c.whole_part-floor.ensures ∙ ap (λ (x : Float). whole_part_of (t c.before ⊗ x)) c.nearest_u32_to_f32.ensures in
    le_trans (le_of_eq e) (le_trans low c.requires.n_bound)

pub raised-requires : goal.raised-requires
unfolding jump_of
raised-requires c = few (goal.at.raised-requires c).After-whole_part-floor

pub returns : goal.returns
unfolding jump_of
returns c = simp (c.nearest_u32_to_f32-4.ensures, c.nearest_u32_to_f32-3.ensures, c.min-step.ensures, c.lowered.ensures, c.raised.ensures, c.jumps-jumps.ensures, c.nearest_u32_to_f32-2.ensures, c.whole_part-floor.ensures, c.nearest_u32_to_f32.ensures, tested (goal.at.returns c).After-nearest_u32_to_f32)
