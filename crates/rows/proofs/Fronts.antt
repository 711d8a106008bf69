-- Two lists that agree at their fronts. Assumes nothing.
use Prim.Native.Nat.{ℕ, ◌+◌}
use mathlib.Core.Bool.{Bool, true, false}
use mathlib.Core.Path.{◌≡◌, sym, ap, ◌∙◌}
use mathlib.Core.List.{List}
use native.Mathlib.Omega.{arith}
use lib.ListN.{length, take, drop, length-drop}
use lib.Pointwise.{pointwise}
use lib.Seq.{take_all}
use Rattle.std.specs.Prelude.{slice_range, nat_eq}
use Rattle.std.specs.Cmp.Lexicographic.{same_text, other_text}
use Rattle.rows.specs.Words.{Rest, Tells}
use Rattle.rows.proofs.Told.{yes, no}

-- the words from a place on, the first n of the other list, and whether they are equal
module _ (words out : List ℕ) (from n : ℕ) (rest first : List ℕ) (R : rest ≡ slice_range words from (length words)) (L : length rest + from ≡ length words) (F : first ≡ slice_range out 0 n) (K : length first + 0 ≡ n) where
  rest-is : rest ≡ drop from words
  rest-is = R ∙ take_all _ (drop from words) (rw length-drop (omega arith))

  first-is : first ≡ take n out
  first-is = F ∙ ap (λ (k : ℕ). take k out) (omega arith)

  pub tells : (b : Bool) → b ≡ pointwise nat_eq rest first → Tells b (Rest words from out n)
  tells true e =
      let same = same_text rest first e in
      yes (record { count = omega (arith, L, K, ap length same); same = sym rest-is ∙ (same ∙ first-is) })
  tells false e = no (λ r. other_text rest first e (rest-is ∙ (r.same ∙ sym first-is)))
