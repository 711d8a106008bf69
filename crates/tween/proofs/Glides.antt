-- The quick way of a step: an update with one fold, and what holds of the rest of an update holds of the update. Assumes nothing.
use Rattle.std.specs.Prelude.{None, Option}
use Rattle.std.proofs.Common.{◌≡◌, ℕ, suc, Bool, true, false, sym, refl, ap, ◌∙◌, le→leb, Some}
use lib.Ieee.{Float, eq}
use lib.Ieee.Bits.{is_true}
use Rattle.math.specs.Rounded.{zero_f}
use Rattle.loop_mode.specs.declared.Loop.{Loop}
use Rattle.tween.specs.declared.record.Tween.{Tween}
use Rattle.tween.specs.declared.record.TweenState.TheVariants.{Running}
use Rattle.tween.specs.declared.update.Glided.{Glided}
use Rattle.folds.specs.declared.Folding.{Folding}
use Rattle.folds.specs.Folds.{fold_once, due, folds_of}
use Rattle.tween.specs.Limits.{within_of}
use Rattle.tween.specs.Update.{begin_at, ran, folded, advanced, update_of, updated}
use Rattle.tween.specs.Inner.{Slides, Glides, placed}
use Rattle.tween.proofs.KeptByUpdate.{update-within}

pub glides : (t : Tween) (x w e : Float) (r : Option Glided) → t.state ≡ Running → update_of t x ≡ advanced t w e → Slides t w e r → Glides t x r
glides t x w e (Some g) s a h = (s, (a ∙ h.0, h.1, h.2))
glides t x w e None s a h = tt

-- one fold is due, and no other after it
module _ (l : Loop) (d : Float) (p : Folding) (stops : due d (fold_once l d p) ≡ false) where
  folds-once : (n : ℕ) → folds_of (suc (suc n)) true l d p ≡ fold_once l d p
  unfolding folds_of
  folds-once n = ap (λ (b : Bool). folds_of (suc n) b l d (fold_once l d p)) stops

pub one-fold : (t : Tween) (w e : Float) (q : Folding) → eq t.duration zero_f ≡ false → due t.duration (begin_at t e) ≡ true → q ≡ fold_once t.looping t.duration (begin_at t e) → due t.duration q ≡ false
    → advanced t w e ≡ ran t w q
unfolding advanced folded
one-fold t w e q z b f n =
    let p = begin_at t e in
    let m : due t.duration (fold_once t.looping t.duration p) ≡ false = ap (due t.duration) (sym f) ∙ n in
    rw (z, b, folds-once t.looping t.duration p m 4094, ← f, n) refl

pub goes_to : (t : Tween) (x : Float) (g : Glided) → Glides t x (Some g) → update_of t x ≡ updated (placed t g.waited g.folding) g.folding.folds true
goes_to t x g h = h.1.0 ∙ (rw (h.0, h.1.1) refl)

-- and leaves the tween within its limits
pub glide-within : (t : Tween) (x : Float) (g : Glided) → Glides t x (Some g) → within_of (placed t g.waited g.folding) ≡ true
glide-within t x g h =
    let u = placed t g.waited g.folding in
    is_true (within_of u) (update-within t u x g.folding.folds true (goes_to t x g h) (le→leb g.folding.loop_count 16777216 h.1.2))
