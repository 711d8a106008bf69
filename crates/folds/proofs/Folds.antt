-- Laws of the folds: none is made where none is due, one is the first of n, and loop_count grows by one at most. Assumes nothing.
use Prim.Native.Nat.{ℕ, zero, suc, ◌+◌, ◌-◌, ◌≤◌, ◌<◌}
use native.Mathlib.Nat.{le_refl}
use native.Mathlib.Numerals.{sub-one}
use native.Mathlib.Omega.{arith}
use mathlib.Core.Path.{◌≡◌, refl, sym}
use mathlib.Core.Bool.{Bool, true, false, not}
use borrow.Author.Tests.{leb-true}
use lib.Dec.{leb}
use lib.Ieee.{Float}
use Rattle.math.proofs.Choice.{by-test, fails, passes}
use Rattle.loop_mode.specs.declared.Loop.{Loop}
use Rattle.loop_mode.specs.declared.Loop.TheVariants.{Once, Times, Forever, PingPong, PingPongTimes}
use Rattle.loop_mode.specs.Passes.{passes_of}
use Rattle.folds.specs.declared.Folding.{Folding}
use Rattle.folds.specs.Folds.{fold_once, due, folds_of}

pub folds-none : (b : Bool) (l : Loop) (d : Float) (p : Folding) → folds_of 0 b l d p ≡ p
unfolding folds_of
folds-none b l d p = refl

folds-still : (n : ℕ) (l : Loop) (d : Float) (p : Folding) → folds_of n false l d p ≡ p
unfolding folds_of
folds-still zero l d p = refl
folds-still (suc n) l d p = refl

folds-first : (n : ℕ) (l : Loop) (d : Float) (p : Folding) → 0 < n → folds_of n true l d p ≡ folds_of (n - 1) (due d (fold_once l d p)) l d (fold_once l d p)
unfolding folds_of
folds-first zero l d p h = absurd (omega arith)
folds-first (suc n) l d p h = rw sub-one

-- b is the answer of `is_due`: what a turn of the loop needs, where it leaves and where it goes on
pub folds-done : (n : ℕ) (l : Loop) (d : Float) (p : Folding) (b : Bool) → b ≡ due d p → not b ≡ true → p ≡ folds_of n (due d p) l d p
folds-done n l d p b e h = rw (fails b (due d p) e h) (sym (folds-still n l d p))

pub folds-next : (n : ℕ) (l : Loop) (d : Float) (p q : Folding) (b : Bool) → b ≡ due d p → not b ≡ false → 0 < n → q ≡ fold_once l d p
    → folds_of (n - 1) (due d q) l d q ≡ folds_of n (due d p) l d p
folds-next n l d p q b e h k r = rw (r, passes b (due d p) e h) (sym (folds-first n l d p k))

pub count-grows : (l : Loop) (d : Float) (p : Folding) → (fold_once l d p).loop_count ≤ p.loop_count + 1
unfolding fold_once
count-grows Once d p = omega arith
count-grows (Times n) d p =
    by-test (λ (q : Folding). q.loop_count ≤ p.loop_count + 1) (leb (passes_of n) (p.loop_count + 1)) _ _ (λ _. le_refl _) (λ _. le_refl _)
count-grows (PingPongTimes n) d p =
    by-test (λ (q : Folding). q.loop_count ≤ p.loop_count + 1) (leb (passes_of n) (p.loop_count + 1)) _ _ (λ e. leb-true _ _ e) (λ _. le_refl _)
count-grows Forever d p = omega arith
count-grows PingPong d p = omega arith
