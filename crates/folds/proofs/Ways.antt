-- The ways that a fold can go: what holds of each way holds of it. What one fold keeps, any number keeps; each counts by one. Assumes nothing.
use Prim.Native.Nat.{ℕ, zero, suc, ◌+◌, ◌%◌}
use mathlib.Core.Path.{◌≡◌, refl, sym, ap, ◌∙◌}
use mathlib.Core.Bool.{Bool, true, false, not, ◌&&◌}
use lib.Dec.{leb, eqb}
use lib.Ieee.{Float, le}
use borrow.Author.Tests.{not-true}
use Rattle.math.proofs.Choice.{by-test, and_both}
use Rattle.loop_mode.specs.declared.Loop.{Loop}
use Rattle.loop_mode.specs.declared.Loop.TheVariants.{Once, Times, Forever, PingPong, PingPongTimes}
use Rattle.loop_mode.specs.Passes.{passes_of}
use Rattle.folds.specs.declared.Folding.{Folding}
use Rattle.folds.specs.Folds.{completes, goes_on, fold_once, due, folds_of}

-- a fold completes, or it goes on
pub by-fold : (C : Folding → Type 0) (l : Loop) (d : Float) (p : Folding) → ((n : ℕ) (r : Bool) → C (completes d n r p)) → ((n : ℕ) (r : Bool) → C (goes_on d n r p)) → C (fold_once l d p)
unfolding fold_once
by-fold C Once d p h k = h p.loop_count p.ping_pong_reverse
by-fold C (Times n) d p h k = by-test C (leb (passes_of n) (p.loop_count + 1)) _ _ (λ _. h (p.loop_count + 1) p.ping_pong_reverse) (λ _. k (p.loop_count + 1) p.ping_pong_reverse)
by-fold C (PingPongTimes n) d p h k = by-test C (leb (passes_of n) (p.loop_count + 1)) _ _ (λ _. h (passes_of n) (eqb (passes_of n % 2) 0)) (λ _. k (p.loop_count + 1) (not p.ping_pong_reverse))
by-fold C Forever d p h k = k p.loop_count p.ping_pong_reverse
by-fold C PingPong d p h k = k p.loop_count (not p.ping_pong_reverse)

pub fold-counts : (l : Loop) (d : Float) (p : Folding) → (fold_once l d p).folds ≡ p.folds + 1
fold-counts l d p = by-fold (λ (q : Folding). q.folds ≡ p.folds + 1) l d p (λ n r. refl) (λ n r. refl)

-- a fold is due: the tween is not completed, and its elapsed is at least its duration
pub is-due : (d : Float) (p : Folding) → due d p ≡ true → (p.completed ≡ false) × (le d p.elapsed ≡ true)
unfolding due
is-due d p g =
    let h = and_both (not p.completed) (le d p.elapsed) g in
    (not-true p.completed h.0, h.1)

-- and where none is due of a tween that is not completed, its elapsed is below
pub not-due : (d : Float) (p : Folding) → due d p ≡ false → p.completed ≡ false → le d p.elapsed ≡ false
unfolding due
not-due d p g c = sym (ap (λ (b : Bool). not b && le d p.elapsed) c) ∙ g

pub folds-keep : (C : Folding → Type 0) (l : Loop) (d : Float) → ((p : Folding) → C p → due d p ≡ true → C (fold_once l d p))
    → (n : ℕ) (b : Bool) (p : Folding) → due d p ≡ b → C p → C (folds_of n b l d p)
unfolding folds_of
folds-keep C l d k zero b p g i = i
folds-keep C l d k (suc n) false p g i = i
folds-keep C l d k (suc n) true p g i = folds-keep C l d k n (due d (fold_once l d p)) (fold_once l d p) refl (k p i g)
