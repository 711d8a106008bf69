-- One fold: what it makes of the count and the direction, and of the elapsed. Assumes nothing.
use Rattle.std.specs.Prelude.{None, Some}
use Prim.Native.Nat.{ℕ, zero, suc, ◌+◌, ◌%◌, ◌≤◌}
use native.Mathlib.Omega.{arith}
use mathlib.Core.Path.{◌≡◌, refl}
use mathlib.Core.Bool.{Bool, true, false, not, cond}
use borrow.Author.Tests.{ne_eqb}
use lib.Dec.{leb, eqb}
use lib.Ieee.{Float}
use Rattle.math.specs.Rounded.{zero_f, ◌⊖◌}
use Rattle.math.proofs.Choice.{by-test}
use Rattle.loop_mode.specs.declared.Loop.{Loop}
use Rattle.loop_mode.specs.declared.Loop.TheVariants.{Once, Times, Forever, PingPong, PingPongTimes}
use Rattle.loop_mode.specs.Passes.{passes_of}
use Rattle.folds.specs.declared.Folding.{Folding}
use Rattle.folds.specs.Folds.{completes, goes_on, fold_once}
use Rattle.words.specs.Modes.{loop_from, flag_word}
use Rattle.words.specs.Tracks.{loop_in}
use Rattle.tween_words.specs.Stepping.{turn_from, turn_of}

-- the elapsed that is left, and one fold more
abbrev Left : Float → Folding → Folding → Type 0
Left d p q = (q.elapsed ≡ cond q.completed d (p.elapsed ⊖ d)) × (q.folds ≡ p.folds + 1)

pub left : (l : Loop) (d : Float) (p : Folding) → Left d p (fold_once l d p)
unfolding fold_once
left Once d p = (refl, refl)
left (Times n) d p =
    by-test (Left d p) (leb (passes_of n) (p.loop_count + 1)) (completes d (p.loop_count + 1) p.ping_pong_reverse p) (goes_on d (p.loop_count + 1) p.ping_pong_reverse p) (λ _. (refl, refl)) (λ _. (refl, refl))
left (PingPongTimes n) d p =
    by-test (Left d p) (leb (passes_of n) (p.loop_count + 1)) (completes d (passes_of n) (eqb (passes_of n % 2) 0) p) (goes_on d (p.loop_count + 1) (not p.ping_pong_reverse) p) (λ _. (refl, refl)) (λ _. (refl, refl))
left Forever d p = (refl, refl)
left PingPong d p = (refl, refl)

abbrev begun : Float → ℕ → ℕ → Folding
begun e count flag = record { elapsed = e; loop_count = count; ping_pong_reverse = not (eqb flag 0); completed = false; folds = 0 }

-- both ways of a test
by_way : (b : Bool) (p q x y : Folding) → turn_from p ≡ turn_from x → turn_from q ≡ turn_from y → turn_from (cond b p q) ≡ turn_from (cond b x y)
by_way true p q x y h k = h
by_way false p q x y h k = k

pub turns : (l : Loop) (d e : Float) (count flag : ℕ) → turn_of l count flag ≡ turn_from (fold_once l d (begun e count flag))
unfolding turn_of fold_once
turns Once d e count flag = refl
turns (Times n) d e count flag =
    let r = not (eqb flag 0) in
    let p = begun zero_f count flag in
    let q = begun e count flag in
    by_way (leb (passes_of n) (count + 1)) (completes zero_f (count + 1) r p) (goes_on zero_f (count + 1) r p) (completes d (count + 1) r q) (goes_on d (count + 1) r q) refl refl
turns (PingPongTimes n) d e count flag =
    let r = not (eqb flag 0) in
    let p = begun zero_f count flag in
    let q = begun e count flag in
    let m = passes_of n in
    by_way (leb m (count + 1)) (completes zero_f m (eqb (m % 2) 0) p) (goes_on zero_f (count + 1) (not r) p) (completes d m (eqb (m % 2) 0) q) (goes_on d (count + 1) (not r) q) refl refl
turns Forever d e count flag = refl
turns PingPong d e count flag = refl

pub flag-kept : (n : ℕ) → n ≤ 1 → flag_word (not (eqb n 0)) ≡ n
flag-kept zero h = refl
flag-kept (suc zero) h = refl
flag-kept (suc (suc n)) h = absurd (omega (arith, h))

twice : (b : Bool) → not (not b) ≡ b
twice true = refl
twice false = refl

-- the turn in each mode
module _ (count flag : ℕ) where
  pub turn-once : flag ≤ 1 → turn_of Once count flag ≡ record { count = count; flag = flag; done = true }
  unfolding turn_of fold_once
  turn-once h = rw (flag-kept flag h) refl

  pub turn-forever : flag ≤ 1 → turn_of Forever count flag ≡ record { count = count; flag = flag; done = false }
  unfolding turn_of fold_once
  turn-forever h = rw (flag-kept flag h) refl

  pub turn-back : turn_of PingPong count flag ≡ record { count = count; flag = flag_word (eqb flag 0); done = false }
  unfolding turn_of fold_once
  turn-back = rw (twice (eqb flag 0)) refl

  pub turn-times : (n : ℕ) → flag ≤ 1 → turn_of (Times n) count flag ≡ record { count = count + 1; flag = flag; done = leb (passes_of n) (count + 1) }
  unfolding turn_of fold_once
  turn-times n h = go (leb (passes_of n) (count + 1))
    where
      go : (b : Bool) → turn_from (cond b (completes zero_f (count + 1) (not (eqb flag 0)) (begun zero_f count flag)) (goes_on zero_f (count + 1) (not (eqb flag 0)) (begun zero_f count flag))) ≡ record { count = count + 1; flag = flag; done = b }
      go true = rw (flag-kept flag h) refl
      go false = rw (flag-kept flag h) refl

  pub turn_last : (n : ℕ) → leb (passes_of n) (count + 1) ≡ true → turn_of (PingPongTimes n) count flag ≡ record { count = passes_of n; flag = flag_word (eqb (passes_of n % 2) 0); done = true }
  unfolding turn_of fold_once
  turn_last n h = rw h refl

  pub turn-next : (n : ℕ) → leb (passes_of n) (count + 1) ≡ false → turn_of (PingPongTimes n) count flag ≡ record { count = count + 1; flag = flag_word (eqb flag 0); done = false }
  unfolding turn_of fold_once
  turn-next n h = rw (h, twice (eqb flag 0)) refl

-- a mode that is none of 1 to 4 is Once, or none
pub else-once : (m p : ℕ) → (m ≡ 1 → ⊥) → (m ≡ 2 → ⊥) → (m ≡ 3 → ⊥) → (m ≡ 4 → ⊥) → loop_in (loop_from (record { mode = m; passes = p })) ≡ Once
unfolding loop_from
else-once m p a b c d = rw (ne_eqb m 1 a, ne_eqb m 2 b, ne_eqb m 3 c, ne_eqb m 4 d) (go (eqb m 0))
  where
    go : (x : Bool) → loop_in (cond x (Some Once) None) ≡ Once
    go true = refl
    go false = refl
