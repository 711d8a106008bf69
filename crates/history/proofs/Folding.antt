-- What one fold keeps, and so any number of them: with F folds made in all, D times F and what has elapsed come to A. Assumes nothing.
use Rattle.std.specs.Prelude.{None, Option, Some}
use Prim.Native.Nat.{ℕ, ◌+◌, ◌-◌, ◌*◌, ◌%◌, ◌≤◌, ◌<◌}
use native.Mathlib.Omega.{arith}
use mathlib.Core.Path.{◌≡◌, refl, sym, ◌∙◌, subst, subst⁻¹}
use mathlib.Core.Bool.{Bool, true, false, not, cond}
use borrow.Author.Tests.{leb-true, leb-false}
use lib.Dec.{leb, eqb}
use lib.Ieee.{Float, binary32, le}
use Rattle.math.specs.Whole.{Is}
use Rattle.math.proofs.Choice.{by-test}
use Rattle.math.proofs.Wholes.{sub-exact, le_is}
use Rattle.loop_mode.specs.declared.Loop.{Loop}
use Rattle.loop_mode.specs.declared.Loop.TheVariants.{Once, Times, Forever, PingPong, PingPongTimes}
use Rattle.loop_mode.specs.Passes.{passes_of, limit_of}
use Rattle.folds.specs.declared.Folding.{Folding}
use Rattle.folds.specs.Folds.{completes, goes_on, fold_once, due, folds_of}
use Rattle.folds.proofs.Ways.{fold-counts, is-due, folds-keep}

-- F passes are fewer than the limit
abbrev pub Below : Option ℕ → ℕ → Type 0
Below (Some n) F = F < n
Below None F = Unit {0}

-- F passes are the limit
abbrev pub Reached : Option ℕ → ℕ → Type 0
Reached (Some n) F = F ≡ n
Reached None F = ⊥

-- loop_count c stands at F in the modes that count
abbrev pub Counted : Loop → ℕ → ℕ → Type 0
Counted Once F c = Unit {0}
Counted (Times n) F c = c ≡ F
Counted (PingPongTimes n) F c = c ≡ F
Counted Forever F c = Unit {0}
Counted PingPong F c = Unit {0}

-- after F folds in all: under way, and completed
abbrev pub FoldedTo : Loop → ℕ → ℕ → ℕ → Bool → Folding → Type 0
FoldedTo l D A F false p = (e : ℕ) × Is p.elapsed e × (D * F + e ≡ A) × (e ≤ 16777216) × Below (limit_of l) F × Counted l F p.loop_count
FoldedTo l D A F true p = Is p.elapsed D × Reached (limit_of l) F × (D * F ≤ A)

module _ (d : Float) (D A : ℕ) (v : Is d D) where
  goes : (l : Loop) (F : ℕ) (p : Folding) (e c : ℕ) (r : Bool) → Is p.elapsed e → D * F + e ≡ A → e ≤ 16777216 → D ≤ e
      → Below (limit_of l) (F + 1) → Counted l (F + 1) c → FoldedTo l D A (F + 1) false (goes_on d c r p)
  goes l F p e c r E a b m o k =
      let small : e - D ≤ 16777216 = omega arith in
      (e - D, sub-exact binary32 p.elapsed d e D E v m small, omega arith, small, o, k)

  ends : (l : Loop) (F : ℕ) (p : Folding) (e c : ℕ) (r : Bool) → D * F + e ≡ A → D ≤ e → Reached (limit_of l) (F + 1) → FoldedTo l D A (F + 1) true (completes d c r p)
  ends l F p e c r a m o = (v, o, omega arith)

  -- a fold from a loop_count F to F + 1, which ends at the limit N or goes on below it
  counts : (l : Loop) (F N : ℕ) (p : Folding) (e c i : ℕ) (r q : Bool) → limit_of l ≡ Some N → Counted l (F + 1) (c + 1) → c ≡ F → F < N → Is p.elapsed e → D * F + e ≡ A → e ≤ 16777216 → D ≤ e
      → let z = cond (leb N (c + 1)) (completes d i r p) (goes_on d (c + 1) q p) in FoldedTo l D A (F + 1) z.completed z
  counts l F N p e c i r q L k C o E a b m =
      by-test (λ (z : Folding). FoldedTo l D A (F + 1) z.completed z) (leb N (c + 1)) (completes d i r p) (goes_on d (c + 1) q p)
      (λ t.
      let g : F + 1 ≡ N = omega (arith, leb-true N (c + 1) t) in
      ends l F p e i r a m (subst⁻¹ (λ (x : Option ℕ). Reached x (F + 1)) L g))
      (λ t.
      let g : F + 1 < N = omega (arith, leb-false N (c + 1) t) in
      goes l F p e (c + 1) q E a b m (subst⁻¹ (λ (x : Option ℕ). Below x (F + 1)) L g) k)

  fold-keeps : (l : Loop) (F : ℕ) (p : Folding) → FoldedTo l D A F false p → le d p.elapsed ≡ true → FoldedTo l D A (F + 1) (fold_once l d p).completed (fold_once l d p)
  unfolding fold_once limit_of
  fold-keeps l F p (e, E, a, b, o, k) g = go l o k
    where
      m : D ≤ e
      m = leb-true D e (sym (le_is d p.elapsed D e v E) ∙ g)

      go : (l : Loop) → Below (limit_of l) F → Counted l F p.loop_count → FoldedTo l D A (F + 1) (fold_once l d p).completed (fold_once l d p)
      go Once o k = ends Once F p e p.loop_count p.ping_pong_reverse a m (omega arith)
      go (Times n) o k = counts (Times n) F (passes_of n) p e p.loop_count (p.loop_count + 1) p.ping_pong_reverse p.ping_pong_reverse refl (omega arith) k o E a b m
      go (PingPongTimes n) o k = counts (PingPongTimes n) F (passes_of n) p e p.loop_count (passes_of n) (eqb (passes_of n % 2) 0) (not p.ping_pong_reverse) refl (omega arith) k o E a b m
      go Forever o k = goes Forever F p e p.loop_count p.ping_pong_reverse E a b m tt tt
      go PingPong o k = goes PingPong F p e p.loop_count (not p.ping_pong_reverse) E a b m tt tt

  -- n folds at most, after F before them
  pub all_keep : (n : ℕ) (l : Loop) (F : ℕ) (p : Folding) → FoldedTo l D A (F + p.folds) p.completed p
      → let q = folds_of n (due d p) l d p in FoldedTo l D A (F + q.folds) q.completed q
  all_keep n l F p i = folds-keep (λ (q : Folding). FoldedTo l D A (F + q.folds) q.completed q) l d once n (due d p) p refl i
    where
      once : (p : Folding) → FoldedTo l D A (F + p.folds) p.completed p → due d p ≡ true → FoldedTo l D A (F + (fold_once l d p).folds) (fold_once l d p).completed (fold_once l d p)
      once p i g =
          let q = fold_once l d p in
          let h = is-due d p g in
          let j : FoldedTo l D A (F + p.folds) false p = subst (λ (c : Bool). FoldedTo l D A (F + p.folds) c p) h.0 i in
          let e : F + p.folds + 1 ≡ F + q.folds = omega (arith, fold-counts l d p) in
          subst (λ (k : ℕ). FoldedTo l D A k q.completed q) e (fold-keeps l (F + p.folds) p j h.1)
