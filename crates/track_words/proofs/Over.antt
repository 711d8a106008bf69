-- New words over others: how they are read place by place, and written one by one. Assumes nothing.
use Prim.Native.Nat.{ℕ, zero, suc, ◌+◌, ◌<◌, ◌≤◌}
use native.Mathlib.Nat.{suc-add, zero-add}
use native.Mathlib.Omega.{arith}
use mathlib.Core.Path.{◌≡◌, refl, ap}
use mathlib.Core.List.{List, [], ◌∷◌, ◌++◌}
use lib.ListN.{length, set}
use lib.Seq.{take-length}
use Rattle.words.specs.Lent.{word_at}
use Rattle.track_words.specs.Pushing.{over}

-- word by word
over-nil : (at : ℕ) (new : List ℕ) → over [] at new ≡ []
unfolding over
over-nil at new = refl

over-next : (w : ℕ) (words : List ℕ) (at : ℕ) (new : List ℕ) → over (w ∷ words) (suc at) new ≡ w ∷ over words at new
unfolding over
over-next w words at new = rw (suc-add at (length new)) refl

over-here : (w : ℕ) (words : List ℕ) (x : ℕ) (new : List ℕ) → over (w ∷ words) 0 (x ∷ new) ≡ x ∷ over words 0 new
unfolding over
over-here w words x new = rw (zero-add (suc (length new)), zero-add (length new)) refl

over-end : (words : List ℕ) → over words 0 [] ≡ words
unfolding over
over-end words = take-length words

pub over_none : (words : List ℕ) (at : ℕ) → over words at [] ≡ words
over_none [] at = over-nil at []
over_none (w ∷ words) zero = over-end (w ∷ words)
over_none (w ∷ words) (suc at) = rw (over-next w words at [], over_none words at) refl

pub over-long : (words : List ℕ) (at : ℕ) (new : List ℕ) → length (over words at new) ≡ length words
over-long [] at new = rw (over-nil at new) refl
over-long (w ∷ words) (suc at) new = rw (over-next w words at new) (ap suc (over-long words at new))
over-long (w ∷ words) zero [] = rw (over_none (w ∷ words) 0) refl
over-long (w ∷ words) zero (x ∷ new) = rw (over-here w words x new) (ap suc (over-long words 0 new))

-- place by place
pub over-before : (words : List ℕ) (at : ℕ) (new : List ℕ) (i : ℕ) → i < at → word_at (over words at new) i ≡ word_at words i
over-before [] at new i h = rw (over-nil at new) refl
over-before (w ∷ words) zero new i h = absurd (omega (arith, h))
over-before (w ∷ words) (suc at) new zero h = rw (over-next w words at new) refl
over-before (w ∷ words) (suc at) new (suc i) h = rw (over-next w words at new) (over-before words at new i (omega (arith, h)))

pub over-at : (words : List ℕ) (at : ℕ) (new : List ℕ) (i : ℕ) → at + i < length words → i < length new → word_at (over words at new) (at + i) ≡ word_at new i
over-at [] at new i fit h = absurd (omega (arith, fit))
over-at (w ∷ words) (suc at) new i fit h = rw (suc-add at i, over-next w words at new) (over-at words at new i (omega (arith, fit)) h)
over-at (w ∷ words) zero [] i fit h = absurd (omega (arith, h))
over-at (w ∷ words) zero (x ∷ new) zero fit h = rw (over-here w words x new) refl
over-at (w ∷ words) zero (x ∷ new) (suc i) fit h =
    rw (zero-add (suc i), over-here w words x new) (rw (zero-add i) at (over-at words 0 new i (omega (arith, fit)) (omega (arith, h))))

pub over-behind : (words : List ℕ) (at : ℕ) (new : List ℕ) (i : ℕ) → at + length new ≤ i → word_at (over words at new) i ≡ word_at words i
over-behind [] at new i h = rw (over-nil at new) refl
over-behind (w ∷ words) (suc at) new zero h = absurd (omega (arith, h))
over-behind (w ∷ words) (suc at) new (suc i) h = rw (over-next w words at new) (over-behind words at new i (omega (arith, h)))
over-behind (w ∷ words) zero [] i h = rw (over_none (w ∷ words) 0) refl
over-behind (w ∷ words) zero (x ∷ new) zero h = absurd (omega (arith, h))
over-behind (w ∷ words) zero (x ∷ new) (suc i) h = rw (over-here w words x new) (over-behind words 0 new i (omega (arith, h)))

-- behind the last word there is nothing to write over
pub over-beyond : (words : List ℕ) (at : ℕ) (new : List ℕ) → length words ≤ at → over words at new ≡ words
over-beyond [] at new h = over-nil at new
over-beyond (w ∷ words) zero new h = absurd (omega (arith, h))
over-beyond (w ∷ words) (suc at) new h = rw (over-next w words at new, over-beyond words at new (omega (arith, h))) refl

-- one word more, behind and in front
pub over_last : (words : List ℕ) (at : ℕ) (new : List ℕ) (x : ℕ) → set (over words at new) (at + length new) x ≡ over words at (new ++ (x ∷ []))
over_last [] at new x = rw (over-nil at new, over-nil at (new ++ (x ∷ []))) refl
over_last (w ∷ words) (suc at) new x = rw (over-next w words at new, over-next w words at (new ++ (x ∷ [])), suc-add at (length new)) (ap (λ (l : List ℕ). w ∷ l) (over_last words at new x))
over_last (w ∷ words) zero [] x = rw (over_none (w ∷ words) 0, over-here w words x [], over_none words 0) refl
over_last (w ∷ words) zero (y ∷ new) x =
    rw (over-here w words y new, over-here w words y (new ++ (x ∷ [])), zero-add (suc (length new)))
    (ap (λ (l : List ℕ). y ∷ l) (rw (zero-add (length new)) at (over_last words 0 new x)))

pub over_first : (words : List ℕ) (at : ℕ) (new : List ℕ) (x : ℕ) → set (over words (suc at) new) at x ≡ over words at (x ∷ new)
over_first [] at new x = rw (over-nil (suc at) new, over-nil at (x ∷ new)) refl
over_first (w ∷ words) zero new x = rw (over-next w words 0 new, over-here w words x new) refl
over_first (w ∷ words) (suc at) new x = rw (over-next w words (suc at) new, over-next w words at (x ∷ new)) (ap (λ (l : List ℕ). w ∷ l) (over_first words at new x))

-- words in front of words that are written already
pub over-over : (words : List ℕ) (at : ℕ) (new more : List ℕ) → over (over words (at + length new) more) at new ≡ over words at (new ++ more)
over-over [] at new more = rw (over-nil (at + length new) more, over-nil at new, over-nil at (new ++ more)) refl
over-over (w ∷ words) (suc at) new more =
    rw (suc-add at (length new), over-next w words (at + length new) more, over-next w (over words (at + length new) more) at new, over-next w words at (new ++ more))
    (ap (λ (l : List ℕ). w ∷ l) (over-over words at new more))
over-over (w ∷ words) zero [] more = rw (over_none (over (w ∷ words) 0 more) 0) refl
over-over (w ∷ words) zero (x ∷ new) more =
    rw (zero-add (suc (length new)), over-next w words (length new) more, over-here w (over words (length new) more) x new, over-here w words x (new ++ more))
    (ap (λ (l : List ℕ). x ∷ l) (rw (zero-add (length new)) at (over-over words 0 new more)))
