-- Bytes put behind the first w of a buffer. Assumes nothing.
use Rattle.std.proofs.Common.{◌≡◌, ℕ, ◌+◌, ◌-◌, ◌<◌, ◌≤◌, List, ◌++◌, length, get_or, take, drop, refl, sym, ap, ◌∙◌, ⊎_elim, append_assoc, arith, length-append, length-drop, length-take-le, get_or-drop, get_or-take, drop-drop, get_or-append-add}
use lib.ListN.{get_or-append}
use borrow.Rule.Slice.PartMut.{put_mid}
use Rattle.event_log.specs.Writing.{Keeps}

-- a part is lent from w on, of m bytes, and all of it is written
pub pasted : (l : List ℕ) (w n m : ℕ) (r new : List ℕ) → n ≡ m → r ≡ new → put_mid w n l r ≡ take w l ++ new ++ drop (w + m) l
pasted l w n m r new e f = rw (e, f, drop-drop m w l) (sym (append_assoc (take w l) new (drop (w + m) l)))

module _ (l : List ℕ) (w : ℕ) (new : List ℕ) (h : w + length new ≤ length l) where
  front_long : length (take w l ++ new) ≡ w + length new
  front_long = omega (arith, length-append (take w l) new, length-take-le w l (omega arith))

  put-before : (i : ℕ) → i < w → get_or (take w l ++ new ++ drop (w + length new) l) i 0 ≡ get_or l i 0
  put-before i k =
      get_or-append (take w l ++ new) (drop (w + length new) l) 0 i (omega (arith, front_long))
      ∙ get_or-append (take w l) new 0 i (omega (arith, length-take-le w l (omega arith)))
      ∙ get_or-take w l i 0 k

  put-behind : (i : ℕ) → w + length new ≤ i → get_or (take w l ++ new ++ drop (w + length new) l) i 0 ≡ get_or l i 0
  put-behind i k =
      let j = i - (w + length new) in
      let e : i ≡ length (take w l ++ new) + j = omega (arith, front_long) in
      ap (λ (n : ℕ). get_or (take w l ++ new ++ drop (w + length new) l) n 0) e
      ∙ get_or-append-add (take w l ++ new) (drop (w + length new) l) j 0
      ∙ get_or-drop (w + length new) l j 0
      ∙ ap (λ (n : ℕ). get_or l n 0) (omega arith)

  pub put_keeps : Keeps w (length new) l (take w l ++ new ++ drop (w + length new) l)
  put_keeps = (
    omega (arith, length-append (take w l ++ new) (drop (w + length new) l), front_long, length-drop (w + length new) l),
    λ i. ⊎_elim (put-before i) (put-behind i),
  )

pub same-keeps : (w n : ℕ) (l : List ℕ) → Keeps w n l l
same-keeps w n l = (refl, λ i k. refl)
