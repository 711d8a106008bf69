-- Parts of a list: read one element after the other; and cut into parts of one size, of which each has its place. Assumes nothing.
use Rattle.std.proofs.Common.{◌≡◌, ℕ, zero, suc, ◌+◌, ◌*◌, ◌<◌, ◌≤◌, List, [], ◌∷◌, ◌++◌, length, get_or, take, drop, sym, refl, ap, ◌∙◌, add-zero, add_comm, mul-le-mul_left, mul-zero, zero-add, mul-suc, arith, length-drop, length-take-le, drop-cons, drop-drop, take_at, take-add, drop_at}
use mathlib.Core.List.{flatten}
use lib.Seq.{take-append-le, drop-append-le}
use Rattle.math.specs.Lists.{split}

module _ {A : Type 0} where
  -- n elements as a program reads them, one by one: at i, i + 1, i + 2 and so on
  abbrev pub reads_from : A → ℕ → ℕ → ℕ → List A → List A
  reads_from d zero k i l = []
  reads_from d (suc n) k i l = get_or l (i + k) d ∷ reads_from d n (suc k) i l

  abbrev pub reads : A → ℕ → ℕ → List A → List A
  reads d zero i l = []
  reads d (suc n) i l = get_or l i d ∷ reads_from d n 1 i l

  pub reads_plain : (d : A) (n i : ℕ) (l : List A) → reads d n i l ≡ reads_from d n 0 i l
  reads_plain d zero i l = refl
  reads_plain d (suc n) i l = rw (add-zero i) refl

  from-part : (d : A) (n k i : ℕ) (l : List A) → i + k + n ≤ length l → reads_from d n k i l ≡ take n (drop (i + k) l)
  from-part d zero k i l h = refl
  from-part d (suc n) k i l h =
      let e : i + suc k ≡ suc (i + k) = omega arith in
      ap (λ (t : List A). get_or l (i + k) d ∷ t) (from-part d n (suc k) i l (omega arith) ∙ ap (λ (m : ℕ). take n (drop m l)) e)
      ∙ sym (ap (take (suc n)) (drop-cons l (i + k) d (omega arith)))

  -- they are a part of the list
  pub reads-part : (d : A) (n i : ℕ) (l : List A) → i + n ≤ length l → reads d n i l ≡ take n (drop i l)
  reads-part d n i l h = reads_plain d n i l ∙ from-part d n 0 i l (omega arith) ∙ ap (λ (m : ℕ). take n (drop m l)) (add-zero i)

  module _ (size : ℕ) where
    pub length-split : (n : ℕ) (l : List A) → length (split size n l) ≡ n
    unfolding split
    length-split zero l = refl
    length-split (suc n) l = ap suc (length-split n (drop size l))

    -- a part in front of others
    pub split-cons : (n : ℕ) (p l : List A) → length p ≡ size → split size (suc n) (p ++ l) ≡ p ∷ split size n l
    unfolding split
    split-cons n p l h = rw (take_at p l size h, drop_at p l size h) refl

    -- the part from a place on, and those behind it
    pub split-next : (n place : ℕ) (l : List A) → split size (suc n) (drop place l) ≡ take size (drop place l) ∷ split size n (drop (place + size) l)
    unfolding split
    split-next n place l = ap (λ (t : List A). take size (drop place l) ∷ split size n t) (drop-drop size place l)

    none : (l : List A) → length l ≡ 0 → l ≡ []
    none [] h = refl
    none (x ∷ l) h = absurd (omega (arith, h))

    -- whole parts in front of others
    pub split-append : (n m : ℕ) (a b : List A) → length a ≡ size * n → split size (n + m) (a ++ b) ≡ split size n a ++ split size m b
    unfolding split
    split-append zero m a b h = rw (none a (h ∙ mul-zero size), zero-add m) refl
    split-append (suc n) m a b h =
        let long : length a ≡ size * n + size = h ∙ mul-suc size n in
        let e : suc n + m ≡ suc (n + m) = omega arith in
        rw (e, take-append-le size a b (omega arith), drop-append-le size a b (omega arith), split-append n m (drop size a) b (omega (arith, length-drop size a))) refl

    -- the part at place i
    pub part_at : (n i : ℕ) (l d : List A) → i < n → get_or (split size n l) i d ≡ take size (drop (size * i) l)
    unfolding split
    part_at zero i l d h = absurd (omega arith)
    part_at (suc n) zero l d h = rw (mul-zero size) refl
    part_at (suc n) (suc i) l d h =
        part_at n i (drop size l) d (omega arith)
        ∙ ap (take size) (drop-drop (size * i) size l ∙ ap (λ (m : ℕ). drop m l) (add_comm size (size * i) ∙ sym (mul-suc size i)))

    -- each of them is whole, where the list is long enough
    pub part-long : (n i : ℕ) (l d : List A) → i < n → size * n ≤ length l → length (get_or (split size n l) i d) ≡ size
    part-long n i l d h k =
        ap length (part_at n i l d h)
        ∙ length-take-le size (drop (size * i) l) (omega (arith, length-drop (size * i) l, mul-suc size i, mul-le-mul_left {m = suc i} {n = n} size h))

    -- the parts, joined, are the front of the list
    pub parts-joined : (n : ℕ) (l : List A) → flatten (split size n l) ≡ take (size * n) l
    unfolding split flatten
    parts-joined zero l = rw (mul-zero size) refl
    parts-joined (suc n) l =
        ap (λ (t : List A). take size l ++ t) (parts-joined n (drop size l))
        ∙ sym (take-add size (size * n) l)
        ∙ ap (λ (m : ℕ). take m l) (add_comm size (size * n) ∙ sym (mul-suc size n))

    -- and whole parts are the parts of what they make when they are joined
    pub split-joined : (ps : List (List A)) → ((i : ℕ) → i < length ps → length (get_or ps i []) ≡ size) → split size (length ps) (flatten ps) ≡ ps
    unfolding split flatten
    split-joined [] h = refl
    split-joined (p ∷ ps) h = split-cons (length ps) p (flatten ps) (h 0 (omega arith)) ∙ ap (λ (t : List (List A)). p ∷ t) (split-joined ps (λ i k. h (suc i) (omega arith)))
