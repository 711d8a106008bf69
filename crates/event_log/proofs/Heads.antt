-- A log's start, byte by byte. Assumes nothing.
use Rattle.std.proofs.Common.{◌≡◌, ℕ, ◌<◌, ◌≤◌, Bool, true, false, ◌&&◌, eqb, List, [], ◌∷◌, length, take, drop, refl, sym, ap, ◌∙◌, arith, length-drop, length-take}
use Rattle.std.specs.List.{starts_with as slice_starts}
use Rattle.std.proofs.lemmas.Bool.Decides.{Decides-eqb}
use mathlib.Core.Bool.{false≢true}
use Rattle.math.proofs.Choice.{and_both}
use Rattle.event_log.specs.Format.{version, starts_with}

-- bytes that start others are no more than they
pub starts-within : (bs l : List ℕ) → starts_with bs l ≡ true → length bs ≤ length l
starts-within [] l h = omega arith
starts-within (b ∷ bs) [] h = absurd (false≢true h)
starts-within (b ∷ bs) (x ∷ l) h = omega (arith, starts-within bs l (and_both (eqb x b) (starts_with bs l) h).1)

none : (a : Bool) → false ≡ a && false
none true = refl
none false = refl

-- bytes that are fewer are not started by those
pub starts-not : (bs l : List ℕ) → length l < length bs → false ≡ starts_with bs l
starts-not [] l h = absurd (omega arith)
starts-not (b ∷ bs) [] h = refl
starts-not (b ∷ bs) (x ∷ l) h = none (eqb x b) ∙ ap (λ (t : Bool). eqb x b && t) (starts-not bs l (omega arith))

pub version-short : (l : List ℕ) → length l < 3 → false ≡ starts_with version (drop 3 l)
version-short l h = starts-not version (drop 3 l) (omega (arith, length-drop 3 l))

both-ways : (p q : Bool) → (p ≡ true → q ≡ true) → (q ≡ true → p ≡ true) → p ≡ q
both-ways true q f g = sym (f refl)
both-ways false true f g = g refl
both-ways false false f g = refl

exchanged : (a b : ℕ) → eqb a b ≡ eqb b a
exchanged a b = both-ways (eqb a b) (eqb b a) (λ h. (Decides-eqb b a).1 (sym ((Decides-eqb a b).0 h))) (λ h. (Decides-eqb a b).1 (sym ((Decides-eqb b a).0 h)))

-- the library's test compares the other way round
pub starts-same : (bs l : List ℕ) → slice_starts eqb l bs ≡ starts_with bs l
starts-same [] l = refl
starts-same (b ∷ bs) [] = refl
starts-same (b ∷ bs) (x ∷ l) = ap (λ (t : Bool). t && slice_starts eqb l bs) (exchanged b x) ∙ ap (λ (t : Bool). eqb x b && t) (starts-same bs l)

-- a written log whose version is right has its head whole
pub head-whole : (buffer : List ℕ) (written : ℕ) → starts_with version (drop 3 (take written buffer)) ≡ true → 5 ≤ written
head-whole buffer written h =
    omega (arith, starts-within version (drop 3 (take written buffer)) h, length-drop 3 (take written buffer), length-take written buffer)
