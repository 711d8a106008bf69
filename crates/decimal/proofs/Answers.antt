-- The words for what is no finite number, and what is answered of a text that holds it. Assumes nothing.
use Prim.Native.Nat.{ℕ, ◌≤◌}
use mathlib.Core.Path.{◌≡◌, sym}
use mathlib.Core.Bool.{true, false, true≢false}
use mathlib.Core.List.{List, [], ◌∷◌}
use lib.ListN.{length, take}
use lib.Seq.{length-take-le}
use lib.Ieee.{Float, nan, inf, fin, lt, is_nan, of_bits}
use Rattle.math.specs.Rounded.{zero_f}
use Rattle.math.specs.Range.{is_finite}
use Rattle.decimal.specs.declared.text.Text.{Text}
use Rattle.decimal.specs.Printing.{text_of, sign_text, Shows}
use Rattle.decimal.proofs.Texts.{text-kept, text-counts}

pub answered : (t : Text) (s : List ℕ) → Shows t s
    → (take t.length t.bytes ≡ s) × (Shows t s × ((t.length ≤ length t.bytes) × (t.length ≡ length (take t.length t.bytes))))
answered t s h =
    let l : t.length ≤ length t.bytes = text-counts t s h in
    (text-kept t s h, (h, (l, sym (length-take-le t.length t.bytes l))))

pub nan-shows : (t : Text) (x : Float) → is_nan x ≡ true → Shows t (0x6e ∷ 0x61 ∷ 0x6e ∷ []) → Shows t (text_of x)
unfolding is_nan text_of
nan-shows t nan h w = w
nan-shows t (inf s) h w = absurd (true≢false (sym h))
nan-shows t (fin s m e) h w = absurd (true≢false (sym h))

pub inf-shows : (t : Text) (x : Float) → is_nan x ≡ false → is_finite x ≡ false → lt zero_f x ≡ true → Shows t (0x69 ∷ 0x6e ∷ 0x66 ∷ []) → Shows t (text_of x)
unfolding is_nan text_of sign_text lt of_bits
inf-shows t nan n f h w = absurd (true≢false n)
inf-shows t (inf true) n f h w = absurd (true≢false (sym h))
inf-shows t (inf false) n f h w = w
inf-shows t (fin s m e) n f h w = absurd (true≢false f)

pub minus-shows : (t : Text) (x : Float) → is_nan x ≡ false → is_finite x ≡ false → lt zero_f x ≡ false → Shows t (0x2d ∷ 0x69 ∷ 0x6e ∷ 0x66 ∷ []) → Shows t (text_of x)
unfolding is_nan text_of sign_text lt of_bits
minus-shows t nan n f h w = absurd (true≢false n)
minus-shows t (inf true) n f h w = w
minus-shows t (inf false) n f h w = absurd (true≢false h)
minus-shows t (fin s m e) n f h w = absurd (true≢false f)
