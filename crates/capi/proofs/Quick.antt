-- What the common ways say is what the calls are to answer. Assumes nothing.
use Rattle.std.specs.Prelude.{Ok}
use Prim.Native.Nat.{ℕ}
use mathlib.Core.Path.{◌≡◌, refl, subst}
use mathlib.Core.Bool.{Bool}
use mathlib.Core.List.{List, [], ◌∷◌}
use lib.Ieee.{Float}
use Rattle.bezier.specs.declared.types.Found.{Found}
use Rattle.easing.specs.Apply.{apply_of}
use Rattle.words.specs.Kinds.{easing_from}
use Rattle.words.specs.Modes.{flag_word}
use Rattle.words.specs.Tracks.{easing_in}
use Rattle.words.specs.Lent.{easing_at}
use Rattle.easing_words.proofs.Applied.{Holds}
use Rattle.tween_words.specs.Stepping.{Steps}
use Rattle.tween_words.specs.Valuing.{Values}
use Rattle.capi.specs.Answers.{Answer, accepted, found_in}
use Rattle.capi.specs.Easings.{lax_easing_apply}
use Rattle.capi.specs.Tweens.{lax_tween_value, Stepping, updated_in, lax_tween_update}

pub applied : (ws : List ℕ) (t : Float) (out : List ℕ) (f : Found) → Holds (easing_at ws 0) × (apply_of (easing_in (easing_from (easing_at ws 0))) t ≡ Ok f) → found_in out (Ok f) ≡ lax_easing_apply ws t out
unfolding lax_easing_apply
applied ws t out f h = rw (h.0.known, h.1) refl

pub valued : (ws out : List ℕ) (f : Found) → Values ws f → found_in out (Ok f) ≡ lax_tween_value ws out
unfolding lax_tween_value
valued ws out f h = rw (h.read, h.value) refl

pub stepped : (ws out : List ℕ) (x : Float) (folds : ℕ) (running : Bool) (after : List ℕ) → Steps ws x folds running after → accepted (record { words = after; out = folds ∷ flag_word running ∷ [] }) ≡ lax_tween_update ws x out
unfolding lax_tween_update updated_in
stepped ws out x folds running after h = rw (h.read, h.ran, h.words) refl

-- no word was changed
pub unsure : (ws out after : List ℕ) (x : Float) (a : Answer Stepping) → after ≡ ws → a ≡ lax_tween_update after x out → a ≡ lax_tween_update ws x out
unsure ws out after x a e h = subst (λ z. a ≡ lax_tween_update z x out) e h
