-- The places of a track's words, and their kinds from place i on. Assumes nothing.
use Prim.Native.Nat.{ℕ, ◌+◌, ◌<◌, ◌≤◌}
use native.Mathlib.Omega.{arith}
use borrow.Author.Tests.{ltb-false}
use mathlib.Core.Path.{◌≡◌, refl}
use mathlib.Core.Bool.{true, ◌&&◌}
use mathlib.Core.List.{List}
use lib.Dec.{ltb}
use lib.ListN.{length, take, drop, get_or}
use lib.Ieee.{nan}
use mir.Val.{Val}
use denote.Laws.{Is}
use denote.Struct.Declared.{row}
use denote.Struct.Laws.{owed}
use Rattle.math.proofs.Choice.{by-test}
use Rattle.frames.proofs.Walks.{front, back}
use Rattle.words.specs.declared.tracks.LaxKeyframe.{LaxKeyframe}
use Rattle.words.specs.declared.tracks.LaxTrack.{LaxTrack}
use Rattle.words.specs.contracts.tracks.LaxTrack.{the_type}
use Rattle.words.proofs.tracks.LaxTrack.TheLaws.{the_laws}
use Rattle.words.specs.Kinds.{words, is_kind}
use Rattle.words.specs.Tracks.{lax_frame, places_in, known_kinds}

-- at most 64 places are all looked at
pub all-places : (n : ℕ) → n ≤ 64 → places_in n ≡ n
all-places n h = by-test (λ (m : ℕ). m ≡ n) (ltb n 64) n 64 (λ _. refl) (λ e. omega (arith, h, ltb-false n 64 e))

-- the array has 64 places
pub words_long : (w : LaxTrack) (vs : List Val) → Is (row the_type) w vs → length w.frames ≡ 64
words_long w vs h = (owed the_type the_laws w vs h).0.1.0.1

-- what stands past the end of a list, for `get_or`
abbrev pub no_words : LaxKeyframe
no_words = lax_frame nan nan (words 0 nan nan nan nan 0)

module _ (ws : List LaxKeyframe) (n : ℕ) (fit : n ≤ length ws) where
  pub known_step : (i : ℕ) → i < n → known_kinds (drop i (take n ws)) ≡ is_kind (get_or ws i no_words).easing.kind && known_kinds (drop (i + 1) (take n ws))
  unfolding known_kinds
  known_step i h = rw (front ws n fit no_words i h)

  pub known-end : known_kinds (drop n (take n ws)) ≡ true
  unfolding known_kinds
  known-end = rw (back ws n fit)
