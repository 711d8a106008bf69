-- `frames_words` meets its contract. The invariant: the first i places hold their frames. Assumes nothing.
use Prim.Native.Nat.{◌≤◌}
use mathlib.Core.Path.{◌≡◌}
use lib.ListN.{length}
use Rattle.frames.proofs.Fills.{fill_to}
use Rattle.words.specs.Tracks.{frame_words}
use Rattle.words.proofs.tracks.frames_words.Given as goal

abbrev pub invariant-loop-i : goal.invariant-loop-i
invariant-loop-i l = (l.i ≤ l.n) × (length l.words ≡ 64) × (l.words ≡ fill_to frame_words l.frames l.initial.words l.i)
