-- The cases of a push into words that pass the check. Assumes nothing.
use Rattle.std.specs.Prelude.{Err, Ok}
use Prim.Native.Nat.{ℕ}
use mathlib.Core.Path.{◌≡◌, refl, ◌∙◌}
use mathlib.Core.Bool.{Bool, true, false, cond}
use mathlib.Core.List.{List, ◌++◌}
use lib.Dec.{leb}
use lib.ListN.{length, drop}
use Rattle.refusal.specs.declared.Refusal.TheVariants.{TrackFull}
use Rattle.easing.specs.Kinds.{supplied_of}
use Rattle.easing.specs.Params as params
use Rattle.frames.specs.declared.frame.Keyframe.{Keyframe}
use Rattle.frames.specs.Pushing.{pushed_of, put_of}
use Rattle.keyframe.specs.declared.types.Track.{Track}
use Rattle.keyframe.specs.Limits.{frames_in}
use Rattle.keyframe.specs.Pushing.{placed_of, push_of, stored_of, takes_of}
use Rattle.words.specs.Lent.{float_at}
use Rattle.track_words.specs.Checking.{check_of}
use Rattle.track_words.specs.Pushing.{has_room}
use Rattle.track_words.specs.Reading.{track_of}
use Rattle.track_words.proofs.Passed.{passed-few, passed-frames, passed-within}
use Rattle.track_words.proofs.Rows.{room-is}
use Rattle.refusal.specs.Refusing.{done, outcome_of}

-- whether a frame finds a place goes by how many frames there are then
placed_by : (t : Track) (k : Keyframe) → outcome_of (placed_of t (put_of t.frames t.count k)) ≡ cond (leb (length (pushed_of k (frames_in t))) 64) done (Err TrackFull)
unfolding placed_of put_of
placed_by t k = go (leb (length (pushed_of k (frames_in t))) 64) (pushed_of k (frames_in t))
  where
    go : (b : Bool) (l : List Keyframe)
        → outcome_of (placed_of t (cond b (Ok (record { frames = l ++ drop (length l) t.frames; count = length l })) (Err (record { frames = t.frames; count = t.count })))) ≡ cond b done (Err TrackFull)
    go true l = refl
    go false l = refl

module _ (words row : List ℕ) (fine : check_of words ≡ 0) (k : Keyframe) (supplied : supplied_of k.easing ≡ true) (fits : params.within_of (params.params_of k.easing) ≡ true)
    (taken : takes_of (track_of words) (stored_of k) ≡ true) (at : (stored_of k).time ≡ float_at row 0) where
  pub push-outcome : outcome_of (push_of (track_of words) k) ≡ cond (has_room words row) done (Err TrackFull)
  unfolding push_of
  push-outcome =
      rw (passed-within words fine, supplied, fits, taken)
      (placed_by (track_of words) (stored_of k) ∙ rw (passed-frames words fine, room-is words row (passed-few words fine) (stored_of k) at) refl)
