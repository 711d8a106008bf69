-- What was written as words is read back as it was. Assumes nothing.
use Prim.Native.Nat.{◌≤◌}
use native.Mathlib.Omega.{arith}
use mathlib.Core.Path.{◌≡◌, refl, ◌∙◌}
use mathlib.Core.Bool.{Bool, true, false, not}
use mathlib.Core.List.{List, [], ◌∷◌, map}
use lib.Dec.{eqb}
use lib.ListN.{length, length-map, take, drop}
use lib.Seq.{length-take-le, take_at}
use Rattle.easing.specs.declared.kinds.Easing.{Easing}
use Rattle.easing.proofs.Tags.{told}
use Rattle.loop_mode.specs.declared.Loop.{Loop}
use Rattle.loop_mode.specs.declared.Loop.TheVariants.{Once, Times, Forever, PingPong, PingPongTimes}
use Rattle.tween.specs.declared.record.TweenState.TheVariants.{Idle, Running, Paused, Completed}
use Rattle.frames.specs.declared.frame.Keyframe.{Keyframe}
use Rattle.keyframe.specs.declared.types.Track.{Track}
use Rattle.words.specs.declared.tracks.LaxKeyframe.{LaxKeyframe}
use Rattle.words.specs.Kinds.{is_kind, easing_from, easing_words}
use Rattle.words.specs.Modes.{is_mode, loop_from, loop_words, state_from, state_word, flag_word}
use Rattle.words.specs.Tracks.{known_kinds, known_track, frame_from, frame_read, frames_from, track_from, frame_words, frames_words, track_words}
use Rattle.words.specs.Tweens.{tween_from, tween_words}
use Rattle.words.specs.Promises.{EasingBack, LoopBack, StateBack, FrameBack, TweenBack, TrackKnown, TrackBack}
use Rattle.words.proofs.Known.{all-places}

-- a kind that is written is known
kind-back : (e : Easing) → is_kind (easing_words e).kind ≡ true
unfolding easing_words
kind-back e = (told e).known

pub easing-back : EasingBack
unfolding easing_from easing_words
easing-back e = rw ((told e).known, (told e).back) refl

pub loop-back : LoopBack
unfolding loop_from loop_words
loop-back Once = refl
loop-back (Times n) = refl
loop-back Forever = refl
loop-back PingPong = refl
loop-back (PingPongTimes n) = refl

pub state-back : StateBack
unfolding state_from state_word
state-back Idle = refl
state-back Running = refl
state-back Paused = refl
state-back Completed = refl

flag-back : (b : Bool) → not (eqb (flag_word b) 0) ≡ b
flag-back true = refl
flag-back false = refl

pub tween-back : TweenBack
unfolding tween_from tween_words
tween-back t = rw (easing-back t.easing, loop-back t.looping, state-back t.state, flag-back t.ping_pong_reverse)

parts-back : (k : Keyframe) → frame_from (frame_words k) ≡ k
unfolding frame_from frame_words
parts-back k = rw (easing-back k.easing) refl

pub frame_back : FrameBack
unfolding frame_read frame_words
frame_back k = rw (kind-back k.easing, parts-back k) refl

frames-back : (l : List Keyframe) → map frame_from (map frame_words l) ≡ l
frames-back [] = refl
frames-back (k ∷ l) = rw (parts-back k, frames-back l) refl

kinds-back : (l : List Keyframe) → known_kinds (map frame_words l) ≡ true
unfolding known_kinds frame_words
kinds-back [] = refl
kinds-back (k ∷ l) = rw (kind-back k.easing, kinds-back l) refl

mode-back : (l : Loop) → is_mode (loop_words l).mode ≡ true
unfolding loop_words
mode-back Once = refl
mode-back (Times n) = refl
mode-back Forever = refl
mode-back PingPong = refl
mode-back (PingPongTimes n) = refl

module _ (came : List LaxKeyframe) (t : Track) (long : length t.frames ≡ 64) (fit : t.count ≤ 64) where
  -- the frames among the words
  written : take t.count (frames_words came t.frames t.count) ≡ map frame_words (take t.count t.frames)
  unfolding frames_words
  written = rw (all-places t.count fit) (take_at (map frame_words (take t.count t.frames)) (drop t.count came) t.count (length-map (take t.count t.frames) frame_words ∙ length-take-le t.count t.frames (omega (arith, long, fit))))

pub track-back : TrackBack
unfolding track_from track_words frames_from
track-back came t long fit =
    rw (all-places t.count fit, all-places t.count fit, written came t long fit, frames-back (take t.count t.frames), loop-back t.looping, flag-back t.complete) refl

pub track-known : TrackKnown
unfolding known_track track_words
track-known came t long fit =
    rw (all-places t.count fit, all-places t.count fit, written came t long fit, kinds-back (take t.count t.frames), mode-back t.looping) refl
