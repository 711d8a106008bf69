-- The calls of a track: the track read from its 518 words, the library's definition, and what is left in the lent words and places.
use Rattle.std.specs.Prelude.{ℕ, cond, List, [], ◌∷◌, eqb, set, replicate, Float, Bool, Err, None, Ok, Option, Result, Some, ⊤}
use Rattle.math.specs.Bits.{bits_of}
use Rattle.refusal.specs.Refusing.{unless, outcome_of}
use Rattle.keyframe.specs.declared.types.Track.{Track}
use Rattle.keyframe.specs.declared.types.Updated.{Updated}
use Rattle.keyframe.specs.declared.types.Filled.{Filled}
use Rattle.keyframe.specs.Pushing.{looping_of, push_of}
use Rattle.keyframe.specs.Sampling.{value_at_of, value_now}
use Rattle.keyframe.specs.Batch.{batch_out, batch_answer}
use Rattle.keyframe.specs.Playback.{active_time_of, duration_in, playback_in, progress_of, complete_of}
use Rattle.keyframe.specs.Stepping.{reset_of, seek_to_of, update_of}
use Rattle.keyframe.specs.Clock.{clock_in}
use Rattle.words.specs.Modes.{loop_from, flag_word}
use Rattle.words.specs.Tracks.{frame_read, known_track, track_from}
use Rattle.words.specs.Lent.{word_at, frame_at, loop_at, track_in, clock_into}
use Rattle.track_words.specs.Pushing.{push_into, stored_row}
use Rattle.capi.specs.Answers.{Answer, accepted, refused, unknown, found_in, seconds_in, progress_in, flag_in}
use Rattle.frames.specs.declared.frame.Keyframe.{Keyframe}
use Rattle.loop_mode.specs.declared.Loop.{Loop}
use Rattle.refusal.specs.declared.Refusal.{Refusal}
use Rattle.refusal.specs.declared.rejected.Rejected.{Rejected}

-- the answer for the track that is read, or the one for words that are none
abbrev pub on_track : {A : Type 0} → List ℕ → A → (Track → Answer A) → Answer A
on_track ws came answer = unless (known_track (track_in ws)) (unknown came) (answer (track_from (track_in ws)))

-- no frames, Once: every word is 0
abbrev pub lax_track_new : List ℕ
lax_track_new = replicate 518 0

abbrev pub pushed_by : List ℕ → List ℕ → Result ⊤ Refusal → Answer (List ℕ)
pushed_by ws row (Ok tt) = accepted (push_into ws (stored_row row))
pushed_by ws row (Err r) = refused ws r

abbrev pub pushed : List ℕ → List ℕ → Option Keyframe → Track → Answer (List ℕ)
pushed ws row (Some k) t = pushed_by ws row (outcome_of (push_of t k))
pushed ws row None t = unknown ws

-- a frame of eight words, which are stored as they came but for a time of -0
unfoldable pub lax_track_push : List ℕ → List ℕ → Answer (List ℕ)
lax_track_push ws row = on_track ws ws (pushed ws row (frame_read (frame_at row 0)))

-- the row of a frame with the six words of an easing, and of a Linear one
abbrev pub eased_row : Float → Float → List ℕ → List ℕ
eased_row time value e =
    bits_of time ∷ bits_of value ∷ word_at e 0 ∷ word_at e 1 ∷ word_at e 2 ∷ word_at e 3 ∷ word_at e 4 ∷ word_at e 5 ∷ []

abbrev pub plain_row : Float → Float → List ℕ
plain_row time value = bits_of time ∷ bits_of value ∷ 0 ∷ 0 ∷ 0 ∷ 0 ∷ 0 ∷ 0 ∷ []

-- the mode's two words as they came; complete is cleared
abbrev pub loop_into : List ℕ → List ℕ → List ℕ
loop_into ws m = set (set (set ws 514 (word_at m 0)) 515 (word_at m 1)) 517 0

abbrev pub looped_by : List ℕ → List ℕ → Result ⊤ Refusal → Answer (List ℕ)
looped_by ws m (Ok tt) = accepted (loop_into ws m)
looped_by ws m (Err r) = refused ws r

abbrev pub looped : List ℕ → List ℕ → Option Loop → Track → Answer (List ℕ)
looped ws m (Some l) t = looped_by ws m (outcome_of (looping_of t l))
looped ws m None t = unknown ws

unfoldable pub lax_track_looping : List ℕ → List ℕ → Answer (List ℕ)
lax_track_looping ws m = on_track ws ws (looped ws m (loop_from (loop_at m 0)))

unfoldable pub lax_track_value_at : List ℕ → Float → List ℕ → Answer (List ℕ)
lax_track_value_at ws secs out = on_track ws out (λ t. found_in out (value_at_of t secs))

unfoldable pub lax_track_value : List ℕ → List ℕ → Answer (List ℕ)
lax_track_value ws out = on_track ws out (λ t. found_in out (value_now t))

unfoldable pub lax_track_active_time : List ℕ → Float → Answer Float
lax_track_active_time ws out = on_track ws out (λ t. seconds_in out (active_time_of t))

unfoldable pub lax_track_duration : List ℕ → Float → Answer Float
lax_track_duration ws out = on_track ws out (λ t. seconds_in out (duration_in t))

unfoldable pub lax_track_playback_duration : List ℕ → Float → Answer Float
lax_track_playback_duration ws out = on_track ws out (λ t. seconds_in out (playback_in t))

unfoldable pub lax_track_progress : List ℕ → Float → Answer Float
lax_track_progress ws out = on_track ws out (λ t. progress_in out (progress_of t))

unfoldable pub completion_in : ℕ → Result Bool Refusal → Answer ℕ
completion_in out (Ok b) = flag_in b
completion_in out (Err r) = refused out r

unfoldable pub lax_track_is_complete : List ℕ → ℕ → Answer ℕ
lax_track_is_complete ws out = on_track ws out (λ t. completion_in out (complete_of t))

-- what moves in a track
unfoldable pub moved_in : List ℕ → Result Track (Rejected Track) → Answer (List ℕ)
moved_in ws (Ok t) = accepted (clock_into ws (clock_in t))
moved_in ws (Err r) = refused ws r.refusal

unfoldable pub lax_track_reset : List ℕ → Answer (List ℕ)
lax_track_reset ws = on_track ws ws (λ t. moved_in ws (reset_of t))

unfoldable pub lax_track_seek_to : List ℕ → Float → Answer (List ℕ)
lax_track_seek_to ws p = on_track ws ws (λ t. moved_in ws (seek_to_of t p))

-- the track's words, and one more: whether it is not complete and has two frames
pub record TrackStepping : Type 0 where
  pub words : List ℕ
  pub running : ℕ

unfoldable pub stepped_in : TrackStepping → Result Updated (Rejected Track) → Answer TrackStepping
stepped_in came (Ok u) = accepted (record { words = clock_into came.words (clock_in u.track); running = flag_word u.running })
stepped_in came (Err r) = refused came r.refusal

unfoldable pub lax_track_update : List ℕ → Float → ℕ → Answer TrackStepping
lax_track_update ws step running =
    let came : TrackStepping = record { words = ws; running = running } in
    on_track ws came (λ t. stepped_in came (update_of t step))

-- filled is two numbers: how many values were written, and how many of them are not settled
pub record Filling : Type 0 where
  pub out : List Float
  pub filled : List ℕ

unfoldable pub filled_in : Filling → List Float → Filled → Answer Filling
filled_in came out f =
    record {
      number = f.refusal;
      left = record { out = out; filled = cond (eqb f.refusal 0) (f.filled ∷ f.unsettled ∷ []) came.filled };
    }

unfoldable pub lax_track_values_at : List ℕ → List Float → List Float → List ℕ → Answer Filling
lax_track_values_at ws times out filled =
    let came : Filling = record { out = out; filled = filled } in
    on_track ws came (λ t. filled_in came (batch_out t times out) (batch_answer t times out))
