-- The ways of the calls of a track: its words do not pass the check, and the number is the check's; or they do, and the answer is the track's. Assumes nothing.
use Rattle.std.specs.Prelude.{Err, None, Ok, Result, Some, ⊤}
use Prim.Native.Nat.{ℕ}
use mathlib.Core.Path.{◌≡◌, refl, sym, ap, ◌∙◌}
use mathlib.Core.Bool.{Bool, true, false, cond, not}
use mathlib.Core.List.{List, [], ◌∷◌}
use lib.Dec.{eqb}
use lib.ListN.{length}
use lib.Ieee.{Float, eq}
use native.Mathlib.Omega.{arith}
use Rattle.math.specs.Rounded.{f32, zero_f}
use Rattle.math.specs.Range.{clamp01_of}
use Rattle.math.proofs.Choice.{of-picked}
use Rattle.refusal.specs.declared.Refusal.{Refusal}
use Rattle.refusal.specs.declared.Refusal.TheVariants.{RecordBreaksLimit, TrackFull}
use Rattle.refusal.specs.Number.{number_of}
use Rattle.loop_mode.specs.declared.Loop.{Loop}
use Rattle.frames.specs.declared.frame.Keyframe.{Keyframe}
use Rattle.frames.specs.Sampling.{filled_of, unsettled_of}
use Rattle.keyframe.specs.declared.types.Clock.{Clock}
use Rattle.keyframe.specs.declared.types.Filled.{Filled}
use Rattle.keyframe.specs.declared.types.Ticked.{Ticked}
use Rattle.keyframe.specs.declared.types.Track.{Track}
use Rattle.keyframe.specs.Batch.{batch_answer, batch_count, batch_number, batch_out, batch_unsettled, none_filled}
use Rattle.keyframe.specs.Clock.{clock_in, clock_of, seek_of, tick_of, ticked_in, with_clock}
use Rattle.keyframe.specs.Limits.{base_of, end_of, frames_in, within_of}
use Rattle.keyframe.specs.Playback.{active_of, active_time_of, complete_of, done_of, duration_in, playback_in, playback_of, playback_progress, progress_of}
use Rattle.keyframe.specs.Pushing.{looping_of, push_of, stored_of, takes_of, with_mode}
use Rattle.keyframe.specs.Sampling.{value_at_of}
use Rattle.keyframe.specs.Stepping.{reset_of, seek_to_of, sought_of, update_of}
use Rattle.keyframe.specs.Inner.{fill_outcome, looping_outcome, push_outcome, room_outcome, seek_outcome}
use Rattle.keyframe.proofs.Batches as batch
use Rattle.keyframe.proofs.Refusals.{changed_by, fill-by, fill-number, looping-by, number_by, push-by, push-taken, seek-by}
use Rattle.keyframe.proofs.Ticks.{sought-clock, update-ticked}
use Rattle.words.specs.declared.fault.Fault.{Fault}
use Rattle.words.specs.Faults.{fault_number}
use Rattle.words.specs.Kinds.{is_kind}
use Rattle.words.specs.Lent.{word_at, float_at, frame_at, loop_at, track_in, clock_into}
use Rattle.words.specs.Modes.{loop_from, flag_word}
use Rattle.words.specs.Tracks.{frame_from, frame_read, known_track, track_from}
use Rattle.track_words.specs.Checking.{check_of}
use Rattle.track_words.specs.Pushing.{has_room, push_into, stored_row}
use Rattle.track_words.specs.Reading.{track_of}
use Rattle.track_words.proofs.Passed.{passed-known, passed-within}
use Rattle.track_words.proofs.Pushes.{push-outcome}
use Rattle.capi.specs.Answers.{Answer, accepted, faulted, refused, found_in, seconds_in, progress_in, flag_in}
use Rattle.capi.specs.Tracks.{on_track, lax_track_push, pushed, pushed_by, loop_into, looped_by, looped, lax_track_looping, lax_track_value_at, lax_track_value, lax_track_active_time, lax_track_duration, lax_track_playback_duration, lax_track_progress, completion_in, lax_track_is_complete, moved_in, lax_track_reset, lax_track_seek_to, TrackStepping, stepped_in, lax_track_update, Filling, filled_in, lax_track_values_at}
use Rattle.refusal.specs.Refusing.{done, outcome_of}
use Rattle.refusal.specs.declared.rejected.Rejected.{Rejected}

abbrev pub answered : {A : Type 0} → ℕ → A → Answer A
answered n a = record { number = n; left = a }

-- the number, and what is left: the words of a record, or a place
pub both_words : {A : Type 0} (n : ℕ) (a : A) (x : Answer A) → answered n a ≡ x → record { number : n ≡ x.number; words : a ≡ x.left }
both_words n a x e = record { number = ap (λ (y : Answer _). y.number) e; words = ap (λ (y : Answer _). y.left) e }

pub both_place : {A : Type 0} (n : ℕ) (a : A) (x : Answer A) → answered n a ≡ x → record { number : n ≡ x.number; place : a ≡ x.left }
both_place n a x e = record { number = ap (λ (y : Answer _). y.number) e; place = ap (λ (y : Answer _). y.left) e }

abbrev pub stepping : List ℕ → ℕ → TrackStepping
stepping words running = record { words = words; running = running }

pub three : (n : ℕ) (words : List ℕ) (running : ℕ) (x : Answer TrackStepping) → answered n (stepping words running) ≡ x → record { number : n ≡ x.number; words : words ≡ x.left.words; place : running ≡ x.left.running }
three n words running x e = record { number = ap (λ (y : Answer TrackStepping). y.number) e; words = ap (λ (y : Answer TrackStepping). y.left.words) e; place = ap (λ (y : Answer TrackStepping). y.left.running) e }

abbrev pub filling : List Float → List ℕ → Filling
filling out filled = record { out = out; filled = filled }

pub parts : (n : ℕ) (out : List Float) (filled : List ℕ) (x : Answer Filling) → answered n (filling out filled) ≡ x → record { number : n ≡ x.number; output : out ≡ x.left.out; places : filled ≡ x.left.filled }
parts n out filled x e = record { number = ap (λ (y : Answer Filling). y.number) e; output = ap (λ (y : Answer Filling). y.left.out) e; places = ap (λ (y : Answer Filling). y.left.filled) e }

fault-some : (f : Fault) → fault_number f ≡ 0 → ⊥
fault-some f h = grind arith

-- words that do not pass
module _ (words : List ℕ) (f : Fault) (number : fault_number f ≡ check_of words) where
  abbrev n : ℕ
  n = fault_number f

  some : n ≡ 0 → ⊥
  some h = fault-some f h

  stopped : {A : Type 0} (came : A) (answer : Track → Answer A) → ((t : Track) → within_of t ≡ false → answer t ≡ refused came RecordBreaksLimit) → answered n came ≡ on_track words came answer
  unfolding check_of
  stopped came answer breaks = go (known_track (track_in words)) (within_of (track_of words)) refl number
    where
      go : (k i : Bool) → within_of (track_of words) ≡ i → n ≡ cond k (cond i 0 4) 100 → answered n came ≡ cond k (answer (track_of words)) (answered 100 came)
      go true true e h = absurd (some h)
      go true false e h = rw h (sym (breaks (track_of words) e))
      go false i e h = rw h refl

  pub stopped-value : (secs : Float) (out : List ℕ) → answered n out ≡ lax_track_value_at words secs out
  unfolding lax_track_value_at found_in value_at_of
  stopped-value secs out = stopped out (λ t. found_in out (value_at_of t secs)) (λ t e. rw e refl)

  pub stopped-now : (out : List ℕ) → answered n out ≡ lax_track_value words out
  unfolding lax_track_value found_in value_at_of
  stopped-now out = stopped out (λ t. found_in out (value_at_of t (active_of t))) (λ t e. rw e refl)

  pub stopped-active : (out : Float) → answered n out ≡ lax_track_active_time words out
  unfolding lax_track_active_time seconds_in active_time_of
  stopped-active out = stopped out (λ t. seconds_in out (active_time_of t)) (λ t e. rw e refl)

  pub stopped-duration : (out : Float) → answered n out ≡ lax_track_duration words out
  unfolding lax_track_duration seconds_in duration_in
  stopped-duration out = stopped out (λ t. seconds_in out (duration_in t)) (λ t e. rw e refl)

  pub stopped-playback : (out : Float) → answered n out ≡ lax_track_playback_duration words out
  unfolding lax_track_playback_duration seconds_in playback_in
  stopped-playback out = stopped out (λ t. seconds_in out (playback_in t)) (λ t e. rw e refl)

  pub stopped-progress : (out : Float) → answered n out ≡ lax_track_progress words out
  unfolding lax_track_progress progress_in progress_of
  stopped-progress out = stopped out (λ t. progress_in out (progress_of t)) (λ t e. rw e refl)

  pub stopped-complete : (out : ℕ) → answered n out ≡ lax_track_is_complete words out
  unfolding lax_track_is_complete completion_in complete_of
  stopped-complete out = stopped out (λ t. completion_in out (complete_of t)) (λ t e. rw e refl)

  pub stopped-reset : answered n words ≡ lax_track_reset words
  unfolding lax_track_reset moved_in reset_of
  stopped-reset = stopped words (λ t. moved_in words (reset_of t)) (λ t e. rw e refl)

  pub stopped-seek : (p : Float) → answered n words ≡ lax_track_seek_to words p
  unfolding lax_track_seek_to moved_in seek_to_of
  stopped-seek p = stopped words (λ t. moved_in words (seek_to_of t p)) (λ t e. rw e refl)

  pub stopped-update : (step : Float) (out : ℕ) → answered n (stepping words out) ≡ lax_track_update words step out
  unfolding lax_track_update stepped_in update_of
  stopped-update step out = stopped (stepping words out) (λ t. stepped_in (stepping words out) (update_of t step)) (λ t e. rw e refl)

  pub stopped-values : (times out : List Float) (filled : List ℕ) → answered n (filling out filled) ≡ lax_track_values_at words times out filled
  unfolding lax_track_values_at filled_in batch_out batch_count batch_unsettled batch_number
  stopped-values times out filled = stopped (filling out filled) (λ t. filled_in (filling out filled) (batch_out t times out) (batch_answer t times out)) (λ t e. rw e refl)

  pub stopped-looping : (m : List ℕ) (l : Loop) → loop_from (loop_at m 0) ≡ Some l → answered n words ≡ lax_track_looping words m
  unfolding lax_track_looping looping_of
  stopped-looping m l k = rw k (stopped words (looped words m (Some l)) (λ t e. rw e refl))

-- words that pass
module _ (words : List ℕ) (fine : check_of words ≡ 0) where
  within : within_of (track_of words) ≡ true
  within = passed-within words fine

  went : {A : Type 0} (came : A) (answer : Track → Answer A) → on_track words came answer ≡ answer (track_of words)
  went came answer = rw (passed-known words fine) refl

  module _ (out : List ℕ) where
    pub value-is : (secs : Float) → found_in out (value_at_of (track_of words) secs) ≡ lax_track_value_at words secs out
    unfolding lax_track_value_at
    value-is secs = sym (went out (λ t. found_in out (value_at_of t secs)))

    pub now-is : found_in out (value_at_of (track_of words) (active_of (track_of words))) ≡ lax_track_value words out
    unfolding lax_track_value
    now-is = sym (went out (λ t. found_in out (value_at_of t (active_of t))))

  module _ (out : Float) where
    pub active-is : accepted (active_of (track_of words)) ≡ lax_track_active_time words out
    unfolding lax_track_active_time seconds_in active_time_of
    active-is = sym (went out (λ t. seconds_in out (active_time_of t)) ∙ rw within refl)

    pub duration-is : accepted (base_of (track_of words)) ≡ lax_track_duration words out
    unfolding lax_track_duration seconds_in duration_in
    duration-is = sym (went out (λ t. seconds_in out (duration_in t)) ∙ rw within refl)

    pub playback-is : accepted (playback_of (end_of (track_of words).looping (base_of (track_of words))) (base_of (track_of words))) ≡ lax_track_playback_duration words out
    unfolding lax_track_playback_duration seconds_in playback_in
    playback-is = sym (went out (λ t. seconds_in out (playback_in t)) ∙ rw within refl)

    pub progress-is : accepted (playback_progress (end_of (track_of words).looping (base_of (track_of words))) (track_of words)) ≡ lax_track_progress words out
    unfolding lax_track_progress progress_in progress_of
    progress-is = sym (went out (λ t. progress_in out (progress_of t)) ∙ rw within refl)

  pub complete-is : (out : ℕ) → flag_in (done_of (track_of words)) ≡ lax_track_is_complete words out
  unfolding lax_track_is_complete completion_in complete_of
  complete-is out = sym (went out (λ t. completion_in out (complete_of t)) ∙ rw within refl)

  -- a clock in its places
  stored : (c : Clock) → clock_into words c ≡ clock_into words (clock_in (with_clock (track_of words) c))
  unfolding clock_into
  stored c = refl

  pub reset-is : accepted (clock_into words (clock_of zero_f 0 false)) ≡ lax_track_reset words
  unfolding lax_track_reset moved_in reset_of
  reset-is = ap accepted (stored (clock_of zero_f 0 false)) ∙ sym (went words (λ t. moved_in words (reset_of t)) ∙ rw within refl)

  -- a seek, by its outcome
  module _ (p : Float) where
    sought-by : (o : Result ⊤ Refusal) → o ≡ seek_outcome p
        → moved_in words (changed_by (track_of words) (Ok (sought_of (end_of (track_of words).looping (base_of (track_of words))) (track_of words) (clamp01_of p))) o) ≡ lax_track_seek_to words p
    unfolding lax_track_seek_to
    sought-by o e = ap (moved_in words) (seek-by (track_of words) within p o e) ∙ sym (went words (λ t. moved_in words (seek_to_of t p)))

    pub seek-not : (r : Refusal) → Err r ≡ seek_outcome p → refused words r ≡ lax_track_seek_to words p
    unfolding moved_in
    seek-not r e = sought-by (Err r) e

    pub seek_is : done ≡ seek_outcome p → accepted (clock_into words (seek_of (end_of (track_of words).looping (base_of (track_of words))) (base_of (track_of words)) (clamp01_of p))) ≡ lax_track_seek_to words p
    unfolding moved_in
    seek_is e =
        let t = track_of words in
        ap accepted (stored (seek_of (end_of t.looping (base_of t)) (base_of t) (clamp01_of p)) ∙ ap (λ (u : Track). clock_into words (clock_in u)) (sought-clock t (end_of t.looping (base_of t)) (clamp01_of p)))
        ∙ sought-by done e

  -- a step, by what the clock makes of it
  module _ (step : Float) (out : ℕ) where
    abbrev ticks : Result Ticked Refusal
    ticks = tick_of (track_of words).count (base_of (track_of words)) (track_of words).looping (clock_in (track_of words)) step

    by-tick : (k : Result Ticked Refusal) → k ≡ tick_of (track_of words).count (base_of (track_of words)) (track_of words).looping (clock_in (track_of words)) step → stepped_in (stepping words out) (ticked_in (track_of words) k) ≡ lax_track_update words step out
    unfolding lax_track_update
    by-tick k e =
        ap (λ (y : Result Ticked Refusal). stepped_in (stepping words out) (ticked_in (track_of words) y)) e
        ∙ (ap (stepped_in (stepping words out)) (update-ticked (track_of words) step within) ∙ sym (went (stepping words out) (λ t. stepped_in (stepping words out) (update_of t step))))

    pub update-is : (c : Clock) (running : Bool) → Ok (record { clock = c; running = running }) ≡ tick_of (track_of words).count (base_of (track_of words)) (track_of words).looping (clock_in (track_of words)) step
        → accepted (stepping (clock_into words c) (flag_word running)) ≡ lax_track_update words step out
    unfolding stepped_in
    update-is c running e = ap (λ (ws : List ℕ). accepted (stepping ws (flag_word running))) (stored c) ∙ by-tick (Ok (record { clock = c; running = running })) e

    pub update-not : (r : Refusal) → Err r ≡ tick_of (track_of words).count (base_of (track_of words)) (track_of words).looping (clock_in (track_of words)) step → refused (stepping words out) r ≡ lax_track_update words step out
    unfolding stepped_in
    update-not r e = by-tick (Err r) e

  -- many times at once
  module _ (times out : List Float) (filled : List ℕ) where
    abbrev fills : Track → Answer Filling
    fills t = filled_in (filling out filled) (batch_out t times out) (batch_answer t times out)

    filled-by : (f : Filled) (left : List Float) → f ≡ batch_answer (track_of words) times out → left ≡ batch_out (track_of words) times out → filled_in (filling out filled) left f ≡ lax_track_values_at words times out filled
    unfolding lax_track_values_at
    filled-by f left e l =
        ap (λ (x : Filled). filled_in (filling out filled) left x) e
        ∙ (ap (λ (x : List Float). filled_in (filling out filled) x (batch_answer (track_of words) times out)) l ∙ sym (went (filling out filled) fills))

    none_left : (r : Refusal) → eqb (number_of r) 0 ≡ false → refused (filling out filled) r ≡ filled_in (filling out filled) out (none_filled r)
    unfolding filled_in
    none_left r some = rw some refl

    pub values-not : (r : Refusal) → Err r ≡ fill_outcome (word_at words 512) (length times) (length out) → refused (filling out filled) r ≡ lax_track_values_at words times out filled
    unfolding track_from track_in
    values-not r e =
        let some = fill-number (word_at words 512) (length times) (length out) r e in
        let b = batch.refused (track_of words) times out r (fill-by (track_of words) within times out (Err r) e) some in
        none_left r some ∙ filled-by (none_filled r) out b.0 b.1

    pub values-is : done ≡ fill_outcome (word_at words 512) (length times) (length out)
        → accepted (filling (filled_of (frames_in (track_of words)) times out) (length times ∷ unsettled_of (frames_in (track_of words)) times ∷ [])) ≡ lax_track_values_at words times out filled
    unfolding filled_in track_from track_in
    values-is e = let b = batch.accepted (track_of words) times out (fill-by (track_of words) within times out done e) in filled-by _ _ b.0 b.1

  -- a change of mode, by its outcome
  module _ (m : List ℕ) (l : Loop) (known : loop_from (loop_at m 0) ≡ Some l) where
    looped_by_lem : (o : Result ⊤ Refusal) → o ≡ looping_outcome l (base_of (track_of words)) → looped_by words m (outcome_of (changed_by (track_of words) (Ok (with_mode (track_of words) l)) o)) ≡ lax_track_looping words m
    unfolding lax_track_looping
    looped_by_lem o e = ap (λ (a : Result Track (Rejected Track)). looped_by words m (outcome_of a)) (looping-by (track_of words) within l o e) ∙ sym (rw known (went words (looped words m (Some l))))

    pub looping-not : (r : Refusal) → Err r ≡ looping_outcome l (base_of (track_of words)) → refused words r ≡ lax_track_looping words m
    looping-not r e = looped_by_lem (Err r) e

    pub looping-is : done ≡ looping_outcome l (base_of (track_of words)) → accepted (loop_into words m) ≡ lax_track_looping words m
    looping-is e = looped_by_lem done e

pub looping-unknown : (words m : List ℕ) → loop_from (loop_at m 0) ≡ None → answered 100 words ≡ lax_track_looping words m
unfolding lax_track_looping
looping-unknown words m h = rw h (go (known_track (track_in words)))
  where
    go : (k : Bool) → answered 100 words ≡ cond k (answered 100 words) (answered 100 words)
    go true = refl
    go false = refl

-- a push
pub push-unknown : (words row : List ℕ) → frame_read (frame_at row 0) ≡ None → answered 100 words ≡ lax_track_push words row
unfolding lax_track_push
push-unknown words row h = rw h (go (known_track (track_in words)))
  where
    go : (k : Bool) → answered 100 words ≡ cond k (answered 100 words) (answered 100 words)
    go true = refl
    go false = refl

module _ (words row : List ℕ) (k : Keyframe) (known : frame_read (frame_at row 0) ≡ Some k) where
  pub push-stopped : (f : Fault) → fault_number f ≡ check_of words → faulted words f ≡ lax_track_push words row
  unfolding lax_track_push push_of
  push-stopped f e = rw known (stopped words f e words (pushed words row (Some k)) (λ t h. rw h refl))

  -- the frame with its time as it is stored
  at-time : (stored_of k).time ≡ float_at (stored_row row) 0
  unfolding frame_read frame_from frame_at
  at-time = go (is_kind (word_at row 2)) known
    where
      go : (b : Bool) → cond b (Some (frame_from (frame_at row 0))) None ≡ Some k → (stored_of k).time ≡ float_at (stored_row row) 0
      go true e =
          let s : frame_from (frame_at row 0) ≡ k = cc in
          rw (← s) (sym (of-picked f32 (eq (float_at row 0) zero_f) 0 (word_at row 0) _ _ refl refl))
      go false e = let z : ◌≡◌ {A = ℕ} 0 1 = cc in absurd (omega (arith, z))

  module _ (fine : check_of words ≡ 0) where
    went-push : lax_track_push words row ≡ pushed_by words row (outcome_of (push_of (track_of words) k))
    unfolding lax_track_push
    went-push = rw known (went words fine words (pushed words row (Some k)))

    -- by its outcome, with the time as it is stored
    module _ (time : Float) (at : time ≡ float_at (stored_row row) 0) where
      as-stored : (o : Result ⊤ Refusal) → o ≡ push_outcome k.easing (track_of words).looping (base_of (track_of words)) time k.value
          → o ≡ push_outcome k.easing (track_of words).looping (base_of (track_of words)) (stored_of k).time k.value
      as-stored o e = rw (at-time, ← at) e

      pub push-not : (r : Refusal) → Err r ≡ push_outcome k.easing (track_of words).looping (base_of (track_of words)) time k.value → refused words r ≡ lax_track_push words row
      push-not r e =
          ap (λ (a : Result Track (Rejected Track)). pushed_by words row (outcome_of a)) (push-by (track_of words) (within words fine) k (stored_of k) (base_of (track_of words)) refl refl (Err r) (as-stored (Err r) e))
          ∙ sym went-push

      module _ (taken : done ≡ push_outcome k.easing (track_of words).looping (base_of (track_of words)) time k.value) where
        room-is : outcome_of (push_of (track_of words) k) ≡ cond (has_room words (stored_row row)) done (Err TrackFull)
        unfolding takes_of
        room-is =
            let p = push-taken _ _ _ _ _ (as-stored done taken) in
            push-outcome words (stored_row row) fine k p.0 p.1 p.2 at-time

        -- what is left where there is room, and where there is none
        pub push-is : (b : Bool) → b ≡ has_room words (stored_row row) → (left : List ℕ) → left ≡ cond b (push_into words (stored_row row)) words → (o : Result ⊤ Refusal) → o ≡ room_outcome (not b)
            → answered (number_by o) left ≡ lax_track_push words row
        unfolding room_outcome
        push-is b r left l o e =
            let w : lax_track_push words row ≡ pushed_by words row (cond b done (Err TrackFull)) = rw r (went-push ∙ rw room-is refl) in
            rw (l, e) (go b ∙ sym w)
          where
            go : (b : Bool) → answered (number_by (room_outcome (not b))) (cond b (push_into words (stored_row row)) words) ≡ pushed_by words row (cond b done (Err TrackFull))
            go true = refl
            go false = refl
