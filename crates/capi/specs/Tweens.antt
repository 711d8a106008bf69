-- The calls of a tween: the tween read from its 18 words, the library's definition, and what is left in the lent words and places.
use Rattle.std.specs.Prelude.{ℕ, Bool, cond, not, ◌&&◌, List, [], ◌∷◌, ◌++◌, eqb, Float, Err, None, Ok, Option, Result, Some}
use Rattle.math.specs.Bits.{bits_of}
use Rattle.tween.specs.declared.record.Tween.{Tween}
use Rattle.tween.specs.declared.answers.Updated.{Updated}
use Rattle.tween.specs.Parts.{new_of}
use Rattle.tween.specs.Calls.{progress_of, eased_progress_of, value_of, snapshot_of, playback_duration_of, reset_of, seek_of, reverse_of, pause_of, resume_of}
use Rattle.tween.specs.Update.{update_of}
use Rattle.steps.specs.declared.run.Run.{Run}
use Rattle.steps.specs.Course.{Course, run_of, answer_of, outcome_number, over}
use Rattle.words.specs.declared.tweens.LaxTween.{LaxTween}
use Rattle.words.specs.Modes.{state_word, flag_word}
use Rattle.words.specs.Tweens.{tween_from, tween_words}
use Rattle.words.specs.Lent.{tween_in, tween_into}
use Rattle.capi.specs.Answers.{Answer, answering, accepted, refused, unknown, found_in, seconds_in, progress_in}
use Rattle.capi.specs.Easings.{easing_list}
use Rattle.refusal.specs.declared.Refusal.{Refusal}
use Rattle.refusal.specs.declared.rejected.Rejected.{Rejected}
use Rattle.tween.specs.declared.record.TweenSnapshot.{TweenSnapshot}

abbrev pub by_tween : {A : Type 0} → Option Tween → A → (Tween → Answer A) → Answer A
by_tween (Some t) came answer = answer t
by_tween None came answer = unknown came

-- the answer for the tween that is read, or the one for words that are none
abbrev pub on_tween : {A : Type 0} → List ℕ → A → (Tween → Answer A) → Answer A
on_tween ws came answer = by_tween (tween_from (tween_in ws)) came answer

-- a tween as 18 words
abbrev pub tween_list : LaxTween → List ℕ
tween_list w =
    bits_of w.start ∷ bits_of w.end ∷ bits_of w.duration
    ∷ (easing_list w.easing
    ++ (bits_of w.delay ∷ bits_of w.time_scale
    ∷ w.looping.mode ∷ w.looping.passes
    ∷ bits_of w.elapsed ∷ bits_of w.delay_elapsed ∷ w.state ∷ w.loop_count ∷ w.ping_pong_reverse ∷ []))

unfoldable pub lax_tween_new : Float → Float → List ℕ
lax_tween_new start end = tween_list (tween_words (new_of start end))

unfoldable pub lax_tween_value : List ℕ → List ℕ → Answer (List ℕ)
lax_tween_value ws out = on_tween ws out (λ t. found_in out (value_of t))

unfoldable pub lax_tween_progress : List ℕ → Float → Answer Float
lax_tween_progress ws out = on_tween ws out (λ t. progress_in out (progress_of t))

unfoldable pub lax_tween_eased_progress : List ℕ → List ℕ → Answer (List ℕ)
lax_tween_eased_progress ws out = on_tween ws out (λ t. found_in out (eased_progress_of t))

-- five words: elapsed, delay_elapsed, state, loop_count, ping_pong_reverse
unfoldable pub snapshot_in : List ℕ → Result TweenSnapshot Refusal → Answer (List ℕ)
snapshot_in out (Ok s) =
    accepted
    (bits_of s.elapsed ∷ bits_of s.delay_elapsed ∷ state_word s.state ∷ s.loop_count ∷ flag_word s.ping_pong_reverse ∷ [])
snapshot_in out (Err r) = refused out r

unfoldable pub lax_tween_snapshot : List ℕ → List ℕ → Answer (List ℕ)
lax_tween_snapshot ws out = on_tween ws out (λ t. snapshot_in out (snapshot_of t))

unfoldable pub lax_tween_playback_duration : List ℕ → Float → Answer Float
lax_tween_playback_duration ws out = on_tween ws out (λ t. seconds_in out (playback_duration_of t))

unfoldable pub changed_in : List ℕ → Result Tween (Rejected Tween) → Answer (List ℕ)
changed_in ws (Ok u) = accepted (tween_into ws u)
changed_in ws (Err o) = refused ws o.refusal

unfoldable pub lax_tween_reset : List ℕ → Answer (List ℕ)
lax_tween_reset ws = on_tween ws ws (λ t. changed_in ws (reset_of t))

unfoldable pub lax_tween_seek : List ℕ → Float → Answer (List ℕ)
lax_tween_seek ws p = on_tween ws ws (λ t. changed_in ws (seek_of t p))

unfoldable pub lax_tween_reverse : List ℕ → Answer (List ℕ)
lax_tween_reverse ws = on_tween ws ws (λ t. changed_in ws (reverse_of t))

unfoldable pub lax_tween_pause : List ℕ → Answer (List ℕ)
lax_tween_pause ws = on_tween ws ws (λ t. changed_in ws (pause_of t))

unfoldable pub lax_tween_resume : List ℕ → Answer (List ℕ)
lax_tween_resume ws = on_tween ws ws (λ t. changed_in ws (resume_of t))

-- the tween's words, and two more: the folds, and whether it is not completed
pub record Stepping : Type 0 where
  pub words : List ℕ
  pub out : List ℕ

unfoldable pub updated_in : Stepping → Result Updated (Rejected Tween) → Answer Stepping
updated_in came (Ok o) = accepted (record { words = tween_into came.words o.tween; out = o.folds ∷ flag_word o.running ∷ [] })
updated_in came (Err o) = refused came o.refusal

unfoldable pub lax_tween_update : List ℕ → Float → List ℕ → Answer Stepping
lax_tween_update ws step out =
    let came : Stepping = record { words = ws; out = out } in
    on_tween ws came (λ t. updated_in came (update_of t step))

-- out: how many steps were taken, and how many of the values are not settled
pub record Running : Type 0 where
  pub words : List ℕ
  pub values : List Float
  pub folds : List ℕ
  pub out : List ℕ

-- refused before anything was done: nothing is left
abbrev pub idle : ℕ → ℕ → Bool
idle done number = eqb done 0 && not (eqb number 0)

-- a run that stops at a step leaves what the steps before it made
unfoldable pub ran_words : List ℕ → Run → List ℕ
ran_words ws run = cond (eqb run.done 0) ws (tween_into ws run.tween)

unfoldable pub ran_out : List ℕ → Run → List ℕ
ran_out out run = cond (idle run.done (outcome_number run.outcome)) out (run.done ∷ run.unsettled ∷ [])

unfoldable pub ran_in : Running → Course → Answer Running
ran_in came course =
    let run = answer_of course in
    answering (outcome_number run.outcome)
    (record {
      words = ran_words came.words run;
      values = over course.values came.values;
      folds = over course.folds came.folds;
      out = ran_out came.out run;
    })

unfoldable pub lax_tween_run : List ℕ → List Float → List Float → List ℕ → List ℕ → Answer Running
lax_tween_run ws steps values folds out =
    let came : Running = record { words = ws; values = values; folds = folds; out = out } in
    on_tween ws came (λ t. ran_in came (run_of t steps values folds))
