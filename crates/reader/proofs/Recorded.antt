-- What is read of a record that the writer wrote. Assumes nothing.
use Rattle.std.proofs.Common.{◌≡◌, ℕ, ◌<◌, Bool, true, false, T, sym, refl, ap, ◌∙◌}
use mathlib.Core.Bool.{false≢true}
use lib.Ieee.{Float, nan, inf, fin, binary32, fits, lt, of_bits, to_bits}
use lib.Ieee.Bits.{to_bits-lt}
use Rattle.math.specs.Bits.{bits_of}
use Rattle.math.specs.Rounded.{f32, zero_f, top_f}
use Rattle.math.specs.Range.{max_zero_of}
use Rattle.math.proofs.Bytes.{low-back}
use Rattle.math.proofs.Choice.{by-test}
use Rattle.math.proofs.Patterns.{float_back}
use Rattle.tween.specs.declared.record.Tween.{Tween}
use Rattle.tween.specs.Update.{update_of}
use Rattle.event_log.specs.declared.event.Event.{Event}
use Rattle.event_log.specs.declared.event.Event.TheVariants.{Step, Pause, Resume, Reset}
use Rattle.event_log.specs.Format.{step_bits, record_of}
use Rattle.event_log.specs.Writing.{number_at, is_long}
use Rattle.reader.specs.declared.hear.Replay.{Replay}
use Rattle.reader.specs.Records.{step_in, is_step, is_wrong, event_in}
use Rattle.reader.specs.Hearing.{gap_of, by_update, played_of, further, heard_of}
use Rattle.reader.specs.Promises.{is_f32}
use Rattle.reader.proofs.Heard.{hears-played}

from_zero : (x : Float) → T (fits binary32 x) → T (fits binary32 (max_zero_of x))
unfolding fits of_bits
from_zero x h = by-test (λ y. T (fits binary32 y)) (lt zero_f x) x zero_f (λ _. h) (λ _. tt)

-- the step's bits, as written, are the step's, -0 as +0
read_step : (x : Float) → T (fits binary32 x) → f32 (bits_of (max_zero_of x)) ≡ max_zero_of x
read_step x h = float_back (max_zero_of x) (from_zero x h)

few_bits : (x : Float) → T (fits binary32 x) → bits_of (max_zero_of x) < 4294967296
few_bits x h = to_bits-lt binary32 (max_zero_of x) (from_zero x h)

above_step : (x : Float) → lt zero_f x ≡ true → lt top_f x ≡ false → is_step x ≡ true
unfolding lt of_bits
above_step nan h k = absurd (false≢true h)
above_step (inf true) h k = absurd (false≢true h)
above_step (inf false) h k = absurd (false≢true (sym k))
above_step (fin true m e) h k = absurd (false≢true h)
above_step (fin false m e) h k = refl

zero-step : is_step zero_f ≡ true
unfolding of_bits
zero-step = refl

-- what is written is a step
written_step : (x : Float) → lt top_f x ≡ false → is_step (max_zero_of x) ≡ true
written_step x k = by-test (λ y. is_step y ≡ true) (lt zero_f x) x zero_f (λ h. above_step x h k) (λ _. zero-step)

pub below_top : lt top_f zero_f ≡ false
unfolding lt of_bits
below_top = refl

zero-stays : max_zero_of zero_f ≡ zero_f
unfolding lt of_bits
zero-stays = refl

-- an update looks at its step in two places
update-by : (t : Tween) (x y : Float) → lt top_f x ≡ lt top_f y → max_zero_of x ≡ max_zero_of y → update_of t x ≡ update_of t y
unfolding update_of
update-by t x y p q = rw (p, q) refl

-- one by what is written is one by what was to be written
same_update : (t : Tween) (x : Float) → lt top_f x ≡ false → update_of t (max_zero_of x) ≡ update_of t x
same_update t x k = go (lt zero_f x) refl
  where
    go : (b : Bool) → lt zero_f x ≡ b → update_of t (max_zero_of x) ≡ update_of t x
    go true h = ap (update_of t) (rw h refl)
    go false h =
        let z : max_zero_of x ≡ zero_f = rw h refl in
        ap (update_of t) z ∙ update-by t zero_f x (below_top ∙ sym k) (zero-stays ∙ sym z)

module _ (n : ℕ) (below : n < 65536) where
  recorded-number : (e : Event) → number_at (record_of n e) 0 ≡ n
  recorded-number e = low-back 2 n below

  recorded-step : (x : Float) → T (fits binary32 x) → step_in (record_of n (Step x)) ≡ max_zero_of x
  recorded-step x h = ap f32 (low-back 4 (step_bits (Step x)) (few_bits x h)) ∙ read_step x h

  recorded-right : (e : Event) → T (is_f32 e) → is_long e ≡ false → is_wrong (record_of n e) ≡ false
  unfolding is_wrong to_bits of_bits lt
  recorded-right (Step x) h k = rw (recorded-step x h, written_step x k) refl
  recorded-right Pause h k = refl
  recorded-right Resume h k = refl
  recorded-right Reset h k = refl

  recorded-event : (t : Tween) (e : Event) → T (is_f32 e) → is_long e ≡ false → played_of t (event_in (record_of n e)) ≡ played_of t e
  unfolding event_in played_of
  recorded-event t (Step x) h k = ap (λ (y : Float). by_update (update_of t y)) (recorded-step x h) ∙ ap by_update (same_update t x k)
  recorded-event t Pause h k = refl
  recorded-event t Resume h k = refl
  recorded-event t Reset h k = refl

  -- a record that the writer wrote, behind a gap that is no repeat: the call that it tells of is made
  pub hears-recorded : (s : Replay) (e : Event) → T (is_f32 e) → is_long e ≡ false → (gap_of s.last n ≡ 65535 → ⊥) → heard_of s (record_of n e) ≡ further (played_of s.tween e) s n (gap_of s.last n)
  hears-recorded s e h k new =
      hears-played s (record_of n e) (recorded-right e h k) n (gap_of s.last n) (sym (recorded-number e)) refl new (event_in (record_of n e)) (played_of s.tween e) refl (sym (recorded-event s.tween e h k))
