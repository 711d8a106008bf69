-- What is put is what a call's definition has: the value of a result, in its place. Assumes nothing.
use Rattle.std.specs.Prelude.{Err, Ok, Result}
use Rattle.std.specs.Result.{IsOkAnd, MatchResult}
use Prim.Native.Nat.{ℕ}
use mathlib.Core.Path.{◌≡◌, refl, ap}
use lib.Ieee.{Float}
use Rattle.refusal.specs.declared.Refusal.{Refusal}
use Rattle.units.specs.declared.Progress.{Progress}
use Rattle.units.specs.declared.Seconds.{Seconds}
use Rattle.capi.specs.Answers.{given_in, accepted, progress_in, seconds_in}
use Rattle.capi.specs.Logs.{length_in}

pub length-given : (before : ℕ) (r : Result ℕ Refusal) → given_in before r ≡ length_in before r
unfolding given_in length_in
length-given before (Ok n) = refl
length-given before (Err e) = refl

pub given-progress : {Is : Progress → Float → Type 0} (out : Float) (r : Result Progress Refusal) (m : Result Float Refusal) → MatchResult r (λ p. IsOkAnd m (Is p)) (λ e. m ≡ Err e) → ((p : Progress) (x : Float) → Is p x → x ≡ p.0) → given_in out m ≡ progress_in out r
unfolding given_in progress_in
given-progress out (Ok p) (Ok x) h is = ap accepted (is p x h)
given-progress out (Ok p) (Err e) h is = absurd h
given-progress out (Err e) m h is = rw h refl

pub given-seconds : {Is : Seconds → Float → Type 0} (out : Float) (r : Result Seconds Refusal) (m : Result Float Refusal) → MatchResult r (λ s. IsOkAnd m (Is s)) (λ e. m ≡ Err e) → ((s : Seconds) (x : Float) → Is s x → x ≡ s.0) → given_in out m ≡ seconds_in out r
unfolding given_in seconds_in
given-seconds out (Ok s) (Ok x) h is = ap accepted (is s x h)
given-seconds out (Ok s) (Err e) h is = absurd h
given-seconds out (Err e) m h is = rw h refl
