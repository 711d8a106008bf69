-- The cases of a batch, and what it promises at each index. Assumes nothing.
use Rattle.std.proofs.Common.{◌≡◌, ℕ, zero, suc, ◌+◌, ◌-◌, ◌<◌, ◌≤◌, Bool, true, false, cond, eqb, ltb, leb, List, [], ◌∷◌, ◌++◌, map, length, get_or, drop, refl, ap, ◌∙◌, arith, get_or-drop, get_or-append-add, leb-true}
use lib.ListN.{length-map, get_or-append}
use lib.Ieee.{Float, nan}
use Rattle.refusal.specs.declared.Refusal.{Refusal}
use Rattle.refusal.specs.declared.Refusal.TheVariants.{RecordBreaksLimit}
use Rattle.refusal.specs.Number.{number_of}
use Rattle.frames.specs.Sampling.{sample_of, filled_of, unsettled_of}
use Rattle.keyframe.specs.declared.types.Track.{Track}
use Rattle.keyframe.specs.Limits.{frames_in, within_of}
use Rattle.keyframe.specs.Batch.{batch_number, batch_out, batch_count, batch_unsettled, batch_answer, none_filled, BatchAt, BatchBehind, BatchRefused}

module _ (t : Track) (times out : List Float) where
  pub number-broken : within_of t ≡ false → number_of RecordBreaksLimit ≡ batch_number t times out
  unfolding batch_number
  number-broken w = rw w

  pub refused : (r : Refusal) → number_of r ≡ batch_number t times out → eqb (number_of r) 0 ≡ false → (none_filled r ≡ batch_answer t times out) × (out ≡ batch_out t times out)
  unfolding batch_count batch_out batch_unsettled
  refused r e z = (rw (← e, z), rw (← e, z))

  pub accepted : 0 ≡ batch_number t times out → (record { filled = length times; unsettled = unsettled_of (frames_in t) times; refusal = 0 } ≡ batch_answer t times out) × (filled_of (frames_in t) times out ≡ batch_out t times out)
  unfolding batch_count batch_out batch_unsettled
  accepted e = (rw (← e), rw (← e))

count_by : (a b c : Bool) (m n : ℕ) → leb m n ≡ c → cond (eqb (cond a (cond b (cond c 0 12) 10) 4) 0) m 0 ≤ n
count_by false b c m n e = omega arith
count_by true false c m n e = omega arith
count_by true true false m n e = omega arith
count_by true true true m n e = leb-true m n e

-- what is filled fits the output
pub count_fits : (t : Track) (times out : List Float) → batch_count t times out ≤ length out
unfolding batch_count batch_number
count_fits t times out = count_by (within_of t) (ltb 0 t.count) (leb (length times) (length out)) (length times) (length out) refl

map_at : (f : Float → Float) (l : List Float) (k : ℕ) → k < length l → get_or (map f l) k nan ≡ f (get_or l k nan)
map_at f [] k h = absurd (omega (arith, h))
map_at f (x ∷ l) zero h = refl
map_at f (x ∷ l) (suc k) h = map_at f l k (omega (arith, h))

pub batch-at : BatchAt
unfolding batch_out filled_of
batch-at t times out e k h =
    let f : Float → Float = λ s. (sample_of (frames_in t) s).value in
    let l : length (map f times) ≡ length times = length-map times f in
    rw e (get_or-append (map f times) _ nan k (omega arith) ∙ map_at f times k h)

behind-by : (t : Track) (times out : List Float) (b : Bool) (k : ℕ) → length times ≤ k → get_or (cond b (filled_of (frames_in t) times out) out) k nan ≡ get_or out k nan
unfolding filled_of
behind-by t times out false k h = refl
behind-by t times out true k h =
    let f : Float → Float = λ s. (sample_of (frames_in t) s).value in
    let n = length times in
    let l : length (map f times) ≡ n = length-map times f in
    let e : k ≡ length (map f times) + (k - n) = omega arith in
    let g : n + (k - n) ≡ k = omega arith in
    ap (λ (j : ℕ). get_or (map f times ++ drop n out) j nan) e
    ∙ (get_or-append-add (map f times) (drop n out) (k - n) nan ∙ (get_or-drop n out (k - n) nan ∙ ap (λ (j : ℕ). get_or out j nan) g))

pub batch-behind : BatchBehind
unfolding batch_out
batch-behind t times out k h = behind-by t times out (eqb (batch_number t times out) 0) k h

pub batch-refused : BatchRefused
unfolding batch_out batch_count batch_unsettled
batch-refused t times out e = (rw e, rw e, rw e)
