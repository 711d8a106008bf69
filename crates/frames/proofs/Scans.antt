-- A scan along the frames that keeps the last place with a time at or before t: at the end the next frame is the first that t does not pass. Assumes nothing.
use Prim.Native.Nat.{ℕ, ◌+◌, ◌-◌, ◌<◌, ◌≤◌}
use mathlib.Core.Path.{◌≡◌, refl, sym, ◌∙◌}
use mathlib.Core.Bool.{true, false, false≢true}
use mathlib.Core.List.{List}
use mathlib.Core.Logic.{◌⊎◌, inl, inr, ⊎_elim}
use native.Mathlib.Nat.{eq-or-lt_of_le}
use native.Mathlib.Omega.{arith}
use lib.ListN.{length, take, get_or}
use lib.Seq.{length-take-le, get_or-take}
use lib.Ieee.{Float, le}
use Rattle.math.specs.Range.{max_zero_of}
use Rattle.frames.specs.declared.frame.Keyframe.{Keyframe}
use Rattle.frames.specs.Limits.{frames_within, no_frame}
use Rattle.frames.specs.Sampling.{frames_up_to, cut_of, pick_of, sample_of}
use Rattle.frames.proofs.Picks.{passed-interval, real, started, picked}

-- low is the last of the first i places with a time at or before t; 0 where there is none
pub record Scanned (fs : List Keyframe) (t : Float) (low i : ℕ) : Type 0 where
  pub at : (low ≡ 0) ⊎ ((low < i) × (le (get_or fs low no_frame).time t ≡ true))
  pub past : (j : ℕ) → low < j → j < i → le (get_or fs j no_frame).time t ≡ false

module _ (fs : List Keyframe) (t : Float) where
  pub scan-none : Scanned fs t 0 0
  scan-none = record { at = inl refl; past = λ j a b. absurd (omega (arith, b)) }

  module _ (low i : ℕ) (s : Scanned fs t low i) where
    pub scan-yes : le (get_or fs i no_frame).time t ≡ true → Scanned fs t i (i + 1)
    scan-yes e = record { at = inr (omega arith, e); past = λ j a b. absurd (omega (arith, a, b)) }

    pub scan-no : le (get_or fs i no_frame).time t ≡ false → Scanned fs t low (i + 1)
    scan-no e =
        record {
          at = ⊎_elim (λ (z : low ≡ 0). inl z) (λ (h : (low < i) × (le (get_or fs low no_frame).time t ≡ true)). inr (omega (arith, h.0), h.1)) s.at;
          past = λ j a b. ⊎_elim (λ (z : j ≡ i). rw z e) (λ (h : j < i). s.past j a h) (eq-or-lt_of_le {n = j} {m = i} (omega (arith, b)));
        }

-- what is picked beside the place that was found is the sample
module _ (fs : List Keyframe) (n : ℕ) (some : 1 ≤ n) (fit : n ≤ length fs) (fine : frames_within (take n fs) ≡ true)
    (secs t : Float) (cut : t ≡ cut_of (max_zero_of secs) (get_or fs (n - 1) no_frame).time) (low : ℕ) (s : Scanned fs t low n) where
  module _ (a : le t (get_or fs 0 no_frame).time ≡ false) (z : le (get_or fs (n - 1) no_frame).time t ≡ false) where
    here : le (get_or fs low no_frame).time t ≡ true
    here =
        ⊎_elim (λ (e : low ≡ 0). rw e (started fs n some fit fine t (real fs n some fit fine secs t cut) a)) (λ (h : (low < n) × (le (get_or fs low no_frame).time t ≡ true)). h.1) s.at

    pub scan-inside : low < n - 1
    scan-inside = ⊎_elim (λ (e : low ≡ n - 1). absurd (false≢true (sym z ∙ rw e at here))) (λ (h : low < n - 1). h) (eq-or-lt_of_le most)
      where
        most : low ≤ n - 1
        most = ⊎_elim (λ (e : low ≡ 0). omega (arith, e)) (λ (h : (low < n) × (le (get_or fs low no_frame).time t ≡ true)). omega (arith, h.0)) s.at

    scan-passed : frames_up_to t (take n fs) ≡ low + 1
    scan-passed =
        let h = scan-inside in
        let j : low < n = omega (arith, h) in
        let k : low + 1 < n = omega (arith, h) in
        passed-interval (take n fs) t low fine (omega (arith, length-take-le n fs fit)) (rw (get_or-take n fs low no_frame j) here) (rw (get_or-take n fs (low + 1) no_frame k) (s.past (low + 1) (omega arith) k))

  pub scan-picked : pick_of (get_or fs 0 no_frame) (get_or fs (n - 1) no_frame) (get_or fs low no_frame) (get_or fs (low + 1) no_frame) t ≡ sample_of (take n fs) secs
  scan-picked = picked fs n some fit fine secs t cut low scan-passed
