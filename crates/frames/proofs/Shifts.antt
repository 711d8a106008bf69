-- Frames that move one place up, one after the other, to make room. Assumes nothing.
use Prim.Native.Nat.{ℕ, suc, ◌+◌, ◌-◌, ◌<◌, ◌≤◌}
use mathlib.Core.Path.{◌≡◌, sym, ◌∙◌}
use mathlib.Core.List.{List, ◌∷◌, ◌++◌, append_assoc}
use native.Mathlib.Numerals.{add-one}
use native.Mathlib.Omega.{arith}
use lib.ListN.{length, take, drop, get_or, set, get_or-append, take-append-drop}
use lib.Seq.{drop-cons, get_or-take, length-take-le, take-suc, set_at}
use Rattle.frames.specs.declared.frame.Keyframe.{Keyframe}
use Rattle.frames.specs.Limits.{no_frame}
use Rattle.frames.specs.Inner.{insert_of}

-- n frames of which those from j on have moved; place j still holds what it held
unfoldable pub opened : List Keyframe → ℕ → ℕ → List Keyframe
opened fs n j = take (j + 1) fs ++ (take (n - j) (drop j fs) ++ drop (n + 1) fs)

module _ (fs : List Keyframe) where
  set_front : (q : ℕ) (v : Keyframe) (r : List Keyframe) → q < length fs → set (take (q + 1) fs ++ r) q v ≡ take q fs ++ v ∷ r
  set_front q v r h =
      let l : length (take q fs) ≡ q = length-take-le q fs (omega arith) in
      rw (add-one, take-suc fs q no_frame h, append_assoc) (set_at (take q fs) (get_or fs q no_frame) r v q l)

  module _ (n : ℕ) (room : n < length fs) where
    pub open_none : fs ≡ opened fs n n
    unfolding opened
    open_none =
        let e : n - n ≡ 0 = omega arith in
        rw e (sym (take-append-drop (n + 1) fs))

    open-read : (i : ℕ) → i < n → get_or (opened fs n (i + 1)) i no_frame ≡ get_or fs i no_frame
    unfolding opened
    open-read i h =
        let l : length (take (i + 1 + 1) fs) ≡ i + 1 + 1 = length-take-le (i + 1 + 1) fs (omega arith) in
        let b : i < i + 1 + 1 = omega arith in
        get_or-append (take (i + 1 + 1) fs) _ no_frame i (omega arith) ∙ get_or-take (i + 1 + 1) fs i no_frame b

    open_more : (i : ℕ) → i < n → set (opened fs n (i + 1)) (i + 1) (get_or fs i no_frame) ≡ opened fs n i
    unfolding opened
    open_more i h =
        let l : i < length fs = omega arith in
        let e : n - i ≡ suc (n - suc i) = omega arith in
        set_front (i + 1) (get_or fs i no_frame) _ (omega arith) ∙ (rw (e, drop-cons fs i no_frame l, add-one i))

    pub open-put : (p : ℕ) (k : Keyframe) → p ≤ n → set (opened fs n p) p k ≡ insert_of fs n p k
    unfolding insert_of opened
    open-put p k h = set_front p k _ (omega arith)

    -- a turn of the loop that moves them
    pub open_step : (j : ℕ) (g : List Keyframe) → 0 < j → j ≤ n → g ≡ opened fs n j → set g j (get_or g (j - 1) no_frame) ≡ opened fs n (j - 1)
    open_step j g some h e =
        let b : j - 1 < n = omega arith in
        let d : j - 1 + 1 ≡ j = omega arith in
        rw (e, rw d at (open-read (j - 1) b)) (rw d at (open_more (j - 1) b))
