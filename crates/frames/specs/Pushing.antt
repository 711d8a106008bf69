-- Document 01, "The track": a frame pushed among others.
use Rattle.std.specs.Prelude.{ℕ, Result, Ok, Err, cond, List, [], ◌∷◌, ◌++◌, leb, length, take, drop}
use Rattle.std.specs.Float.Ieee.{lt, eq}
use Rattle.frames.specs.declared.frame.Keyframe.{Keyframe}
use Rattle.frames.specs.declared.frame.Put.{Put}

-- "Push at an equal time replaces"; at any other, k goes before the first frame with a later time
unfoldable pub pushed_of : Keyframe → List Keyframe → List Keyframe
pushed_of k [] = k ∷ []
pushed_of k (f ∷ fs) = cond (lt f.time k.time) (f ∷ pushed_of k fs) (cond (eq f.time k.time) (k ∷ fs) (k ∷ f ∷ fs))

-- "keep .. the places behind the frames"; an error, of what came, where the frames were 64 and none had the time
unfoldable pub put_of : List Keyframe → ℕ → Keyframe → Result Put Put
put_of fs n k =
    let l = pushed_of k (take n fs) in
    cond (leb (length l) 64)
    (Ok (record { frames = l ++ drop (length l) fs; count = length l }))
    (Err (record { frames = fs; count = n }))
