-- What the inner steps of a sample and of a push promise. They are the code's: document 01 has none of them.
use Rattle.std.specs.Prelude.{ℕ, ◌+◌, ◌-◌, List, ◌∷◌, ◌++◌, map, take, drop, Float}
use Rattle.std.specs.Float.Ieee.{lt, le}
use Rattle.frames.specs.declared.frame.Keyframe.{Keyframe}
use Rattle.frames.specs.Sampling.{leading, count_of}

-- the times of the frames
abbrev pub times_of : List Keyframe → List Float
times_of l = map (λ (k : Keyframe). k.time) l

-- how many times are at or before t: of the places from 0 to `last`, neither the first nor the last itself counts; on ascending times it is the interval of document 01
abbrev pub counted : List Float → Float → ℕ → ℕ
counted times t last = count_of (λ (x : Float). le x t) (drop 1 (take last times))

-- how many frames from the front are before a time
abbrev pub earlier_of : Float → List Keyframe → ℕ
earlier_of t l = leading (λ (k : Keyframe). lt k.time t) l

-- of n frames, those from p on one place up, k at p, and the places behind the frames kept
unfoldable pub insert_of : List Keyframe → ℕ → ℕ → Keyframe → List Keyframe
insert_of fs n p k = take p fs ++ k ∷ (take (n - p) (drop p fs) ++ drop (n + 1) fs)
