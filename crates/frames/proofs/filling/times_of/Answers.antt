-- `times_of` meets its contract. The invariant: the first i places hold their frames' times. Assumes nothing.
use mathlib.Core.Path.{◌≡◌}
use native.Mathlib.Omega.{arith}
use lib.ListN.{length}
use Rattle.frames.specs.declared.frame.Keyframe.{Keyframe}
use Rattle.frames.specs.Limits.{no_frame}
use Rattle.frames.proofs.Fills.{fill_none, fill_more, fill-front}
use Rattle.frames.proofs.filling.times_of.Goals as goal

pub loop-i-init : goal.loop-i-init
loop-i-init c = let t = c.args.frames.now in let l : length t ≡ 64 = c.told-frames in
    (omega arith, fill_none (λ (k : Keyframe). k.time) no_frame t _ (omega arith))

pub loop-i-preserved : goal.loop-i-preserved
loop-i-preserved c = let t = c.args.frames.now in let l : length t ≡ 64 = c.told-frames in
    (omega arith, rw c.loop-i.invariant.1 (fill_more (λ (k : Keyframe). k.time) no_frame t _ (omega arith) c.loop-i.i (omega arith)))

pub returns : goal.returns
returns c = let t = c.args.frames.now in let l : length t ≡ 64 = c.told-frames in
    let e : c.loop-i.i ≡ c.args.n = omega arith in
    rw (c.loop-i.invariant.1, e) (fill-front (λ (k : Keyframe). k.time) no_frame t _ (omega arith) c.args.n (omega arith))
