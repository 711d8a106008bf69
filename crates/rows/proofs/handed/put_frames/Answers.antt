-- `put_frames` meets its contract. The invariant: the frames so far are written. Assumes nothing.
use mathlib.Core.Path.{refl, ap, ◌∙◌}
use lib.ListN.{take}
use lib.Seq.{take_all}
use Rattle.rows.specs.Words.{put_all}
use Rattle.rows.specs.Written.{frame_list, frames_list}
use Rattle.rows.proofs.Written.{frames-snoc, put-more}
use Rattle.rows.proofs.handed.put_frames.Goals as goal

pub loop-k-init : goal.loop-k-init
unfolding put_all frames_list
loop-k-init c = refl

pub loop-k-preserved : goal.loop-k-preserved
loop-k-preserved c = rw (c.put_frame-p.ensures, c.loop-k.invariant) (put-more frames_list frame_list frames-snoc _ (take c.args.count c.args.frames) _ c.loop-k.k-index c.loop-k-test.true)

pub returns : goal.returns
returns c = c.loop-k.invariant ∙ ap (λ ks. put_all c.args.before (frames_list ks)) (take_all c.loop-k.k-index (take c.args.count c.args.frames) c.loop-k-test.false)
