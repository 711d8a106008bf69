-- `skim_step` meets its contract, by what `glide` ensures. Assumes nothing.
use Rattle.std.proofs.Common.{subst}
use Rattle.tween.specs.Inner.{Glides}
use Rattle.reader.proofs.Skimming.{skims-step}
use Rattle.reader.proofs.skim.skim_step.Goals as goal

pub returns : goal.returns
returns c = rw c.in-Step.is (skims-step _ _ _ _ _ (subst (Glides _ _) c.in_ok-glided.was c.glide.ensures))
