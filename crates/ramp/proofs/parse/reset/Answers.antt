-- `reset` meets its contract: the library's reset made the ramp, or it breaks a limit. Assumes nothing.
use mathlib.Core.Path.{sym, ◌∙◌}
use Rattle.ramp.proofs.Resets.{breaks}
use Rattle.ramp.proofs.parse.reset.Goals as goal

pub returns-in-Err : goal.returns-in-Err
returns-in-Err c = λ h. absurd (breaks _ _ (sym c.reset.ensures ∙ c.in-Err.is) h)
