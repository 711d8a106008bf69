-- `skim` meets its contract, by what its callees ensure. Assumes nothing.
use Rattle.std.proofs.Common.{sym, ◌∙◌}
use borrow.Author.Tests.{not-false}
use Rattle.reader.proofs.Skimming.{skims}
use mathlib.Core.Path.{ap}
use mathlib.Core.Bool.{not}
use Rattle.reader.proofs.skim.skim.Goals as goal

pub event_in-requires : goal.event_in-requires
event_in-requires c = sym c.is_wrong.ensures ∙ c.if-is_wrong.false

pub skim_step-requires : goal.skim_step-requires
skim_step-requires c = c.requires (not-false _ (ap not c.if-not-sure.false))

pub returns : goal.returns
returns c = skims c.args.t c.args.last c.args.bytes _ _ _ c.skim_step.result (sym c.is_wrong.ensures ∙ c.if-is_wrong.false) c.number_in-number.ensures c.gap_before-gap.ensures c.if-gap.false c.event_in.ensures c.skim_step.ensures
