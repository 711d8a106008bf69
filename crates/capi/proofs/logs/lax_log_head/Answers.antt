-- `lax_log_head` meets its contract, by what its callees ensure. Assumes nothing.
use mathlib.Core.Path.{ap, ◌∙◌}
use Rattle.capi.specs.Logs.{length_in, lax_log_head}
use Rattle.capi.proofs.Given.{length-given}
use Rattle.capi.proofs.logs.lax_log_head.Goals as goal

pub returns : goal.returns
unfolding lax_log_head
returns c = record { answer = c.put.ensures ∙ length-given _ _ ∙ ap (length_in _) c.write_head.ensures.answer; bytes = c.write_head.ensures.bytes }
