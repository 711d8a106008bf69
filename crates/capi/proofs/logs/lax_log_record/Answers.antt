-- `lax_log_record` meets its contract, by what its callees ensure. Assumes nothing.
use mathlib.Core.Path.{refl, sym, ap, ◌∙◌}
use Rattle.capi.specs.Logs.{length_in, lax_log_record, lax_log_buffer}
use Rattle.capi.proofs.Given.{length-given}
use Rattle.capi.proofs.logs.lax_log_record.Goals as goal

pub returns-in-Some : goal.returns-in-Some
unfolding lax_log_record lax_log_buffer
returns-in-Some c = record { answer = rw (sym c.event_in.ensures ∙ c.in-Some.is) (c.put.ensures ∙ length-given _ _ ∙ ap (length_in _) c.write_record.ensures.answer); bytes = rw (sym c.event_in.ensures ∙ c.in-Some.is) (c.write_record.ensures.bytes) }

pub returns-in-None : goal.returns-in-None
unfolding lax_log_record lax_log_buffer
returns-in-None c = record { answer = rw (sym c.event_in.ensures ∙ c.in-None.is) refl; bytes = rw (sym c.event_in.ensures ∙ c.in-None.is) refl }
