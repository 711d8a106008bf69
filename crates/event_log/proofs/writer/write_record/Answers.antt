-- `write_record` meets its contract, refusal by refusal. Assumes nothing.
use Rattle.std.proofs.Common.{ℕ, ◌+◌, ◌-◌, refl, ap, ◌∙◌, arith}
use mathlib.Core.Bool.{not}
use Rattle.event_log.specs.Format.{record_of}
use Rattle.math.proofs.Choice.{fails, passes}
use Rattle.event_log.proofs.Heads.{head-whole}
use Rattle.event_log.proofs.Places.{pasted}
use Rattle.event_log.proofs.Refusals.{too_long, backward, beyond, unmarked, unknown, ragged, full, a-record}
use Rattle.event_log.proofs.Steps.{seen-long, seen-backward}
use Rattle.event_log.proofs.writer.write_record.Goals as goal

pub returns-then-step : goal.returns-then-step
returns-then-step c =
    let e = too_long c.args.buffer.now c.args.written c.args.event (seen-long _ c.args.event _ c.step-step.ensures c.if-step.true) in
    record { answer = rw e refl; bytes = rw e refl }

pub returns-then-is_nan-step : goal.returns-then-is_nan-step
returns-then-is_nan-step c =
    let e =
    backward c.args.buffer.now c.args.written c.args.event (seen-long _ c.args.event _ c.step-step.ensures c.if-step.false)
    (seen-backward _ _ c.args.event _ c.step-step.ensures c.is_nan.ensures c.if-is_nan-step.true)
    in
    record { answer = rw e refl; bytes = rw e refl }

pub returns-then-written-buffer : goal.returns-then-written-buffer
returns-then-written-buffer c =
    let e =
    beyond c.args.buffer.now c.args.written c.args.event (seen-long _ c.args.event _ c.step-step.ensures c.if-step.false)
    (seen-backward _ _ c.args.event _ c.step-step.ensures c.is_nan.ensures c.if-is_nan-step.false) (omega arith)
    in
    record { answer = rw e refl; bytes = rw e refl }

pub returns-then-not-has_mark : goal.returns-then-not-has_mark
returns-then-not-has_mark c =
    let e =
    unmarked c.args.buffer.now c.args.written c.args.event (seen-long _ c.args.event _ c.step-step.ensures c.if-step.false)
    (seen-backward _ _ c.args.event _ c.step-step.ensures c.is_nan.ensures c.if-is_nan-step.false) c.if-written-buffer.false
    (fails _ _ c.has_mark.ensures (ap not c.if-not-has_mark.true))
    in
    record { answer = rw e refl; bytes = rw e refl }

pub returns-then-not-has_version : goal.returns-then-not-has_version
returns-then-not-has_version c =
    let e =
    unknown c.args.buffer.now c.args.written c.args.event (seen-long _ c.args.event _ c.step-step.ensures c.if-step.false)
    (seen-backward _ _ c.args.event _ c.step-step.ensures c.is_nan.ensures c.if-is_nan-step.false) c.if-written-buffer.false
    (passes _ _ c.has_mark.ensures (ap not c.if-not-has_mark.false)) (fails _ _ c.has_version.ensures (ap not c.if-not-has_version.true))
    in
    record { answer = rw e refl; bytes = rw e refl }

pub overflow_sub-written : goal.overflow_sub-written
overflow_sub-written c = omega (arith, head-whole c.args.buffer.now c.args.written (passes _ _ c.has_version.ensures (ap not c.if-not-has_version.false)))

pub returns-then-written-ne0 : goal.returns-then-written-ne0
returns-then-written-ne0 c =
    let e =
    ragged c.args.buffer.now c.args.written c.args.event (seen-long _ c.args.event _ c.step-step.ensures c.if-step.false)
    (seen-backward _ _ c.args.event _ c.step-step.ensures c.is_nan.ensures c.if-is_nan-step.false) c.if-written-buffer.false
    (passes _ _ c.has_mark.ensures (ap not c.if-not-has_mark.false)) (passes _ _ c.has_version.ensures (ap not c.if-not-has_version.false)) c.if-written-ne0.true
    in
    record { answer = rw e refl; bytes = rw e refl }

pub returns-then-buffer-written-lt8 : goal.returns-then-buffer-written-lt8
returns-then-buffer-written-lt8 c =
    let e =
    full c.args.buffer.now c.args.written c.args.event (seen-long _ c.args.event _ c.step-step.ensures c.if-step.false)
    (seen-backward _ _ c.args.event _ c.step-step.ensures c.is_nan.ensures c.if-is_nan-step.false) c.if-written-buffer.false
    (passes _ _ c.has_mark.ensures (ap not c.if-not-has_mark.false)) (passes _ _ c.has_version.ensures (ap not c.if-not-has_version.false)) c.if-written-ne0.false (omega arith)
    in
    record { answer = rw e refl; bytes = rw e refl }

pub returns : goal.returns
returns c =
    let e =
    a-record c.args.buffer.now c.args.written c.args.event (seen-long _ c.args.event _ c.step-step.ensures c.if-step.false)
    (seen-backward _ _ c.args.event _ c.step-step.ensures c.is_nan.ensures c.if-is_nan-step.false) c.if-written-buffer.false
    (passes _ _ c.has_mark.ensures (ap not c.if-not-has_mark.false)) (passes _ _ c.has_version.ensures (ap not c.if-not-has_version.false)) c.if-written-ne0.false (omega arith)
    in
    let f = c.record-next.ensures ∙ ap (λ (n : ℕ). record_of n c.args.event) c.number_behind.ensures in
    record { answer = rw e refl; bytes = rw e (pasted c.args.buffer.now c.args.written (c.args.written + 8 - c.args.written) 8 _ _ (omega arith) (c.copy_from_slice.ensures.after ∙ f)) }
