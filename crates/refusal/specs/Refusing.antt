-- Document 01, "Refusal numbers": how a definition shows the order of its refusals. It is read from above: a line for each, and behind the last what the call answers.
use Rattle.std.specs.Prelude.{Bool, cond, ⊤, Result, Ok, Err}
use Rattle.refusal.specs.declared.Refusal.{Refusal}
use Rattle.refusal.specs.declared.rejected.Rejected.{Rejected}

-- refused unless a test passes
abbrev pub unless : {A : Type 0} → Bool → A → A → A
unless ok answer next = cond ok next answer

-- refused where a fault is found
abbrev pub when : {A : Type 0} → Bool → A → A → A
when fault answer next = cond fault answer next

-- "on refusal the record comes back as it was": the record that came, and the refusal
abbrev pub rejected : {A R : Type 0} → R → Refusal → Result A (Rejected R)
rejected came refusal = Err (record { value = came; refusal = refusal })

-- not refused, with nothing to hand back
abbrev pub done : {E : Type 0} → Result ⊤ E
done = Ok tt

-- how a call ended, without what it hands back
abbrev pub outcome_of : {A R : Type 0} → Result A (Rejected R) → Result ⊤ Refusal
outcome_of (Ok a) = done
outcome_of (Err r) = Err r.refusal
