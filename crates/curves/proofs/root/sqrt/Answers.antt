-- `sqrt` meets its contract: what it returns is a square root of x, and there is only one. That x has a pattern rests on its being a value of binary32. Assumes nothing.
use Rattle.std.proofs.Common.{◌≡◌, ℕ, suc, ◌-◌, ◌/◌, ◌%◌, sym, refl, ◌∙◌, subst, true≢false, arith}
use denote.Floats.{passes}
use mathlib.Core.Bool.{false≢true}
use lib.Ieee.{Float, binary32, to_bits}
use Rattle.curves.specs.Root.{Root, sqrt_of}
use Rattle.curves.proofs.Patterns.{Read, pattern-read}
use Rattle.curves.proofs.Roots.{sqrt-only}
use Rattle.curves.proofs.root.sqrt.Goals as goal
use Rattle.curves.proofs.root.sqrt.Goals.{Else-field-eq0, Then-field-eq0, Then-x}

-- the exponent's field and the digits of x
abbrev field : Float → ℕ
field x = to_bits binary32 x / 0x80_0000

abbrev digits : Float → ℕ
digits x = to_bits binary32 x % 0x80_0000

-- what they say of an x above 0; then where the field is 0, and where it is not
fields : (c : Then-x) → Read (field c.args.x) (digits c.args.x) c.args.x
fields c = pattern-read c.args.x (passes _ c.well_formed.0.1) c.if-x.true c.requires.1

bare : (c : Then-field-eq0) → Read 0 (digits c.args.x) c.args.x
bare c =
    let x = c.args.x in subst (λ (E : ℕ). Read E (digits x) x) c.if-field-eq0.true (fields c.before)

led : (c : Else-field-eq0) → Read (suc (field c.args.x - 1)) (digits c.args.x) c.args.x
led c =
    let x = c.args.x in let e : field x ≡ suc (field x - 1) = omega (arith, c.if-field-eq0.false) in
    subst (λ (E : ℕ). Read E (digits x) x) e (fields c.before)

only : (c : Then-x) (r : Float) → Root c.args.x r → r ≡ sqrt_of c.args.x
only c r a =
    sqrt-only c.args.x r (passes _ c.well_formed.0.1) c.requires
    record { of_zero = λ z. absurd (false≢true (sym z ∙ c.if-x.true)); above_zero = λ _. a }

pub root_of-requires : goal.root_of-requires
root_of-requires c = ((bare (goal.at.root_of-requires c).Then-field-eq0).0, omega arith, omega arith)

pub returns-then-field-eq0 : goal.returns-then-field-eq0
returns-then-field-eq0 c = only (goal.at.returns-then-field-eq0 c).Then-x c.root_of.result (c.root_of.ensures _ (bare (goal.at.returns-then-field-eq0 c).Then-field-eq0).1)

pub root_of-requires-then-x : goal.root_of-requires-then-x
root_of-requires-then-x c = (omega arith, omega arith, (led (goal.at.root_of-requires-then-x c).Else-field-eq0).0)

pub returns-then-x : goal.returns-then-x
returns-then-x c = only (goal.at.returns-then-x c).Then-x c.root_of-then-x.result (c.root_of-then-x.ensures _ (led (goal.at.returns-then-x c).Else-field-eq0).1)

pub returns : goal.returns
returns c = sqrt-only c.args.x c.args.x (passes _ c.well_formed.0.1) c.requires
    record { of_zero = λ _. refl; above_zero = λ h. absurd (true≢false (sym h ∙ c.if-x.false)) }
