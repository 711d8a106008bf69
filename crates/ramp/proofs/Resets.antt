-- A reset that is refused hands back a tween that breaks a limit. Assumes nothing.
use Rattle.std.specs.Prelude.{Ok, Err, Result}
use Prim.Native.Nat.{ℕ}
use mathlib.Core.Path.{◌≡◌, refl, sym, ap, ◌∙◌}
use mathlib.Core.Bool.{Bool, true, false, false≢true}
use native.Mathlib.Omega.{arith}
use Rattle.refusal.specs.declared.Refusal.TheVariants.{RecordBreaksLimit}
use Rattle.refusal.specs.declared.rejected.Rejected.{Rejected}
use Rattle.refusal.specs.Refusing.{unless, rejected}
use Rattle.tween.specs.declared.record.Tween.{Tween}
use Rattle.tween.specs.Limits.{within_of}
use Rattle.tween.specs.Calls.{reset_of}

-- the tween that is handed back
abbrev left : Result Tween (Rejected Tween) → Tween
left (Ok u) = u
left (Err r) = r.value

by-test : (b : Bool) (t v : Tween) (r : Rejected Tween) → within_of t ≡ b → unless b (rejected t RecordBreaksLimit) (Ok v) ≡ Err r → within_of r.value ≡ true → ⊥
by-test true t v r w e h = let z : ◌≡◌ {A = ℕ} 0 1 = cc in omega arith
by-test false t v r w e h = false≢true (sym w ∙ ap (λ (a : Result Tween (Rejected Tween)). within_of (left a)) e ∙ h)

pub breaks : (t : Tween) (r : Rejected Tween) → reset_of t ≡ Err r → within_of r.value ≡ true → ⊥
unfolding reset_of
breaks t r e h = by-test (within_of t) t _ r refl e h
