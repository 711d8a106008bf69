-- What a step of a run says of the tween behind it. Assumes nothing.
use Rattle.std.specs.Prelude.{Err, Ok, Result, Some}
use Prim.Native.Nat.{ℕ, ◌≤◌, ◌<◌}
use mathlib.Core.Path.{◌≡◌, refl, sym, ap, ◌∙◌, subst, subst⁻¹}
use mathlib.Core.Bool.{Bool, true, false, ◌&&◌, and_comm}
use borrow.Author.Tests.{lt-leb}
use lib.Dec.{le→leb}
use lib.Ieee.{Float}
use lib.Ieee.Bits.{is_true}
use Rattle.bezier.specs.declared.types.Found.{Found}
use Rattle.refusal.specs.declared.Refusal.TheVariants.{RecordBreaksLimit}
use Rattle.tween.specs.declared.record.Tween.{Tween}
use Rattle.tween.specs.declared.answers.Updated.{Updated}
use Rattle.tween.specs.declared.update.Glided.{Glided}
use Rattle.tween.specs.Limits.{settings_within, clock_within, within_of}
use Rattle.tween.specs.Calls.{value_of}
use Rattle.tween.specs.Update.{update_of, updated}
use Rattle.tween.specs.Inner.{Glides, placed}
use Rattle.tween.proofs.Glides.{goes_to}
use Rattle.tween.proofs.KeptByUpdate.{update-within}
use Rattle.steps.specs.declared.take.Taken.{Taken}
use Rattle.steps.specs.Course.{valued, taken, step_of}
use Rattle.refusal.specs.declared.Refusal.{Refusal}
use Rattle.refusal.specs.declared.rejected.Rejected.{Rejected}

refuses : (u : Tween) → within_of u ≡ false → value_of u ≡ Err RecordBreaksLimit
unfolding value_of
refuses u h = rw h

-- a is the answer of `step_on`
module _ (t u : Tween) (x : Float) (k : ℕ) (r : Bool) (a : Result Updated (Rejected Tween)) (answers : a ≡ update_of t x) (ran : a ≡ updated u k r) where
  pub stays : u.loop_count ≤ 16777216 → within_of u ≡ true
  stays h = is_true (within_of u) (update-within t u x k r (sym answers ∙ ran) (le→leb u.loop_count 16777216 h))

  -- a loop_count that has just passed its limit
  no_value : 16777216 < u.loop_count → value_of u ≡ Err RecordBreaksLimit
  unfolding within_of
  no_value h = refuses u (rw (lt-leb u.loop_count 16777216 h) (and_comm (settings_within u && clock_within u) false))

  pub passed-limit : 16777216 < u.loop_count → Err RecordBreaksLimit ≡ step_of t x
  unfolding step_of
  passed-limit h = sym (ap taken (sym answers ∙ ran) ∙ (rw (no_value h)))

-- a step that is taken leaves a tween within its limits
abbrev Fine : Result Taken Refusal → Type 0
Fine (Ok o) = within_of o.tween ≡ true
Fine (Err r) = Unit {0}

fine : (u : Tween) (k : ℕ) → Fine (valued u k (value_of u))
fine u k = go (within_of u) refl
  where
    any : (a : Result Found Refusal) → within_of u ≡ true → Fine (valued u k a)
    any (Ok f) h = h
    any (Err r) h = tt

    go : (b : Bool) → within_of u ≡ b → Fine (valued u k (value_of u))
    go true h = any (value_of u) h
    go false h = subst⁻¹ (λ (a : Result Found Refusal). Fine (valued u k a)) (refuses u h) tt

step-fine : (t : Tween) (x : Float) → Fine (step_of t x)
unfolding step_of
step-fine t x = go (update_of t x)
  where
    go : (a : Result Updated (Rejected Tween)) → Fine (taken a)
    go (Ok o) = fine o.tween o.folds
    go (Err o) = tt

pub took-within : (t u : Tween) (x : Float) (f : Found) (k : ℕ) → step_of t x ≡ Ok (record { tween = u; found = f; folds = k }) → within_of u ≡ true
took-within t u x f k e = subst Fine e (step-fine t x)

module _ (t : Tween) (x : Float) (g : Glided) (h : Glides t x (Some g)) where
  pub glide-took : (f : Found) → value_of (placed t g.waited g.folding) ≡ Ok f → step_of t x ≡ Ok (record { tween = placed t g.waited g.folding; found = f; folds = g.folding.folds })
  unfolding step_of
  glide-took f e = rw (goes_to t x g h, e) refl
