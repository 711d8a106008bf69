-- Tests: what holds of both values of a test holds of what it picks, and a function of both; a conjunction that passes, one that fails, and a weaker one; a test turned round. Assumes nothing.
use Rattle.std.proofs.Common.{◌≡◌, Bool, true, false, cond, not, ◌&&◌, T, ◌⊎◌, sym, refl, ◌∙◌, inl, inr}
use mathlib.Core.Bool.{false≢true}
use borrow.Author.Tests.{not-true, not-false}

pub by-test : {A : Type 0} (C : A → Type 0) (b : Bool) (x y : A) → (b ≡ true → C x) → (b ≡ false → C y) → C (cond b x y)
by-test C true x y h k = h refl
by-test C false x y h k = k refl

-- a function of what a test picks
pub of-picked : {A B : Type 0} (f : A → B) (b : Bool) (x y : A) (v w : B) → f x ≡ v → f y ≡ w → f (cond b x y) ≡ cond b v w
of-picked f true x y v w p q = p
of-picked f false x y v w p q = q

pub and_both : (a b : Bool) → a && b ≡ true → (a ≡ true) × (b ≡ true)
and_both true b h = (refl, h)
and_both false b h = absurd (false≢true h)

pub and-fails : (a b : Bool) → a && b ≡ false → (a ≡ false) ⊎ (b ≡ false)
and-fails true b h = inr h
and-fails false b h = inl refl

-- a conjunction passes still where its last part gives way to a weaker one
pub and-weaker : (a b c : Bool) → (T b → T c) → T (a && b) → T (a && c)
and-weaker true b c h k = h k
and-weaker false b c h k = k

-- a test `!b` of a call's answer b, which is w
pub fails : (b w : Bool) → b ≡ w → not b ≡ true → w ≡ false
fails b w e h = sym e ∙ not-true b h

pub passes : (b w : Bool) → b ≡ w → not b ≡ false → w ≡ true
passes b w e h = sym e ∙ not-false b h
