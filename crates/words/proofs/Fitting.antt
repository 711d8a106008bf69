-- The kinds that have a curve and no parameters fit a frame, whatever their other words. Assumes nothing.
use Rattle.std.specs.Prelude.{None, Some}
use Prim.Native.Nat.{ℕ, ◌≤◌}
use native.Mathlib.Nat.{le_trans}
use native.Mathlib.Omega.{arith}
use mathlib.Core.Path.{◌≡◌, refl, sym, ◌∙◌}
use mathlib.Core.Bool.{Bool, true, false, not, ◌&&◌, ◌||◌, cond, false≢true}
use lib.Dec.{lit≤}
use lib.ListN.{length}
use lib.Ieee.{of_bits, lt, le, eq}
use borrow.Author.Tests.{ltb-true, ltb-false, lt-ltb, le-ltb}
use Rattle.easing.specs.declared.kinds.Easing.{Easing}
use Rattle.easing.specs.Kinds.{all_named, supplied_of}
use Rattle.easing.specs.Params.{params, params_of, with_params, of_number, within_of}
use Rattle.easing.specs.Apply.{fits_record_of}
use Rattle.easing.proofs.Tags.{each_below}
use Rattle.words.specs.declared.kinds.LaxEasing.{LaxEasing}
use Rattle.words.specs.Kinds.{is_kind, easing_from}
use Rattle.words.specs.Tracks.{easing_in}
use Rattle.words.specs.Sampling.{plain_kind, easing_fits}

plain_known : (k : ℕ) → plain_kind k ≡ true → is_kind k ≡ true
plain_known k h = go (is_kind k) (λ e. beyond (le_trans (lit≤ tt) (ltb-false k (length all_named) e)))
  where
    beyond : 31 ≤ k → plain_kind k ≡ false
    beyond m = rw (le-ltb k 13 (omega arith), lt-ltb 18 k (omega arith), le-ltb k 25 (omega arith), lt-ltb 27 k (omega arith), le-ltb k 31 (omega arith))

    go : (b : Bool) → (b ≡ false → plain_kind k ≡ false) → b ≡ true
    go true f = refl
    go false f = absurd (false≢true (sym (f refl) ∙ h))

pub plain_fits : (w : LaxEasing) → plain_kind w.kind ≡ true → easing_fits w ≡ true
unfolding easing_fits easing_from with_params fits_record_of supplied_of params_of within_of le lt eq of_bits
plain_fits w h =
    let k = plain_known w.kind h in
    rw k (rw h at (each_below (length all_named) (λ i. not (plain_kind i) || fits_record_of (of_number i (params w.a w.b w.c w.d w.count))) refl w.kind (ltb-true w.kind (length all_named) k)))

-- an easing that is read
pub known-fits : (w : LaxEasing) (e : Easing) → easing_from w ≡ Some e → fits_record_of e ≡ easing_fits w
unfolding easing_fits easing_from
known-fits w e h = go (is_kind w.kind) _ h
  where
    go : (b : Bool) (x : Easing) → cond b (Some x) None ≡ Some e → fits_record_of e ≡ b && fits_record_of (easing_in (cond b (Some x) None))
    go true x h = let s : e ≡ x = cc in rw s
    go false x h = let z : ◌≡◌ {A = ℕ} 0 1 = cc in absurd (omega arith)

pub unknown-fits : (w : LaxEasing) → easing_from w ≡ None → false ≡ easing_fits w
unfolding easing_fits easing_from
unknown-fits w h = go (is_kind w.kind) _ h
  where
    go : (b : Bool) (x : Easing) → cond b (Some x) None ≡ None → false ≡ b && fits_record_of (easing_in (cond b (Some x) None))
    go true x h = let z : ◌≡◌ {A = ℕ} 0 1 = cc in absurd (omega arith)
    go false x h = refl
