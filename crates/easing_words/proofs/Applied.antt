-- What is drawn by a kind's number is what the easing answers. Assumes nothing.
use Rattle.std.specs.Prelude.{None, Ok, Some, Option}
use Prim.Native.Nat.{ℕ}
use native.Mathlib.Omega.{arith}
use mathlib.Core.Path.{◌≡◌, refl}
use mathlib.Core.Bool.{Bool, true, false, ◌&&◌, ◌||◌, cond, false≢true}
use lib.Dec.{eqb}
use lib.Ieee.{Float, is_nan}
use borrow.Author.Tests.{eqb-true}
use Rattle.math.specs.Range.{clamp01_of}
use Rattle.math.proofs.Choice.{and_both}
use Rattle.bezier.specs.declared.types.Found.{Found}
use Rattle.bezier.specs.declared.types.Solved.{Solved}
use Rattle.bezier.specs.Search.{solved_at}
use Rattle.bezier.specs.Bezier.{plain_of, bezier_of}
use Rattle.easing.specs.declared.kinds.Easing.{Easing}
use Rattle.easing.specs.declared.kinds.Easing.TheVariants as easing
use Rattle.easing.specs.declared.params.Params.{Params}
use Rattle.easing.specs.Kinds.{number_of, curve_of, supplied_of}
use Rattle.easing.specs.Params.{params, no_params, params_of, with_params, of_number, within_of}
use Rattle.easing.specs.Apply.{eased_at, search_of, apply_of, fits_record_of}
use Rattle.words.specs.declared.kinds.LaxEasing.{LaxEasing}
use Rattle.words.specs.Kinds.{is_kind, easing_from}
use Rattle.words.specs.Tracks.{easing_in}
use Rattle.words.specs.Sampling.{plain_kind, easing_fits}
use Rattle.words.proofs.Fitting.{plain_fits}
use Rattle.easing_words.specs.Drawing.{drawn_by, draw_of, holds_of, searched_of}
use Rattle.easing_words.proofs.Plain.{any-params, no-search}

-- a record may hold the easing that the words are
pub record Holds (w : LaxEasing) : Type 0 where
  pub known : easing_from w ≡ Some (easing_in (easing_from w))
  pub fits : fits_record_of (easing_in (easing_from w)) ≡ true

abbrev given : LaxEasing → Params
given w = params w.a w.b w.c w.d w.count

read : (w : LaxEasing) → is_kind w.kind ≡ true → easing_from w ≡ Some (of_number w.kind (given w))
unfolding easing_from
read w h = rw h refl

pub plain-holds : (w : LaxEasing) → plain_kind w.kind ≡ true → Holds w
unfolding easing_fits
plain-holds w h =
    let p = and_both (is_kind w.kind) (fits_record_of (easing_in (easing_from w))) (plain_fits w h) in
    record { known = rw (read w p.0) refl; fits = p.1 }

plain-read : (w : LaxEasing) → plain_kind w.kind ≡ true → easing_in (easing_from w) ≡ of_number w.kind (given w)
unfolding easing_fits
plain-read w h = rw (read w (and_both (is_kind w.kind) (fits_record_of (easing_in (easing_from w))) (plain_fits w h)).0) refl

fine : (e : Easing) → fits_record_of e ≡ true → within_of (params_of e) ≡ true
unfolding fits_record_of
fine e h = (and_both (supplied_of e) (within_of (params_of e)) h).1

eased-by : (o : Option (Float → Float)) (s : Float → Solved) (u v : Float) → Some v ≡ drawn_by o u → s u ≡ solved_at true u → eased_at o s true u ≡ Ok (plain_of v)
eased-by None s u v h g = let z : ◌≡◌ {A = ℕ} 0 1 = cc in absurd (omega arith)
eased-by (Some f) s u v h g = let e : f u ≡ v = cc in rw (g, e) refl

apply-plain : (e : Easing) (t v : Float) → is_nan t ≡ false → within_of (params_of e) ≡ true → eqb (number_of e) 31 ≡ false → Some v ≡ drawn_by (curve_of e) (clamp01_of t) → apply_of e t ≡ Ok (plain_of v)
unfolding apply_of search_of
apply-plain e t v n p s d = rw (n, p) (eased-by (curve_of e) (search_of e) (clamp01_of t) v d (rw s refl))

drawn-parts : (k : ℕ) (u v : Float) → Some v ≡ draw_of k u → (plain_kind k ≡ true) × (Some v ≡ drawn_by (curve_of (of_number k no_params)) u)
unfolding draw_of
drawn-parts k u v h = go (plain_kind k) (drawn_by (curve_of (of_number k no_params)) u) h
  where
    go : (b : Bool) (d : _) → Some v ≡ cond b d None → (b ≡ true) × (Some v ≡ d)
    go true d h = (refl, h)
    go false d h = let z : ◌≡◌ {A = ℕ} 0 1 = cc in absurd (omega arith)

pub plain-applies : (w : LaxEasing) (t u v : Float) → Some v ≡ draw_of w.kind u → u ≡ clamp01_of t → is_nan t ≡ false → Holds w × (apply_of (easing_in (easing_from w)) t ≡ Ok (plain_of v))
plain-applies w t u v h c n =
    let d = drawn-parts w.kind u v h in
    let i = plain-holds w d.0 in
    let e = plain-read w d.0 in
    let p : within_of (params_of (of_number w.kind (given w))) ≡ true = rw e at (fine (easing_in (easing_from w)) i.fits) in
    let g : Some v ≡ drawn_by (curve_of (of_number w.kind (given w))) (clamp01_of t) = rw (any-params w.kind (given w) d.0, ← c) d.1 in
    (i, rw e (apply-plain (of_number w.kind (given w)) t v n p (no-search w.kind (given w) d.0) g))

searched-parts : (k : ℕ) (a b c d u : Float) (f : Found) → Some f ≡ searched_of k a b c d u → (k ≡ 31) × (within_of (params a b c d 0) ≡ true) × (f ≡ bezier_of u a b c d)
unfolding searched_of
searched-parts k a b c d u f h = go (eqb k 31) refl (within_of (params a b c d 0)) (bezier_of u a b c d) h
  where
    go : (x : Bool) → eqb k 31 ≡ x → (y : Bool) (g : Found) → Some f ≡ cond (x && y) (Some g) None → (k ≡ 31) × (y ≡ true) × (f ≡ g)
    go true e true g h = (eqb-true k 31 e, refl, cc)
    go true e false g h = let z : ◌≡◌ {A = ℕ} 0 1 = cc in absurd (omega arith)
    go false e y g h = let z : ◌≡◌ {A = ℕ} 0 1 = cc in absurd (omega arith)

bezier-read : (w : LaxEasing) → w.kind ≡ 31 → easing_from w ≡ Some (easing.CubicBezier w.a w.b w.c w.d)
unfolding easing_from with_params
bezier-read w h = rw h refl

pub bezier-holds : (w : LaxEasing) → w.kind ≡ 31 → within_of (params w.a w.b w.c w.d 0) ≡ true → Holds w
unfolding fits_record_of supplied_of params_of
bezier-holds w h p = record { known = rw (bezier-read w h) refl; fits = rw (bezier-read w h) p }

pub holds-so : (w : LaxEasing) → holds_of w.kind w.a w.b w.c w.d ≡ true → Holds w
unfolding holds_of
holds-so w h = go (plain_kind w.kind) refl (eqb w.kind 31) refl (within_of (params w.a w.b w.c w.d 0)) refl h
  where
    go : (p : Bool) → plain_kind w.kind ≡ p → (k : Bool) → eqb w.kind 31 ≡ k → (f : Bool) → within_of (params w.a w.b w.c w.d 0) ≡ f → p || k && f ≡ true → Holds w
    go true p k e f g h = plain-holds w p
    go false p true e true g h = bezier-holds w (eqb-true w.kind 31 e) g
    go false p true e false g h = absurd (false≢true h)
    go false p false e f g h = absurd (false≢true h)

pub bezier-applies : (w : LaxEasing) (t u : Float) (f : Found) → Some f ≡ searched_of w.kind w.a w.b w.c w.d u → u ≡ clamp01_of t → is_nan t ≡ false → Holds w × (apply_of (easing_in (easing_from w)) t ≡ Ok f)
unfolding apply_of search_of curve_of params_of
bezier-applies w t u f h c n =
    let s = searched-parts w.kind w.a w.b w.c w.d u f h in
    (bezier-holds w s.0 s.1, rw (bezier-read w s.0, n, s.1, s.2, c) refl)
