-- `is_known` meets its contract. The invariant: the kinds from place i on decide. Assumes nothing.
use Prim.Native.Nat.{◌≤◌}
use mathlib.Core.Path.{◌≡◌, refl, sym, ◌∙◌}
use native.Mathlib.Omega.{arith}
use lib.ListN.{length}
use Rattle.words.specs.Tracks.{known_track}
use Rattle.words.proofs.Known.{words_long, known_step, known-end}
use Rattle.words.proofs.tracks.is_known.Goals as goal

pub loop-i-preserved : goal.loop-i-preserved
unfolding known_track
loop-i-preserved c = let w = c.args.w in let l : length w.frames ≡ 64 = words_long w _ c.well_formed.0 in
    let fit : c.places-n.result ≤ length w.frames = omega (arith, c.places-n.ensures.0) in
    (omega arith, c.loop-i.invariant.1 ∙ (known_step w.frames _ fit c.loop-i.i (omega arith) ∙ rw (sym c.is_kind.ensures ∙ c.if-not-is_kind.false) refl))

pub returns-then-not-is_kind : goal.returns-then-not-is_kind
unfolding known_track
returns-then-not-is_kind c = let w = c.args.w in let l : length w.frames ≡ 64 = words_long w _ c.well_formed.0 in
    let fit : c.places-n.result ≤ length w.frames = omega (arith, c.places-n.ensures.0) in
    rw (← c.places-n.ensures.1, c.loop-i.invariant.1, known_step w.frames _ fit c.loop-i.i (omega arith), sym c.is_kind.ensures ∙ c.if-not-is_kind.true) refl

pub returns : goal.returns
unfolding known_track
returns c = let w = c.args.w in let l : length w.frames ≡ 64 = words_long w _ c.well_formed.0 in
    let fit : c.places-n.result ≤ length w.frames = omega (arith, c.places-n.ensures.0) in
    let e : c.loop-i.i ≡ c.places-n.result = omega arith in
    rw (← c.places-n.ensures.1, c.loop-i.invariant.1, e, known-end w.frames _ fit) refl
