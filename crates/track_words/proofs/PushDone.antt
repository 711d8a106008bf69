-- Where a push is done, the words are read as the track that it hands back. Assumes nothing.
use Rattle.std.specs.Prelude.{Err, Ok, Result, Bool, cond}
use Prim.Native.Nat.{ℕ}
use native.Mathlib.Omega.{arith}
use mathlib.Core.Path.{◌≡◌, refl, sym, ◌∙◌, ap}
use mathlib.Core.Bool.{true, false}
use mathlib.Core.List.{List}
use lib.Dec.{leb}
use lib.ListN.{length}
use Rattle.math.proofs.Choice.{by-test}
use Rattle.easing.specs.Kinds.{supplied_of}
use Rattle.easing.specs.Params as params
use Rattle.frames.specs.declared.frame.Keyframe.{Keyframe}
use Rattle.frames.specs.declared.frame.Put.{Put}
use Rattle.frames.specs.Pushing.{pushed_of, put_of}
use Rattle.keyframe.specs.declared.types.Track.{Track}
use Rattle.keyframe.specs.Limits.{frames_in, within_of}
use Rattle.keyframe.specs.Pushing.{placed_of, push_of, stored_of, takes_of, with_frames, left_by}
use Rattle.track_words.specs.Pushing.{has_room, stored_row}
use Rattle.track_words.specs.Reading.{track_of}
use Rattle.track_words.specs.Promises.{Pushable, PushDone}
use Rattle.track_words.proofs.Passed.{passed-few, passed-frames}
use Rattle.track_words.proofs.PushBack.{push-back, stored_is, time-is}
use Rattle.track_words.proofs.Rows.{room-is}
use Rattle.refusal.specs.Refusing.{done, outcome_of}
use Rattle.refusal.specs.declared.rejected.Rejected.{Rejected}

-- what is done is done with frames that found their places
abbrev DoneWith : Track → Result Put Put → Result Track (Rejected Track) → Type 0
DoneWith t o (Ok u) = (p : Put) × (o ≡ Ok p) × (u ≡ with_frames t p.frames p.count)
DoneWith t o (Err r) = Unit {0}

module _ (t : Track) (k : Keyframe) where
  abbrev put : Result Put Put
  put = put_of t.frames t.count (stored_of k)

  placed-done : (o : Result Put Put) → DoneWith t o (placed_of t o)
  unfolding placed_of
  placed-done (Ok p) = (p, refl, refl)
  placed-done (Err p) = tt

  done-with : DoneWith t (put_of t.frames t.count (stored_of k)) (push_of t k)
  unfolding push_of
  done-with =
      by-test (DoneWith t put) (within_of t) _ _
      (λ _.
      by-test (DoneWith t put) (supplied_of k.easing) _ _
      (λ _.
      by-test (DoneWith t put) (params.within_of (params.params_of k.easing)) _ _
      (λ _. by-test (DoneWith t put) (takes_of t (stored_of k)) _ _ (λ _. placed-done put) (λ _. tt))
      (λ _. tt))
      (λ _. tt))
      (λ _. tt)

  few-then : (p : Put) → put_of t.frames t.count (stored_of k) ≡ Ok p → leb (length (pushed_of (stored_of k) (frames_in t))) 64 ≡ true
  unfolding put_of
  few-then p = go (leb (length (pushed_of (stored_of k) (frames_in t))) 64) _ _
    where
      go : (b : Bool) (q r : Put) → cond b (Ok q) (Err r) ≡ Ok p → b ≡ true
      go true q r e = refl
      go false q r e = let z : ◌≡◌ {A = ℕ} 0 1 = cc in absurd (omega (arith, z))

  -- what an accepted push hands back
  pushed-with : (a : Result Track (Rejected Track)) → outcome_of a ≡ done → DoneWith t put a → (p : Put) × (put ≡ Ok p) × (left_by a ≡ with_frames t p.frames p.count)
  pushed-with (Ok u) e h = h
  pushed-with (Err r) e h = let z : ◌≡◌ {A = ℕ} 0 1 = cc in absurd (omega (arith, z))

pub done-room : (words row : List ℕ) (k : Keyframe) → Pushable words row k → outcome_of (push_of (track_of words) k) ≡ done → has_room words (stored_row row) ≡ true
done-room words row k from ended =
    let t = track_of words in
    let few = passed-few words from.fine in
    let at = time-is words (stored_row row) from.long few (stored_of k) (stored_is row k from.known) in
    let w = pushed-with t k (push_of t k) ended (done-with t k) in
    sym (room-is words (stored_row row) few (stored_of k) at) ∙ (rw (passed-frames words from.fine) at (few-then t k w.0 w.1))

pub push-done : PushDone
unfolding placed_of
push-done words row k from ended =
    let t = track_of words in
    let w = pushed-with t k (push_of t k) ended (done-with t k) in
    sym (ap left_by (push-back words row k from (done-room words row k from ended))) ∙ ap (λ (o : Result Put Put). left_by (placed_of t o)) w.1 ∙ sym w.2
