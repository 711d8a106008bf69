-- The words that a push leaves pass the check again. Assumes nothing.
use Rattle.std.specs.Prelude.{None, Some}
use Prim.Native.Nat.{ℕ, zero, suc, ◌<◌, ◌≤◌}
use native.Mathlib.Nat.{eq-or-lt_of_le}
use native.Mathlib.Omega.{arith}
use mathlib.Core.Path.{◌≡◌, refl, sym, ◌∙◌}
use mathlib.Core.Bool.{Bool, true, false, cond, ◌&&◌}
use mathlib.Core.List.{List, [], ◌∷◌, ◌++◌}
use mathlib.Core.Logic.{⊎_elim}
use Rattle.math.specs.Lists.{firsts}
use Rattle.math.proofs.Choice.{and_both}
use Rattle.frames.specs.declared.frame.Keyframe.{Keyframe}
use Rattle.keyframe.specs.Limits.{within_of}
use Rattle.keyframe.proofs.Kept.{push-within}
use Rattle.words.specs.declared.tracks.LaxKeyframe.{LaxKeyframe}
use Rattle.words.specs.Kinds.{is_kind}
use Rattle.words.specs.Lent.{word_at, frame_at, track_in}
use Rattle.words.specs.Modes.{is_mode}
use Rattle.words.specs.Tracks.{frame_from, frame_read, known_kinds, known_track}
use Rattle.words.proofs.Known.{all-places}
use Rattle.track_words.specs.Checking.{check_of}
use Rattle.track_words.specs.Pushing.{push_into, stored_row}
use Rattle.track_words.specs.Reading.{track_of}
use Rattle.track_words.specs.Promises.{PushPasses}
use Rattle.track_words.proofs.Passed.{passed-few, passed-known, passed-within}
use Rattle.track_words.proofs.Entered.{words_in}
use Rattle.track_words.proofs.Placed.{take-firsts}
use Rattle.track_words.proofs.PushBack.{KnownAt, taken}
use Rattle.track_words.proofs.PushDone.{done-room, push-done}

-- one frame more
known-snoc : (l : List LaxKeyframe) (x : LaxKeyframe) → known_kinds (l ++ (x ∷ [])) ≡ known_kinds l && is_kind x.easing.kind
unfolding known_kinds
known-snoc [] x = go (is_kind x.easing.kind)
  where
    go : (b : Bool) → b && true ≡ b
    go true = refl
    go false = refl
known-snoc (f ∷ l) x = rw (known-snoc l x) (go (is_kind f.easing.kind))
  where
    go : (b : Bool) → b && (known_kinds l && is_kind x.easing.kind) ≡ b && known_kinds l && is_kind x.easing.kind
    go true = refl
    go false = refl

module _ (words : List ℕ) where
  known-all : (n : ℕ) → ((i : ℕ) → i < n → KnownAt words i) → known_kinds (firsts (words_in words) n) ≡ true
  unfolding firsts known_kinds
  known-all zero h = refl
  known-all (suc n) h = known-snoc (firsts (words_in words) n) (words_in words n) ∙ rw (known-all n (λ i l. h i (omega (arith, l))), h n (omega arith)) refl

  known-each : (n : ℕ) → known_kinds (firsts (words_in words) n) ≡ true → (i : ℕ) → i < n → KnownAt words i
  unfolding firsts
  known-each zero h i l = absurd (omega (arith, l))
  known-each (suc n) h i l =
      let both = and_both (known_kinds (firsts (words_in words) n)) (is_kind (words_in words n).easing.kind) (sym (known-snoc (firsts (words_in words) n) (words_in words n)) ∙ h) in
      ⊎_elim (λ (e : i ≡ n). rw e both.1) (λ (b : i < n). known-each n both.0 i b) (eq-or-lt_of_le {n = i} {m = n} (omega (arith, l)))

  -- the kinds of the frames, and the mode
  known_is : word_at words 512 ≤ 64 → known_track (track_in words) ≡ known_kinds (firsts (words_in words) (word_at words 512)) && is_mode (word_at words 514)
  unfolding known_track track_in
  known_is few = rw (all-places (word_at words 512) few, take-firsts (words_in words) (word_at words 512) 64 few) refl

-- the row's kind is known
row-known : (row : List ℕ) (k : Keyframe) → frame_read (frame_at row 0) ≡ Some k → KnownAt (stored_row row) 0
unfolding frame_read frame_at
row-known row k known = go (is_kind (word_at row 2)) known
  where
    go : (b : Bool) → cond b (Some (frame_from (frame_at row 0))) None ≡ Some k → b ≡ true
    go true e = refl
    go false e = let z : ◌≡◌ {A = ℕ} 0 1 = cc in absurd (omega (arith, z))

pub push-passes : PushPasses
unfolding check_of
push-passes words row k from done =
    let few = passed-few words from.fine in
    let t = taken words row k from (done-room words row k from done) in
    let w = push_into words (stored_row row) in
    let came = and_both (known_kinds (firsts (words_in words) (word_at words 512))) (is_mode (word_at words 514)) (sym (known_is words few) ∙ passed-known words from.fine) in
    let kinds : known_kinds (firsts (words_in w) (word_at w 512)) ≡ true = rw t.head.count (known-all w t.n (t.kinds (known-each words (word_at words 512) came.0) (row-known row k from.known))) in
    let mode : is_mode (word_at w 514) ≡ true = rw (t.head.kept 514 (omega arith) (omega arith)) came.1 in
    let known : known_track (track_in w) ≡ true = known_is w (omega (arith, t.head.count, t.most)) ∙ rw (kinds, mode) refl in
    let within : within_of (track_of w) ≡ true = rw (push-done words row k from done) (push-within (track_of words) (passed-within words from.fine) k) in
    rw (known, within) refl
