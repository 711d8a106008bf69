-- An update with one fold at most, by the words: what it answers, and which words it changes. Assumes nothing.
use Prim.Native.Nat.{ℕ, zero, suc, ◌%◌, ◌≤◌}
use native.Mathlib.Omega.{arith}
use mathlib.Core.Path.{◌≡◌, refl, sym, ap, ◌∙◌}
use mathlib.Core.Bool.{Bool, true, false, not, cond, ◌&&◌, and-false}
use mathlib.Core.List.{List}
use lib.Dec.{eqb}
use lib.Ieee.{Float, binary32, lt, le, eq}
use lib.Ieee.Bits.{to_bits-of_bits, nan_bits_is}
use lib.ListN.{get_or, set}
use lib.Seq.{set-get_or, get_or-set_other}
use Rattle.math.specs.Bits.{bits_of}
use Rattle.math.specs.Range.{max_zero_of}
use Rattle.math.specs.Lost.{lost_by}
use Rattle.math.specs.Rounded.{f32, zero_f, top_f, ◌⊕◌, ◌⊖◌, ◌⊗◌}
use Rattle.math.proofs.Patterns.{no_nan}
use Rattle.loop_mode.specs.declared.Loop.{Loop}
use Rattle.folds.specs.declared.Folding.{Folding}
use Rattle.folds.specs.Folds.{due, folds_of, fold_once}
use Rattle.tween.specs.declared.record.Tween.{Tween}
use Rattle.tween.specs.declared.record.TweenState.TheVariants.{Idle, Running, Paused, Completed}
use Rattle.tween.specs.Limits.{within_of}
use Rattle.tween.specs.Parts.{put}
use Rattle.tween.specs.Update.{begin_at, after_folds, ran, folded, advanced, waiting, wait_of, run_of, by_state, update_of, updated}
use Rattle.tween.proofs.Glides.{one-fold}
use Rattle.words.specs.Modes.{loop_from, state_word, flag_word}
use Rattle.words.specs.Tracks.{loop_in}
use Rattle.words.specs.Lent.{word_at, float_at, loop_at, tween_into}
use Rattle.tween_words.specs.declared.stepping.Turn.{Turn}
use Rattle.tween_words.specs.Fitting.{fits_of}
use Rattle.tween_words.specs.Stepping.{turn_from, turn_of, Steps}
use Rattle.tween_words.proofs.Fits.{Fit, parts, state_at, read_in, reads, inside}
use Rattle.tween_words.proofs.Folding.{left, turns, flag-kept}

-- a step that is not lost
steps_on : (t : Tween) (x e : Float) → within_of t ≡ true → t.state ≡ Running → lt top_f x ≡ false → e ≡ t.elapsed ⊕ max_zero_of x ⊗ t.time_scale → lost_by t.elapsed (max_zero_of x ⊗ t.time_scale) e ≡ false → update_of t x ≡ advanced t t.delay_elapsed e
unfolding update_of by_state run_of
steps_on t x e w s u q l =
    rw (w, u, s, ← q, l, and-false (lt zero_f (max_zero_of x) && lt zero_f t.time_scale && lt t.elapsed t.duration)) refl

is-due : (d : Float) (t : Tween) (e : Float) (b : Bool) → le d e ≡ b → due d (begin_at t e) ≡ b
unfolding due
is-due d t e b h = h

-- no fold is due
over-due : (d v : Float) (p : Folding) → p.completed ≡ false → p.elapsed ≡ v → le d v ≡ false → due d p ≡ false
unfolding due
over-due d v p c e h = rw (c, e, h) refl

ended-due : (d : Float) (p : Folding) → p.completed ≡ true → due d p ≡ false
unfolding due
ended-due d p c = rw c refl

no-fold : (l : Loop) (d : Float) (p : Folding) (n : ℕ) → folds_of (suc n) false l d p ≡ p
unfolding folds_of
no-fold l d p n = refl

-- a step without a fold
steps : (t : Tween) (w e : Float) → eq t.duration zero_f ≡ false → due t.duration (begin_at t e) ≡ false → advanced t w e ≡ ran t w (begin_at t e)
unfolding advanced folded
steps t w e z d = rw (z, d, no-fold t.looping t.duration (begin_at t e) 4095, d) refl

waits : (t : Tween) (x s : Float) → within_of t ≡ true → t.state ≡ Idle → lt top_f x ≡ false → s ≡ t.delay_elapsed ⊕ max_zero_of x → lost_by t.delay_elapsed (max_zero_of x) s ≡ false → lt s t.delay ≡ true → update_of t x ≡ updated (put (waiting t s) t) 0 true
unfolding update_of by_state wait_of
waits t x s w i u q l b = rw (w, u, i, ← q, l, and-false (lt zero_f (max_zero_of x)), b) refl

stays : (t : Tween) (x : Float) → within_of t ≡ true → t.state ≡ Paused → lt top_f x ≡ false → update_of t x ≡ updated t 0 true
unfolding update_of by_state
stays t x w s u = rw (w, u, s) refl

rests : (t : Tween) (x : Float) → within_of t ≡ true → t.state ≡ Completed → lt top_f x ≡ false → update_of t x ≡ updated t 0 false
unfolding update_of by_state
rests t x w s u = rw (w, u, s) refl

-- a word that is written as it is
keep : (l : List ℕ) (i v : ℕ) → get_or l i 0 ≡ v → set l i v ≡ l
keep l i v h = ap (set l i) (sym h) ∙ set-get_or l i 0

state-kept : (n : ℕ) → n ≤ 3 → state_word (state_at n) ≡ n
unfolding state_word
state-kept zero h = refl
state-kept (suc zero) h = refl
state-kept (suc (suc zero)) h = refl
state-kept (suc (suc (suc zero))) h = refl
state-kept (suc (suc (suc (suc n)))) h = absurd (omega (arith, h))

bits_back : (n : ℕ) → n ≤ 0xffff_ffff → n % 0x8000_0000 ≤ 0x7f80_0000 → bits_of (f32 n) ≡ n
bits_back n h k = to_bits-of_bits binary32 n (omega arith) (rw (nan_bits_is binary32 n) at (no_nan n k))

module _ (ws : List ℕ) (f : Fit ws) where
  start : set ws 0 (bits_of (float_at ws 0)) ≡ ws
  start = keep ws 0 _ (sym (bits_back (word_at ws 0) f.start_word (omega (arith, f.start))))

  end : set ws 1 (bits_of (float_at ws 1)) ≡ ws
  end = keep ws 1 _ (sym (bits_back (word_at ws 1) f.end-word (omega (arith, f.end))))

  -- the words of the clock
  waited : bits_of (float_at ws 14) ≡ word_at ws 14
  waited = bits_back (word_at ws 14) (omega (arith, f.waited)) (omega (arith, f.waited))

  lasts : bits_of (float_at ws 2) ≡ word_at ws 2
  lasts = bits_back (word_at ws 2) (omega (arith, f.duration)) (omega (arith, f.duration))

  elapsed : bits_of (float_at ws 13) ≡ word_at ws 13
  elapsed = bits_back (word_at ws 13) (omega (arith, f.elapsed, f.duration)) (omega (arith, f.elapsed, f.duration))

  flag : flag_word (not (eqb (word_at ws 17) 0)) ≡ word_at ws 17
  flag = flag-kept (word_at ws 17) f.flag

  module _ (q : Folding) where
    folded-words : (v : Float) (n k : ℕ) → word_at ws 15 ≡ 1 → q.elapsed ≡ v → q.completed ≡ false → q.loop_count ≡ n → flag_word q.ping_pong_reverse ≡ k
        → set (set (set ws 13 (bits_of v)) 16 n) 17 k ≡ tween_into ws (put (after_folds (float_at ws 14) q) (read_in ws))
    unfolding tween_into state_word
    folded-words v n k h a b c d =
        let l = set ws 13 (bits_of v) in
        let w : set l 14 (bits_of (float_at ws 14)) ≡ l = keep l 14 _ (get_or-set_other ws 13 14 (bits_of v) 0 (λ z. omega (arith, z)) ∙ sym waited) in
        let s : set l 15 1 ≡ l = keep l 15 _ (get_or-set_other ws 13 15 (bits_of v) 0 (λ z. omega (arith, z)) ∙ h) in
        rw (start, end, a, b, c, d, w, s) refl

    ended-words : (n k : ℕ) → q.elapsed ≡ float_at ws 2 → q.completed ≡ true → q.loop_count ≡ n → flag_word q.ping_pong_reverse ≡ k
        → set (set (set (set ws 13 (word_at ws 2)) 15 3) 16 n) 17 k ≡ tween_into ws (put (after_folds (float_at ws 14) q) (read_in ws))
    unfolding tween_into state_word
    ended-words n k a b c d =
        let l = set ws 13 (word_at ws 2) in
        let w : set l 14 (bits_of (float_at ws 14)) ≡ l = keep l 14 _ (get_or-set_other ws 13 14 (word_at ws 2) 0 (λ z. omega (arith, z)) ∙ sym waited) in
        rw (start, end, a, b, c, d, lasts, w) refl

  moved-words : (v : Float) → word_at ws 15 ≡ 1 → set ws 13 (bits_of v) ≡ tween_into ws (put (after_folds (float_at ws 14) (begin_at (read_in ws) v)) (read_in ws))
  moved-words v h =
      let l = set ws 13 (bits_of v) in
      let n : set l 16 (word_at ws 16) ≡ l = keep l 16 _ (get_or-set_other ws 13 16 (bits_of v) 0 (λ z. omega (arith, z))) in
      let k : set l 17 (word_at ws 17) ≡ l = keep l 17 _ (get_or-set_other ws 13 17 (bits_of v) 0 (λ z. omega (arith, z))) in
      sym (rw (n, k) refl) ∙ folded-words (begin_at (read_in ws) v) v (word_at ws 16) (word_at ws 17) h refl refl refl flag

  kept-words : tween_into ws (read_in ws) ≡ ws
  unfolding tween_into
  kept-words =
      rw (start, end, elapsed, waited, flag, state-kept (word_at ws 15) f.state, keep ws 13 (word_at ws 13) refl, keep ws 14 (word_at ws 14) refl, keep ws 15 (word_at ws 15) refl, keep ws 16 (word_at ws 16) refl, keep ws 17 (word_at ws 17) refl) refl

  waiting-words : (v : Float) → word_at ws 15 ≡ 0 → set ws 14 (bits_of v) ≡ tween_into ws (put (waiting (read_in ws) v) (read_in ws))
  unfolding tween_into state_word
  waiting-words v h =
      let l = set ws 14 (bits_of v) in
      let s : set l 15 0 ≡ l = keep l 15 _ (get_or-set_other ws 14 15 (bits_of v) 0 (λ z. omega (arith, z)) ∙ h) in
      let n : set l 16 (word_at ws 16) ≡ l = keep l 16 _ (get_or-set_other ws 14 16 (bits_of v) 0 (λ z. omega (arith, z))) in
      let k : set l 17 (word_at ws 17) ≡ l = keep l 17 _ (get_or-set_other ws 14 17 (bits_of v) 0 (λ z. omega (arith, z))) in
      rw (start, end, elapsed, keep ws 13 (word_at ws 13) refl, flag, s, n, k) refl

module _ (ws : List ℕ) (x : Float) (fit : fits_of ws ≡ true) (short : lt top_f x ≡ false) where
  f : Fit ws
  f = parts ws fit

  pub paused : word_at ws 15 ≡ 2 → Steps ws x 0 true ws
  paused h =
      record { from = read_in ws; to = read_in ws; read = reads ws f; ran = stays (read_in ws) x (inside ws f) (ap state_at h) short; words = sym (kept-words ws f) }

  pub completed : word_at ws 15 ≡ 3 → Steps ws x 0 false ws
  completed h =
      record { from = read_in ws; to = read_in ws; read = reads ws f; ran = rests (read_in ws) x (inside ws f) (ap state_at h) short; words = sym (kept-words ws f) }

  pub waited-on : (s : Float) → word_at ws 15 ≡ 0 → s ≡ float_at ws 14 ⊕ max_zero_of x → lost_by (float_at ws 14) (max_zero_of x) s ≡ false → lt s (float_at ws 9) ≡ true → Steps ws x 0 true (set ws 14 (bits_of s))
  waited-on s h q l b =
      record { from = read_in ws; to = _; read = reads ws f; ran = waits (read_in ws) x s (inside ws f) (ap state_at h) short q l b; words = waiting-words ws f s h }

  module _ (e : Float) (runs : word_at ws 15 ≡ 1) (sum : e ≡ float_at ws 13 ⊕ max_zero_of x ⊗ float_at ws 10) (goes : lost_by (float_at ws 13) (max_zero_of x ⊗ float_at ws 10) e ≡ false) (long : eq (float_at ws 2) zero_f ≡ false) where
    on : update_of (read_in ws) x ≡ advanced (read_in ws) (float_at ws 14) e
    on = steps_on (read_in ws) x e (inside ws f) (ap state_at runs) short sum goes

    pub slid : le (float_at ws 2) e ≡ false → Steps ws x 0 true (set ws 13 (bits_of e))
    slid d =
        record { from = read_in ws; to = _; read = reads ws f; ran = on ∙ steps (read_in ws) (float_at ws 14) e long (is-due (float_at ws 2) (read_in ws) e false d); words = moved-words ws f e runs }

    module _ (due-now : le (float_at ws 2) e ≡ true) (r : Turn) (turned : r ≡ turn_of (loop_in (loop_from (loop_at ws 11))) (word_at ws 16) (word_at ws 17)) where
      q : Folding
      q = fold_once (loop_in (loop_from (loop_at ws 11))) (float_at ws 2) (begin_at (read_in ws) e)

      by : r ≡ turn_from q
      unfolding q
      by = turned ∙ turns (loop_in (loop_from (loop_at ws 11))) (float_at ws 2) e (word_at ws 16) (word_at ws 17)

      rest : (q.elapsed ≡ cond q.completed (float_at ws 2) (e ⊖ float_at ws 2)) × (q.folds ≡ 1)
      unfolding q
      rest = left (loop_in (loop_from (loop_at ws 11))) (float_at ws 2) (begin_at (read_in ws) e)

      done : (b : Bool) → r.done ≡ b → q.completed ≡ b
      done b h = sym (ap (λ (z : Turn). z.done) by) ∙ h

      once : due (float_at ws 2) q ≡ false → update_of (read_in ws) x ≡ ran (read_in ws) (float_at ws 14) q
      unfolding q
      once n = on ∙ one-fold (read_in ws) (float_at ws 14) e q long (is-due (float_at ws 2) (read_in ws) e true due-now) refl n

      pub folded-once : (v : Float) → r.done ≡ false → v ≡ e ⊖ float_at ws 2 → le (float_at ws 2) v ≡ false → Steps ws x 1 true (set (set (set ws 13 (bits_of v)) 16 r.count) 17 r.flag)
      folded-once v h g k =
          let c = done false h in
          let a : q.elapsed ≡ v = rest.0 ∙ (rw c refl ∙ sym g) in
          record {
            from = read_in ws;
            to = put (after_folds (float_at ws 14) q) (read_in ws);
            read = reads ws f;
            ran = once (over-due (float_at ws 2) v q c a k) ∙ rw (rest.1, c) refl;
            words = folded-words ws f q v r.count r.flag runs a c (sym (ap (λ (z : Turn). z.count) by)) (sym (ap (λ (z : Turn). z.flag) by));
          }

      pub ended : r.done ≡ true → Steps ws x 1 false (set (set (set (set ws 13 (word_at ws 2)) 15 3) 16 r.count) 17 r.flag)
      ended h =
          let c = done true h in
          let a : q.elapsed ≡ float_at ws 2 = rest.0 ∙ rw c refl in
          record {
            from = read_in ws;
            to = put (after_folds (float_at ws 14) q) (read_in ws);
            read = reads ws f;
            ran = once (ended-due (float_at ws 2) q c) ∙ rw (rest.1, c) refl;
            words = ended-words ws f q r.count r.flag a c (sym (ap (λ (z : Turn). z.count) by)) (sym (ap (λ (z : Turn). z.flag) by));
          }
