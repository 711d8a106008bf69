-- Words that pass the tests of their patterns are a tween within its limits. Assumes nothing.
use Rattle.std.specs.Prelude.{Some}
use Prim.Native.Nat.{ℕ, zero, suc, ◌%◌, ◌≤◌}
use native.Mathlib.Omega.{arith}
use mathlib.Core.Path.{◌≡◌, refl}
use mathlib.Core.Bool.{Bool, true, not, ◌&&◌, ◌||◌}
use mathlib.Core.List.{List}
use borrow.Author.Tests.{ltb-true, leb-true, le-leb}
use lib.Dec.{leb, ltb, eqb}
use Rattle.math.specs.Rounded.{f32}
use Rattle.math.proofs.Choice.{and_both}
use Rattle.math.proofs.Ordered.{below, between, in_size}
use Rattle.loop_mode.specs.Passes.{within_of as mode_within}
use Rattle.tween.specs.declared.record.Tween.{Tween}
use Rattle.tween.specs.declared.record.TweenState.{TweenState}
use Rattle.tween.specs.declared.record.TweenState.TheVariants.{Idle, Running, Paused, Completed}
use Rattle.tween.specs.Limits.{idle_below, settings_within, clock_within, within_of}
use Rattle.words.specs.Kinds.{easing_from}
use Rattle.words.specs.Modes.{loop_from, state_from}
use Rattle.words.specs.Tracks.{easing_in, loop_in}
use Rattle.words.specs.Tweens.{tween_from}
use Rattle.words.specs.Lent.{word_at, float_at, easing_at, loop_at, tween_in}
use Rattle.easing_words.specs.Drawing.{holds_of}
use Rattle.easing_words.proofs.Applied.{Holds, holds-so}
use Rattle.tween_words.specs.Fitting.{value_word, settings_fit, clock_fit, fits_of}

pub record Fit (ws : List ℕ) : Type 0 where
  pub easing : Holds (easing_at ws 3)
  pub mode : word_at ws 11 ≤ 4
  pub passes : word_at ws 12 ≤ 65535
  pub start_word : word_at ws 0 ≤ 0xffff_ffff
  pub start : word_at ws 0 % 0x8000_0000 ≤ 0x4b80_0000
  pub end-word : word_at ws 1 ≤ 0xffff_ffff
  pub end : word_at ws 1 % 0x8000_0000 ≤ 0x4b80_0000
  pub duration : word_at ws 2 ≤ 0x4b80_0000
  pub delay : word_at ws 9 ≤ 0x4b80_0000
  pub scale : word_at ws 10 ≤ 0x4480_0000
  pub elapsed : word_at ws 13 ≤ word_at ws 2
  pub waited : word_at ws 14 ≤ 0x4c00_0000
  pub count : word_at ws 16 ≤ 16777216
  pub flag : word_at ws 17 ≤ 1
  pub state : word_at ws 15 ≤ 3
  pub idle : ltb 0 (word_at ws 15) || ltb (word_at ws 14) (word_at ws 9) ≡ true

six : (a b c d e f : Bool) → a && b && c && d && e && f ≡ true → (a ≡ true) × (b ≡ true) × (c ≡ true) × (d ≡ true) × (e ≡ true) × (f ≡ true)
six a b c d e f h =
    let p = and_both (a && b && c && d && e) f h in
    let q = and_both (a && b && c && d) e p.0 in
    let r = and_both (a && b && c) d q.0 in
    let s = and_both (a && b) c r.0 in
    let t = and_both a b s.0 in
    (t.0, t.1, s.1, r.1, q.1, p.1)

pub parts : (ws : List ℕ) → fits_of ws ≡ true → Fit ws
unfolding settings_fit clock_fit
parts ws h =
    let both = and_both (settings_fit ws) (clock_fit ws) h in
    let front = leb (word_at ws 11) 4 && leb (word_at ws 12) 65535 && leb (word_at ws 13) (word_at ws 2) && leb (word_at ws 14) 0x4c00_0000 && leb (word_at ws 16) 16777216 && leb (word_at ws 17) 1 in
    let y = and_both (front && leb (word_at ws 15) 3) (ltb 0 (word_at ws 15) || ltb (word_at ws 14) (word_at ws 9)) both.1 in
    let x = and_both front (leb (word_at ws 15) 3) y.0 in
    let c = six (leb (word_at ws 11) 4) (leb (word_at ws 12) 65535) (leb (word_at ws 13) (word_at ws 2)) (leb (word_at ws 14) 0x4c00_0000) (leb (word_at ws 16) 16777216) (leb (word_at ws 17) 1) x.0 in
    let k = holds_of (word_at ws 3) (float_at ws 4) (float_at ws 5) (float_at ws 6) (float_at ws 7) in
    let s = six k (value_word (word_at ws 0)) (value_word (word_at ws 1)) (leb (word_at ws 2) 0x4b80_0000) (leb (word_at ws 9) 0x4b80_0000) (leb (word_at ws 10) 0x4480_0000) both.0 in
    let a = and_both (leb (word_at ws 0) 0xffff_ffff) (leb (word_at ws 0 % 0x8000_0000) 0x4b80_0000) s.1 in
    let b = and_both (leb (word_at ws 1) 0xffff_ffff) (leb (word_at ws 1 % 0x8000_0000) 0x4b80_0000) s.2 in
    record {
      easing = holds-so (easing_at ws 3) s.0;
      mode = leb-true _ _ c.0;
      passes = leb-true _ _ c.1;
      start_word = leb-true _ _ a.0;
      start = leb-true _ _ a.1;
      end-word = leb-true _ _ b.0;
      end = leb-true _ _ b.1;
      duration = leb-true _ _ s.3;
      delay = leb-true _ _ s.4;
      scale = leb-true _ _ s.5;
      elapsed = leb-true _ _ c.2;
      waited = leb-true _ _ c.3;
      count = leb-true _ _ c.4;
      flag = leb-true _ _ c.5;
      state = leb-true _ _ x.1;
      idle = y.1;
    }

abbrev pub state_at : ℕ → TweenState
state_at zero = Idle
state_at (suc zero) = Running
state_at (suc (suc zero)) = Paused
state_at (suc (suc (suc n))) = Completed

-- the tween that is read
abbrev pub read_in : List ℕ → Tween
read_in ws =
    record {
      start = float_at ws 0;
      end = float_at ws 1;
      duration = float_at ws 2;
      easing = easing_in (easing_from (easing_at ws 3));
      delay = float_at ws 9;
      time_scale = float_at ws 10;
      looping = loop_in (loop_from (loop_at ws 11));
      elapsed = float_at ws 13;
      delay_elapsed = float_at ws 14;
      state = state_at (word_at ws 15);
      loop_count = word_at ws 16;
      ping_pong_reverse = not (eqb (word_at ws 17) 0);
    }

known-mode : (m p : ℕ) → m ≤ 4 → loop_from (record { mode = m; passes = p }) ≡ Some (loop_in (loop_from (record { mode = m; passes = p })))
unfolding loop_from
known-mode zero p h = refl
known-mode (suc zero) p h = refl
known-mode (suc (suc zero)) p h = refl
known-mode (suc (suc (suc zero))) p h = refl
known-mode (suc (suc (suc (suc zero)))) p h = refl
known-mode (suc (suc (suc (suc (suc m))))) p h = absurd (omega (arith, h))

mode-fits : (m p : ℕ) → m ≤ 4 → p ≤ 65535 → mode_within (loop_in (loop_from (record { mode = m; passes = p }))) ≡ true
unfolding loop_from mode_within
mode-fits zero p h l = refl
mode-fits (suc zero) p h l = le-leb p 65535 l
mode-fits (suc (suc zero)) p h l = refl
mode-fits (suc (suc (suc zero))) p h l = refl
mode-fits (suc (suc (suc (suc zero)))) p h l = le-leb p 65535 l
mode-fits (suc (suc (suc (suc (suc m))))) p h l = absurd (omega (arith, h))

known-state : (n : ℕ) → n ≤ 3 → state_from n ≡ Some (state_at n)
unfolding state_from
known-state zero h = refl
known-state (suc zero) h = refl
known-state (suc (suc zero)) h = refl
known-state (suc (suc (suc zero))) h = refl
known-state (suc (suc (suc (suc n)))) h = absurd (omega (arith, h))

pub reads : (ws : List ℕ) → Fit ws → tween_from (tween_in ws) ≡ Some (read_in ws)
unfolding tween_from tween_in
reads ws f = rw (f.easing.known, known-mode (word_at ws 11) (word_at ws 12) f.mode, known-state (word_at ws 15) f.state) refl

below-delay : (n a b : ℕ) → ltb 0 n || ltb a b ≡ true → b ≤ 0x4b80_0000 → idle_below (state_at n) (f32 a) (f32 b) ≡ true
below-delay zero a b h l = below a b (ltb-true a b h) (omega arith)
below-delay (suc zero) a b h l = refl
below-delay (suc (suc zero)) a b h l = refl
below-delay (suc (suc (suc n))) a b h l = refl

pub inside : (ws : List ℕ) → Fit ws → within_of (read_in ws) ≡ true
unfolding within_of settings_within clock_within
inside ws f =
    rw (in_size (word_at ws 0) f.start, in_size (word_at ws 1) f.end, between (word_at ws 2) 0x4b80_0000 f.duration (omega arith), between (word_at ws 9) 0x4b80_0000 f.delay (omega arith), between (word_at ws 10) 0x4480_0000 f.scale (omega arith), mode-fits (word_at ws 11) (word_at ws 12) f.mode f.passes, f.easing.fits, between (word_at ws 13) (word_at ws 2) f.elapsed (omega (arith, f.duration)), between (word_at ws 14) 0x4c00_0000 f.waited (omega arith), below-delay (word_at ws 15) (word_at ws 14) (word_at ws 9) f.idle f.delay, le-leb (word_at ws 16) 16777216 f.count) refl
