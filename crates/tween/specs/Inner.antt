-- What the inner steps of an update promise. They are the code's: document 01 has none of them.
use Rattle.std.specs.Prelude.{◌≡◌, ◌≤◌, true, false, Float, None, Option, Result, Some}
use Rattle.refusal.specs.declared.Refusal.TheVariants.{StepLost}
use Rattle.tween.specs.declared.record.Tween.{Tween}
use Rattle.tween.specs.declared.record.TweenState.TheVariants.{Running}
use Rattle.tween.specs.declared.answers.Updated.{Updated}
use Rattle.folds.specs.declared.Folding.{Folding}
use Rattle.tween.specs.declared.step.Begun.{Begun}
use Rattle.tween.specs.declared.step.Begun.TheVariants.{Still, Lost, Waits, Runs}
use Rattle.tween.specs.declared.update.Glided.{Glided}
use Rattle.tween.specs.Parts.{put}
use Rattle.tween.specs.Update.{ran, advanced, waiting, update_of, updated}
use Rattle.refusal.specs.declared.rejected.Rejected.{Rejected}
use Rattle.refusal.specs.Refusing.{rejected}

-- what a step comes to, by how it begins
abbrev pub finish_of : Tween → Begun → Result Updated (Rejected Tween)
finish_of t (Still running) = updated t 0 running
finish_of t Lost = rejected t StepLost
finish_of t (Waits w) = updated (put (waiting t w) t) 0 true
finish_of t (Runs w e) = advanced t w e

-- a is the answer that moves t to p, and t runs on
abbrev pub RunsTo : Tween → Result Updated (Rejected Tween) → Float → Folding → Type 0
RunsTo t a w p = (a ≡ ran t w p) × (p.completed ≡ false) × (p.loop_count ≤ 16777216)

-- the quick way of what is left of a step, and of a step: where it is unsure it promises nothing
abbrev pub Slides : Tween → Float → Float → Option Glided → Type 0
Slides t w e (Some g) = RunsTo t (advanced t w e) g.waited g.folding
Slides t w e None = Unit {0}

abbrev pub Glides : Tween → Float → Option Glided → Type 0
Glides t x (Some g) = (t.state ≡ Running) × RunsTo t (update_of t x) g.waited g.folding
Glides t x None = Unit {0}

-- t with what a gliding step changes set in place
abbrev pub placed : Tween → Float → Folding → Tween
placed t w p =
    put (record {
      elapsed = p.elapsed;
      delay_elapsed = w;
      loop_count = p.loop_count;
      ping_pong_reverse = p.ping_pong_reverse;
      state = t.state;
    }) t
