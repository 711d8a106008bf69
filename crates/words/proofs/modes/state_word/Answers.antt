-- `state_word` meets its contract: each arm is told its state. Assumes nothing.
use Rattle.words.specs.Modes.{state_word}
use Rattle.words.proofs.modes.state_word.Goals as goal

pub returns-in-Idle : goal.returns-in-Idle
unfolding state_word
returns-in-Idle c = simp c.in-Idle.is

pub returns-in-Running : goal.returns-in-Running
unfolding state_word
returns-in-Running c = simp c.in-Running.is

pub returns-in-Paused : goal.returns-in-Paused
unfolding state_word
returns-in-Paused c = simp c.in-Paused.is

pub returns-in-Completed : goal.returns-in-Completed
unfolding state_word
returns-in-Completed c = simp c.in-Completed.is
