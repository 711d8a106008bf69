-- `LaxLoop::from` meets its contract: each arm is told its mode. Assumes nothing.
use Rattle.words.specs.Modes.{loop_words}
use Rattle.words.proofs.modes.LaxLoopFromLoop.from.Goals as goal

pub returns-in-Once : goal.returns-in-Once
unfolding loop_words
returns-in-Once c = simp c.in-Once.is

pub returns-in-Times : goal.returns-in-Times
unfolding loop_words
returns-in-Times c = simp c.in-Times.is

pub returns-in-Forever : goal.returns-in-Forever
unfolding loop_words
returns-in-Forever c = simp c.in-Forever.is

pub returns-in-PingPong : goal.returns-in-PingPong
unfolding loop_words
returns-in-PingPong c = simp c.in-PingPong.is

pub returns-in-PingPongTimes : goal.returns-in-PingPongTimes
unfolding loop_words
returns-in-PingPongTimes c = simp c.in-PingPongTimes.is
