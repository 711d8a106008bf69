-- `LaxTween::from` meets its contract, by what its callees ensure. Assumes nothing.
use Rattle.words.specs.Tweens.{tween_words}
use Rattle.words.proofs.tweens.LaxTweenFromTween.from.Goals as goal

pub returns : goal.returns
unfolding tween_words
returns c = simp (c.flag_word.ensures, c.state_word.ensures, c.from.ensures, c.from-2.ensures)
