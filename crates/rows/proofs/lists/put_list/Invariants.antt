-- `put_list` meets its contract. The invariant: the words so far are written. Assumes nothing.
use mathlib.Core.Path.{◌≡◌}
use mathlib.Core.List.{map}
use lib.ListN.{take}
use Rattle.rows.specs.Words.{put_all}
use Rattle.rows.proofs.lists.put_list.Given as goal

abbrev pub invariant-loop-x : goal.invariant-loop-x
invariant-loop-x g l = l.p ≡ put_all l.initial.p (map g.T.AsWord.word (take l.x-index l.list))
