-- `put` meets its contract. Assumes nothing.
use mathlib.Core.Path.{refl}
use borrow.Author.Tests.{lt-ltb, le-ltb}
use Rattle.rows.specs.Words.{put_of}
use Rattle.rows.proofs.entries.Row.put.Goals as goal

pub returns-then-n-lt1024 : goal.returns-then-n-lt1024
unfolding put_of
returns-then-n-lt1024 c = rw (lt-ltb _ _ c.if-n-lt1024.true) refl

pub returns-else-n-lt1024 : goal.returns-else-n-lt1024
unfolding put_of
returns-else-n-lt1024 c = rw (le-ltb _ _ c.if-n-lt1024.false) refl
