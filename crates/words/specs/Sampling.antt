-- What is asked of the words of an easing.
use Rattle.std.specs.Prelude.{ℕ, Bool, ◌&&◌, ◌||◌, ltb}
use Rattle.easing.specs.Apply.{fits_record_of}
use Rattle.words.specs.declared.kinds.LaxEasing.{LaxEasing}
use Rattle.words.specs.Kinds.{is_kind, easing_from}
use Rattle.words.specs.Tracks.{easing_in}

-- a kind that has a curve and no parameters
abbrev pub plain_kind : ℕ → Bool
plain_kind kind = ltb kind 13 || ltb 18 kind && ltb kind 25 || ltb 27 kind && ltb kind 31

-- the kind is known, and a record may hold the easing
unfoldable pub easing_fits : LaxEasing → Bool
easing_fits w = is_kind w.kind && fits_record_of (easing_in (easing_from w))
