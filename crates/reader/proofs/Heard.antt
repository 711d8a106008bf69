-- What a record comes to, by what is seen of it. Assumes nothing.
use Rattle.std.specs.Prelude.{Err, Result}
use Rattle.std.proofs.Common.{◌≡◌, ℕ, Bool, true, false, List, sym, ◌∙◌, eq-eqb, ne_eqb, Ok}
use Rattle.refusal.specs.declared.Refusal.TheVariants.{WrongRecord}
use Rattle.event_log.specs.declared.event.Event.{Event}
use Rattle.event_log.specs.Writing.{number_at}
use Rattle.reader.specs.declared.hear.Replay.{Replay}
use Rattle.reader.specs.declared.hear.Played.{Played}
use Rattle.reader.specs.declared.hear.Heard.{Heard}
use Rattle.reader.specs.Records.{is_wrong, event_in}
use Rattle.reader.specs.Hearing.{gap_of, played_of, further, heard_of}
use Rattle.refusal.specs.declared.Refusal.{Refusal}

module _ (s : Replay) (r : List ℕ) where
  pub hears-wrong : is_wrong r ≡ true → heard_of s r ≡ Err WrongRecord
  unfolding heard_of
  hears-wrong h = rw h

  module _ (right : is_wrong r ≡ false) (n g : ℕ) (N : n ≡ number_at r 0) (G : g ≡ gap_of s.last n) where
    pub hears-repeat : g ≡ 65535 → heard_of s r ≡ Ok (record { gap = g; reached = s })
    unfolding heard_of
    hears-repeat h = rw (right, sym N, sym G, eq-eqb g 65535 h)

    pub hears-played : (g ≡ 65535 → ⊥) → (e : Event) (p : Result Played Refusal) → e ≡ event_in r → p ≡ played_of s.tween e → heard_of s r ≡ further p s n g
    unfolding heard_of
    hears-played h e p E P = rw (right, sym N, sym G, ne_eqb g 65535 h, sym E, sym P)

-- a record that was heard: r and s are what the calls before made of the bytes and of the state
pub heard-as : (s s' : Replay) (r r' : List ℕ) (h h' : Result Heard Refusal) → r' ≡ r → s' ≡ s → h ≡ heard_of s' r' → h ≡ h' → heard_of s r ≡ h'
heard-as s s' r r' h h' a b c d = rw (sym a, sym b) (sym c ∙ d)

-- whether a call was accepted
abbrev pub is_done : Result Played Refusal → Bool
is_done (Ok o) = true
is_done (Err r) = false
