-- What a record's call comes to, refusal by refusal, in their order. Assumes nothing.
use Rattle.std.proofs.Common.{◌≡◌, ℕ, ◌+◌, ◌-◌, ◌%◌, ◌<◌, ◌≤◌, true, false, List, length, take, drop, eq-eqb, ne_eqb, le-leb}
use borrow.Author.Tests.{lt-leb}
use Rattle.refusal.specs.declared.Refusal.TheVariants.{StepTooLong, NoRoom, StepBelowZero, WrongMark, UnknownVersion, WrongLength}
use Rattle.event_log.specs.declared.event.Event.{Event}
use Rattle.event_log.specs.Format.{mark, version, head, record_of, starts_with}
use Rattle.event_log.specs.Writing.{refused, wrote, head_in, is_long, is_backward, number_behind, record_in}
use Rattle.event_log.specs.Promises.{NoHead}
use Rattle.event_log.proofs.Heads.{head-whole}

pub no-head : NoHead
unfolding head_in
no-head buffer h = rw (lt-leb 5 (length buffer) h)

pub a-head : (buffer : List ℕ) → 5 ≤ length buffer → head_in buffer ≡ wrote buffer 0 head
unfolding head_in
a-head buffer h = rw (le-leb 5 (length buffer) h)

module _ (buffer : List ℕ) (written : ℕ) (e : Event) where
  pub too_long : is_long e ≡ true → record_in buffer written e ≡ refused buffer StepTooLong
  unfolding record_in
  too_long h = rw h

  module _ (short : is_long e ≡ false) where
    pub backward : is_backward e ≡ true → record_in buffer written e ≡ refused buffer StepBelowZero
    unfolding record_in
    backward h = rw (short, h)

    module _ (forward : is_backward e ≡ false) where
      pub beyond : length buffer < written → record_in buffer written e ≡ refused buffer WrongLength
      unfolding record_in
      beyond h = rw (short, forward, lt-leb written (length buffer) h)

      module _ (inside : written ≤ length buffer) where
        pub unmarked : starts_with mark (take written buffer) ≡ false → record_in buffer written e ≡ refused buffer WrongMark
        unfolding record_in
        unmarked h = rw (short, forward, le-leb written (length buffer) inside, h)

        module _ (marked : starts_with mark (take written buffer) ≡ true) where
          pub unknown : starts_with version (drop 3 (take written buffer)) ≡ false → record_in buffer written e ≡ refused buffer UnknownVersion
          unfolding record_in
          unknown h = rw (short, forward, le-leb written (length buffer) inside, marked, h)

          module _ (known : starts_with version (drop 3 (take written buffer)) ≡ true) where
            pub ragged : ((written - 5) % 8 ≡ 0 → ⊥) → record_in buffer written e ≡ refused buffer WrongLength
            unfolding record_in
            ragged h = rw (short, forward, le-leb written (length buffer) inside, marked, known, le-leb 5 written (head-whole buffer written known), ne_eqb _ _ h)

            module _ (whole : (written - 5) % 8 ≡ 0) where
              pub full : length buffer < written + 8 → record_in buffer written e ≡ refused buffer NoRoom
              unfolding record_in
              full h =
                  rw (short, forward, le-leb written (length buffer) inside, marked, known, le-leb 5 written (head-whole buffer written known), eq-eqb _ _ whole, lt-leb (written + 8) (length buffer) h)

              pub a-record : written + 8 ≤ length buffer → record_in buffer written e ≡ wrote buffer written (record_of (number_behind (take written buffer)) e)
              unfolding record_in
              a-record h =
                  rw (short, forward, le-leb written (length buffer) inside, marked, known, le-leb 5 written (head-whole buffer written known), eq-eqb _ _ whole, le-leb (written + 8) (length buffer) h)
