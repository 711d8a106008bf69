-- The calls of an easing: the easing read from its six words, the library's definition, and what goes into the lent place.
use Rattle.std.specs.Prelude.{ℕ, List, [], ◌∷◌, get_or, Float, Bool, Err, None, Ok, Option, Result, Some}
use Rattle.math.specs.Bits.{bits_of}
use Rattle.refusal.specs.Refusing.{unless}
use Rattle.easing.specs.declared.kinds.Easing.{Easing}
use Rattle.easing.specs.declared.kinds.Easing.TheVariants.{Linear}
use Rattle.easing.specs.Kinds.{supplied_of, all_named}
use Rattle.easing.specs.Apply.{apply_of, eq_of}
use Rattle.words.specs.declared.kinds.LaxEasing.{LaxEasing}
use Rattle.words.specs.Kinds.{is_kind, easing_from, easing_words}
use Rattle.words.specs.Lent.{easing_at}
use Rattle.capi.specs.Answers.{Answer, accepted, refused, unknown, found_in, flag_in}
use Rattle.refusal.specs.declared.Refusal.{Refusal}

abbrev pub on_easing : {A : Type 0} → Option Easing → A → (Easing → Answer A) → Answer A
on_easing (Some e) came answer = answer e
on_easing None came answer = unknown came

unfoldable pub lax_easing_apply : List ℕ → Float → List ℕ → Answer (List ℕ)
lax_easing_apply ws t out = on_easing (easing_from (easing_at ws 0)) out (λ e. found_in out (apply_of e t))

unfoldable pub equality_in : ℕ → Result Bool Refusal → Answer ℕ
equality_in out (Ok b) = flag_in b
equality_in out (Err r) = refused out r

unfoldable pub lax_easing_eq : List ℕ → List ℕ → ℕ → Answer ℕ
lax_easing_eq vs ws out =
    on_easing (easing_from (easing_at vs 0)) out (λ x.
    on_easing (easing_from (easing_at ws 0)) out (λ y. equality_in out (eq_of x y)))

unfoldable pub lax_easing_is_supplied : List ℕ → ℕ → Answer ℕ
lax_easing_is_supplied ws out = on_easing (easing_from (easing_at ws 0)) out (λ e. flag_in (supplied_of e))

-- an easing as six words
abbrev pub easing_list : LaxEasing → List ℕ
easing_list w = w.kind ∷ bits_of w.a ∷ bits_of w.b ∷ bits_of w.c ∷ bits_of w.d ∷ w.count ∷ []

-- a place beyond 37 is no kind
unfoldable pub lax_easing_named : ℕ → List ℕ → Answer (List ℕ)
lax_easing_named k out = unless (is_kind k) (unknown out) (accepted (easing_list (easing_words (get_or all_named k Linear))))
