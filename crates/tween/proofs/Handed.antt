-- "Each refusal hands back the record unchanged"; and an accepted call touches nothing but what it is to change: given back, that gives back the tween. Assumes nothing.
use Rattle.std.specs.Prelude.{Ok, Result}
use Rattle.std.proofs.Common.{◌≡◌, refl, subst, Err}
use lib.Ieee.{Float, is_nan}
use Rattle.math.specs.Range.{max_zero_of}
use Rattle.math.proofs.Choice.{by-test}
use Rattle.refusal.specs.declared.Refusal.TheVariants.{RecordBreaksLimit, ProgressIsNan}
use Rattle.tween.specs.declared.record.Tween.{Tween}
use Rattle.tween.specs.declared.answers.Updated.{Updated}
use Rattle.tween.specs.Parts.{with_ends, put, snapshot_in, moved}
use Rattle.tween.specs.Limits.{within_of}
use Rattle.tween.specs.Calls.{limited, sought_in, reset_of, seek_of, reverse_of, pause_of, resume_of}
use Rattle.tween.specs.Update.{update_of}
use Rattle.tween.specs.Promises.{HandsBack, ResetHandsBack, SeekHandsBack, ReverseHandsBack, PauseHandsBack, ResumeHandsBack, HandsBackUpdated, UpdateHandsBack, ResetTouches, UpdateTouches, SeekTouches, ReverseTouches, PauseTouches, ResumeTouches, sum_by}
use Rattle.tween.proofs.Ways.{by-advanced, by-update}
use Rattle.refusal.specs.declared.rejected.Rejected.{Rejected}
use Rattle.refusal.specs.Refusing.{rejected}

-- f makes t again of the tween that an accepted call hands back; a refusal hands t itself back
abbrev Gives : (Tween → Tween) → Tween → Result Tween (Rejected Tween) → Type 0
Gives f t (Ok u) = f u ≡ t
Gives f t (Err o) = o.value ≡ t

abbrev UpdateGives : (Tween → Tween) → Tween → Result Updated (Rejected Tween) → Type 0
UpdateGives f t (Ok o) = f o.tween ≡ t
UpdateGives f t (Err o) = o.value ≡ t

hands : (f : Tween → Tween) (t : Tween) (a : Result Tween (Rejected Tween)) → Gives f t a → HandsBack t a
hands f t (Ok u) h = tt
hands f t (Err o) h = h

-- what each call changes, given back
abbrev state-back : Tween → Tween → Tween
state-back t u = put (moved u.elapsed t.state u) u

abbrev sought-back : Tween → Tween → Tween
sought-back t u = put (moved t.elapsed t.state u) u

abbrev turned-back : Tween → Tween → Tween
turned-back t u = with_ends u.end u.start (moved t.elapsed t.state u) u

abbrev moved_back : Tween → Tween → Tween
moved_back t u = put (snapshot_in t) u

module _ (t : Tween) where
  gives : (f : Tween → Tween) (u : Tween) → f u ≡ t → Gives f t (limited t (Ok u))
  gives f u h = by-test (Gives f t) (within_of t) (Ok u) (rejected t RecordBreaksLimit) (λ _. h) (λ _. refl)

  reset-gives : Gives (moved_back t) t (reset_of t)
  unfolding reset_of
  reset-gives = gives (moved_back t) _ refl

  seek-gives : (p : Float) → Gives (sought-back t) t (seek_of t p)
  unfolding seek_of
  seek-gives p =
      by-test (Gives (sought-back t) t) (within_of t) _ _
      (λ _. by-test (Gives (sought-back t) t) (is_nan p) (rejected t ProgressIsNan) (Ok (sought_in t p)) (λ _. refl) (λ _. refl)) (λ _. refl)

  reverse-gives : Gives (turned-back t) t (reverse_of t)
  unfolding reverse_of
  reverse-gives = gives (turned-back t) _ refl

  pause-gives : Gives (state-back t) t (pause_of t)
  unfolding pause_of
  pause-gives = gives (state-back t) _ refl

  resume-gives : Gives (state-back t) t (resume_of t)
  unfolding resume_of
  resume-gives = gives (state-back t) _ refl

pub reset-hands-back : ResetHandsBack
reset-hands-back t = hands (moved_back t) t (reset_of t) (reset-gives t)

pub seek-hands-back : SeekHandsBack
seek-hands-back t p = hands (sought-back t) t (seek_of t p) (seek-gives t p)

pub reverse-hands-back : ReverseHandsBack
reverse-hands-back t = hands (turned-back t) t (reverse_of t) (reverse-gives t)

pub pause-hands-back : PauseHandsBack
pause-hands-back t = hands (state-back t) t (pause_of t) (pause-gives t)

pub resume-hands-back : ResumeHandsBack
resume-hands-back t = hands (state-back t) t (resume_of t) (resume-gives t)

pub reset-touches : ResetTouches
reset-touches t u e = subst (Gives (moved_back t) t) e (reset-gives t)

pub seek-touches : SeekTouches
seek-touches t u p e = subst (Gives (sought-back t) t) e (seek-gives t p)

pub reverse-touches : ReverseTouches
reverse-touches t u e = subst (Gives (turned-back t) t) e (reverse-gives t)

pub pause-touches : PauseTouches
pause-touches t u e = subst (Gives (state-back t) t) e (pause-gives t)

pub resume-touches : ResumeTouches
resume-touches t u e = subst (Gives (state-back t) t) e (resume-gives t)

-- update: what moves
abbrev Kept : Tween → Result Updated (Rejected Tween) → Type 0
Kept t a = UpdateGives (moved_back t) t a

update-gives : (t : Tween) (x : Float) → Kept t (update_of t x)
update-gives t x = by-update (Kept t) t refl refl refl (λ _. refl) (λ _. refl) (λ w. refl) x (λ w. by-advanced (Kept t) t w (sum_by (max_zero_of x) t t.state) (λ _. refl) (λ _ _. refl) (λ _. refl))

pub update-hands-back : UpdateHandsBack
update-hands-back t x = go (update_of t x) (update-gives t x)
  where
    go : (a : Result Updated (Rejected Tween)) → Kept t a → HandsBackUpdated t a
    go (Ok o) h = tt
    go (Err o) h = h

pub update-touches : UpdateTouches
update-touches t u x k r e = subst (Kept t) e (update-gives t x)
