-- The words that a record is written as, in the order of its fields.
use Rattle.std.specs.Prelude.{ℕ, List, [], ◌∷◌, ◌++◌, take}
use Rattle.words.specs.declared.kinds.LaxEasing.{LaxEasing}
use Rattle.words.specs.declared.tweens.LaxTween.{LaxTween}
use Rattle.words.specs.declared.tracks.LaxKeyframe.{LaxKeyframe}
use Rattle.words.specs.declared.tracks.LaxTrack.{LaxTrack}
use Rattle.words.specs.Tracks.{places_in}
use Rattle.rows.specs.Words.{word_of}

abbrev pub easing_list : LaxEasing → List ℕ
easing_list e = e.kind ∷ word_of e.a ∷ word_of e.b ∷ word_of e.c ∷ word_of e.d ∷ e.count ∷ []

-- what stays while a tween runs
abbrev pub settings_list : LaxTween → List ℕ
settings_list w =
    word_of w.start ∷ word_of w.end ∷ word_of w.duration
    ∷ (easing_list w.easing ++ (word_of w.delay ∷ word_of w.time_scale ∷ w.looping.mode ∷ w.looping.passes ∷ []))

abbrev pub tween_list : LaxTween → List ℕ
tween_list w =
    settings_list w
    ++ (word_of w.elapsed ∷ word_of w.delay_elapsed ∷ w.state ∷ w.loop_count ∷ w.ping_pong_reverse ∷ [])

abbrev pub frame_list : LaxKeyframe → List ℕ
frame_list k = word_of k.time ∷ word_of k.value ∷ easing_list k.easing

unfoldable pub frames_list : List LaxKeyframe → List ℕ
frames_list [] = []
frames_list (k ∷ ks) = frame_list k ++ frames_list ks

-- its head, then its frames
abbrev pub track_list : LaxTrack → List ℕ
track_list w =
    w.count ∷ word_of w.elapsed ∷ w.looping.mode ∷ w.looping.passes ∷ w.loop_count ∷ w.complete
    ∷ frames_list (take (places_in w.count) w.frames)
