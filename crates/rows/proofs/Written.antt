-- Words written one list behind the other. Assumes nothing.
use Prim.Native.Nat.{ℕ, ◌+◌, ◌<◌}
use mathlib.Core.Path.{◌≡◌, refl}
use mathlib.Core.List.{List, [], ◌∷◌, ◌++◌, append_assoc}
use native.Mathlib.Numerals.{add-one}
use lib.ListN.{length, take, get_or}
use lib.Seq.{take-suc}
use Rattle.words.specs.declared.tracks.LaxKeyframe.{LaxKeyframe}
use Rattle.rows.specs.declared.entries.Row.{Row}
use Rattle.rows.specs.Words.{put_all, put_of}
use Rattle.rows.specs.Written.{frame_list, frames_list}

put-append : (p : Row) (vs ws : List ℕ) → put_all (put_all p vs) ws ≡ put_all p (vs ++ ws)
unfolding put_all
put-append p [] ws = refl
put-append p (v ∷ vs) ws = put-append (put_of p v) vs ws

pub frames-snoc : (ks : List LaxKeyframe) (k : LaxKeyframe) → frames_list (ks ++ (k ∷ [])) ≡ frames_list ks ++ frame_list k
unfolding frames_list
frames-snoc [] k = refl
frames-snoc (j ∷ ks) k = rw (frames-snoc ks k, append_assoc) refl

-- of a list whose every element is written, the next element
pub put-more : {A : Type 0} (all : List A → List ℕ) (one : A → List ℕ) (snoc : (l : List A) (x : A) → all (l ++ (x ∷ [])) ≡ all l ++ one x) (p : Row) (l : List A) (d : A) (i : ℕ) → i < length l → put_all (put_all p (all (take i l))) (one (get_or l i d)) ≡ put_all p (all (take (i + 1) l))
put-more all one snoc p l d i h = rw (add-one, take-suc l i d h, snoc) (put-append p (all (take i l)) (one (get_or l i d)))
