-- `with` puts bytes behind a text. Assumes nothing.
use Rattle.std.proofs.Common.{◌+◌, ◌-◌, arith, length, ◌∙◌, refl}
use Rattle.std.proofs.lemmas.Slice.{put_mid-paste}
use Rattle.decimal.proofs.Texts.{with-behind}
use Rattle.decimal.proofs.text.Text.with.Goals as goal

pub returns : goal.returns
returns c = λ s h. let t = c.args.self in
    let v = c.args.more.now in
    let w = with-behind t s v h c.requires in
    (put_mid-paste t.length (t.length + length v - t.length) t.bytes _ v (length v) c.copy_from_slice.ensures.after (omega arith) refl ∙ w.0, w.1)
