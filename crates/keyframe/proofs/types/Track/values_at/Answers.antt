-- `values_at` meets its contract, by what `fill_values` ensures. Assumes nothing.
use Rattle.std.proofs.Common.{sym, refl, arith, length-take-le}
use Rattle.keyframe.proofs.Batches.{count_fits}
use Rattle.keyframe.proofs.types.Track.values_at.Goals as goal

pub slice_bounds-result-end : goal.slice_bounds-result-end
slice_bounds-result-end c = let f = count_fits c.args.self c.args.times.now c.args.out.now in
    let k = c.fill_values-answer.auto.out in rw c.fill_values-answer.ensures.answer (sym (length-take-le _ _ (omega (arith, f, k))))

pub returns : goal.returns
returns c =
    let e = c.fill_values-answer.ensures in
    record { front = rw (e.answer, e.output) refl; place = refl; number = rw e.answer refl; unsettled = rw e.answer refl }
