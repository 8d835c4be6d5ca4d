-- `parallel_counts::run_8` meets its contract. Runs of 1, 2 and 4 become runs of twice as many.
use Rattle.isa.specs.Widths.{bits}
use Rattle.parallel_counts.proofs.Runs.{runs-first, runs-more}
use Rattle.parallel_counts.proofs.run_8.Goals as goal

pub returns : goal.returns
returns c =
    let first = c.lowered in
    let second = c.lowered-2 in
    let a = c.args in
    let n = bits a.w in
    let s = a.s in
    let two = runs-more n s 1 s (runs-first n s) first.ensures in
    let four = runs-more n s 2 first.result two second.ensures in
    runs-more n s 4 second.result four c.lowered-3.ensures
