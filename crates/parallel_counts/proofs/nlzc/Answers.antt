-- `parallel_counts::nlzc` meets its contract. The ones of what a full run leaves, or each element by itself.
use borrow.Author.Rules.{rules}
use lib.Count.{count_leading_zeros}
use Rattle.isa.specs.declared.Width.TheVariants.{B, H}
use Rattle.parallel_counts.proofs.Apart.{one_lane}
use Rattle.parallel_counts.proofs.Runs.{runs-more, left_over}
use Rattle.parallel_counts.proofs.nlzc.Goals as goal

pub returns-in-B : goal.returns-in-B
returns-in-B c =
    let other = c.inverse in
    let eight = c.run_8 in
    let top = c in
    let e = top.in-B.is in
    rw e (left_over B top.args.s eight.result other.result
    (rw e at eight.ensures) (rw e at other.ensures) c.pcnt_b.ensures)

pub returns-in-H : goal.returns-in-H
returns-in-H c =
    let other = c.inverse-in-H in
    let sixteen = c.lowered in
    let eight = c.run_8-in-H in
    let top = c in
    let s = top.args.s in
    let e = top.in-H.is in
    let run = runs-more 16 s 8 eight.result (rw e at eight.ensures) (rw e at sixteen.ensures) in
    rw e (left_over H s sixteen.result other.result run (rw e at other.ensures) c.pcnt_h.ensures)

pub returns-in-D : goal.returns-in-D
returns-in-D c =
    let a = c in
    let e = c.in-D.is in
    rw e (one_lane (count_leading_zeros 64) a.args.s a.ranges.s.fits (search rules) (rw e at c.nlzc.ensures))
