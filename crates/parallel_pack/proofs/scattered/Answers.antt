-- `parallel_pack::scattered` meets its contract. One run becomes runs of two and of one element.
use lib.Dec.{lit<}
use Rattle.isa.specs.declared.Width.TheVariants.{B, H, W, D}
use Rattle.vectors.specs.Register.{element}
use Rattle.vectors.proofs.ElementLaws.{element-below}
use Rattle.vectors.proofs.Sizes.{shares}
use Rattle.parallel.proofs.Words.{same-lanes}
use Rattle.parallel_pack.proofs.Places.{doubles, drawn, run-one, half-run}
use Rattle.parallel_pack.proofs.scattered.Goals as goal

pub returns-in-B : goal.returns-in-B
returns-in-B c =
    let top = c in
    let x = top.args.x in
    let g = element 8 x in
    rw c.in-B.is
    (same-lanes (shares H)
    (drawn 8 1 g (element-below 8 x) (doubles H (lit< tt))
    (drawn 8 2 g (element-below 8 x) (doubles W (lit< tt)) (half-run (doubles B (lit< tt)) x top.requires.1)
    c.moved.ensures)
    c.moved-in-B.ensures)
    (λ j l. run-one 8 g j))

pub returns-in-H : goal.returns-in-H
returns-in-H c =
    let top = c in
    let x = top.args.x in
    let g = element 16 x in
    rw c.in-H.is
    (same-lanes (shares W)
    (drawn 16 1 g (element-below 16 x) (doubles W (lit< tt)) (half-run (doubles H (lit< tt)) x top.requires.1)
    c.moved-in-H.ensures)
    (λ j l. run-one 16 g j))

pub returns-in-W : goal.returns-in-W
returns-in-W c =
    let top = c in
    let x = top.args.x in
    rw c.in-W.is
    (same-lanes (shares D) (half-run (doubles W (lit< tt)) x top.requires.1) (λ j l. run-one 32 (element 32 x) j))
