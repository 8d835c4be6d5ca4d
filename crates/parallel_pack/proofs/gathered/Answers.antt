-- `parallel_pack::gathered` meets its contract. Runs of one element become runs of two and of four.
use mathlib.Core.Path.{sym}
use Prim.Native.Nat.{ℕ, ◌*◌, ◌^◌, ◌<◌}
use lib.Dec.{lit<}
use Rattle.isa.specs.declared.Width.TheVariants.{H, W, D}
use Rattle.vectors.specs.Register.{element}
use Rattle.vectors.proofs.ElementLaws.{element-below}
use Rattle.vectors.proofs.Sizes.{shares}
use Rattle.parallel.proofs.Words.{same-lanes}
use Rattle.parallel_pack.proofs.Places.{doubles, pushed, run-one, of-run}
use Rattle.parallel_pack.proofs.gathered.Goals as goal

pub returns-in-B : goal.returns-in-B
returns-in-B c =
    let top = c in
    let x = top.args.x in
    let e = c.in-B.is in
    let g : ℕ → ℕ = λ i. element 8 x (i * 2) in
    let below : (i : ℕ) → g i < 2 ^ 8 = λ i. element-below 8 x (i * 2) in
    let y = rw e at top.evens-y.ensures in
    let one = same-lanes (shares H) y (λ j l. sym (run-one 8 g j)) in
    let two = pushed 8 1 g below (doubles H (lit< tt)) one c.moved.ensures in
    rw e (of-run 8 4 g (pushed 8 2 g below (doubles W (lit< tt)) two c.moved-in-B.ensures))

pub returns-in-H : goal.returns-in-H
returns-in-H c =
    let top = c in
    let x = top.args.x in
    let e = c.in-H.is in
    let g : ℕ → ℕ = λ i. element 16 x (i * 2) in
    let y = rw e at top.evens-y.ensures in
    let one = same-lanes (shares W) y (λ j l. sym (run-one 16 g j)) in
    rw e
    (of-run 16 2 g
    (pushed 16 1 g (λ i. element-below 16 x (i * 2)) (doubles W (lit< tt)) one c.moved-in-H.ensures))

pub returns-in-W : goal.returns-in-W
returns-in-W c =
    let top = c in
    let x = top.args.x in
    let e = c.in-W.is in
    let g : ℕ → ℕ = λ i. element 32 x (i * 2) in
    let y = rw e at top.evens-y.ensures in
    rw e (of-run 32 1 g (same-lanes (shares D) y (λ j l. sym (run-one 32 g j))))
