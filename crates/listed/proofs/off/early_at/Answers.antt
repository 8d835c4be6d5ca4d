-- `listed::off::early_at` meets its contract.
use Rattle.std.proofs.Common.{arith, le-ltb, lt-ltb}
use Rattle.listed.proofs.ActLaws.{branching, neither}
use Rattle.listed.proofs.off.early_at.Goals as goal

pub returns-in-1 : goal.returns-in-1
returns-in-1 c =
    let k = c.args.k in
    rw (le-ltb k 2 (omega (arith, c.in-1.is)), lt-ltb k 4 (omega (arith, c.in-1.is)))

pub returns-in-2 : goal.returns-in-2
returns-in-2 c =
    let k = c.args.k in
    rw (branching k (omega (arith, c.in-2.is)) (omega (arith, c.in-2.is)))
    c.branch_early.ensures

pub returns-in-3 : goal.returns-in-3
returns-in-3 c =
    let k = c.args.k in
    rw (branching k (omega (arith, c.in-3.is)) (omega (arith, c.in-3.is)))
    c.branch_early-in-3.ensures

pub returns-in_default : goal.returns-in_default
returns-in_default c = let r = c.in_default.in_default-own.rest in rw (neither c.args.k r.0.0.1 r.0.1 r.1)
