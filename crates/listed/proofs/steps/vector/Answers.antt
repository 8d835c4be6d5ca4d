-- `listed::steps::vector` meets its contract.
use Rattle.std.proofs.Common.{refl, ap, ◌∙◌, arith}
use Rattle.listed.proofs.ActLaws.{plan-on}
use Rattle.state.specs.Machine.{machine}
use Rattle.listed.proofs.steps.vector.Goals as goal

pub returns : goal.returns
returns c n w =
    let a = c.args in
    let m = machine a.vectors.now a.generals.now w a.c in
    let d = c.dest_of.ensures.0 in
    let p = plan-on n m a.e (omega (arith, c.requires.0)) (omega (arith, c.requires.1)) c.requires.2
    ∙ c.made-v.ensures n w a.c
    in
    rw p (record {
      outcome = ap (λ x. x.outcome) c.finished.ensures;
      control = ap (λ x. x.control)
          c.finished.ensures;
      vec = cc;
      gen = refl;
      work = refl;
    })
