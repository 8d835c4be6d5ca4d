-- `listed::steps::quick` meets its contract.
use Rattle.std.proofs.Common.{refl, ap, arith}
use Rattle.listed.proofs.ActLaws.{plan-quick}
use Rattle.state.specs.Machine.{machine}
use Rattle.listed.proofs.steps.quick.Goals as goal

pub returns : goal.returns
returns c n g w =
    let a = c.args in
    let d = c.dest_of.ensures.0 in
    let v = c.quick-v.ensures in
    let t = c.third-t.ensures.exact in
    let s = c.read_register-s.ensures.exact in
    let f = c.source_of.ensures.0 in
    let p = plan-quick n (machine a.vectors.now g w a.c) a.e c.requires.0 (omega (arith, c.requires.1))
    c.requires.2 in
    rw p (record {
      outcome = ap (λ x. x.outcome) c.finished.ensures;
      control = ap (λ x. x.control)
          c.finished.ensures;
      vec = cc;
      gen = refl;
      work = refl;
    })
