-- `listed::common::summed` meets its contract.
use Rattle.std.proofs.Common.{refl, ap}
use Rattle.listed.proofs.common.summed.Goals as goal

pub returns : goal.returns
returns c n v w =
    let d = c.dest_of.ensures.0 in
    let sum = c.scaled_of-sum.ensures in
    let sa = c.imm_of.ensures.0 in
    let y = c.general-y.ensures in
    let t = c.third_of.ensures.0 in
    let x = c.general-x.ensures in
    let s = c.source_of.ensures.0 in
    record {
      outcome = ap (λ x. x.outcome) c.finished.ensures;
      control = ap (λ x. x.control)
          c.finished.ensures;
      vec = refl;
      gen = cc;
      work = refl;
    }
