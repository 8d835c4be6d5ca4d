-- Laws of the call `why`.
use Rattle.std.proofs.Common.{◌≡◌, ap}
use Rattle.machine.specs.declared.why.Cause.{Cause}
use Rattle.machine.specs.Numbers.{answer_number, answer_carried}
use Rattle.machine.specs.Why.{WhyIs}

pub meets : {s r : Cause} → r ≡ s → WhyIs s r
meets e =
    record {
      answer = ap (λ x. answer_number x.answer) e;
      carried = ap (λ x. answer_carried x.answer) e;
      word = ap (λ x. x.word) e;
      fact = ap (λ x. x.fact) e;
    }
