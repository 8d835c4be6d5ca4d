-- Laws of a step's answer.
use Rattle.std.proofs.Common.{◌≡◌, ℕ, List, refl, ap, ◌∙◌}
use Rattle.state.specs.declared.stops.Stop.{Stop}
use Rattle.state.specs.Machine.{Machine}
use Rattle.machine.specs.declared.step.Stepped.{Stepped}
use Rattle.std.specs.Prelude.{Ok}
use Rattle.machine.specs.declared.step.Answered.{Answered}
use Rattle.machine.specs.Numbers.{answer_number, answer_carried}
use Rattle.machine.specs.Step.{Ending, StepIs, WholeIs, stops, stopped_with, ran_as}

pub stopped-is : (s : Stop) (m : Machine) (r : Stepped) → r ≡ stopped_with s m.ctl → StepIs (stops s m) r m.vec m.gen m.work
stopped-is s m r e = record { outcome = ap (λ x. x.outcome) e; control = ap (λ x. x.control) e; vec = refl; gen = refl; work = refl }

pub ran-is : (s : Ending) (t : Stepped) (r : Answered) (v g w : List ℕ) → StepIs s t v g w → r ≡ ran_as t
    → WholeIs (record { answer = Ok s.outcome; after = s.after }) r v g w
ran-is s t r v g w i e =
    let same = ap (λ x. x.answer) e ∙ ap Ok i.outcome in
    record {
      answer = ap answer_number same;
      carried = ap answer_carried same;
      control = ap (λ x. x.control) e ∙ i.control;
      vec = i.vec;
      gen = i.gen;
      work = i.work;
    }
