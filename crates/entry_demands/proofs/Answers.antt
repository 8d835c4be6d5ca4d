-- The answers of the C entry are those of the definition's step and run, in the numbers that it makes of them. Assumes
-- nothing.
use Rattle.demands.proofs.Answers.{step-first, run-first}
use Rattle.demands.proofs.Missing.{step-names, run-names}
use Rattle.entry_demands.specs.Answers.{StepCalled, RunCalled, StepMissingCalled, RunMissingCalled}
use Rattle.entry_demands.specs.Calls.{env_of, machine_of}
use Rattle.entry_demands.proofs.GoesOn.{left-machine}

pub step-called : StepCalled
step-called g x y r i = rw i.reason (step-first g.program (env_of g x) (machine_of x))

pub run-called : RunCalled
run-called g budget x y r bytes i =
    rw (i.reason, i.count, left-machine g budget x bytes r y i)
    (run-first g.program (env_of g x) budget (machine_of x))

pub step-missing-called : StepMissingCalled
step-missing-called g x y r i = rw (i.reason, i.missing) (step-names g.program (env_of g x) (machine_of x))

pub run-missing-called : RunMissingCalled
run-missing-called g budget x y r bytes i =
    rw (i.reason, i.missing, left-machine g budget x bytes r y i)
    (run-names g.program (env_of g x) budget (machine_of x))
