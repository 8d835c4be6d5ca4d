-- Document 01's number for each answer of a step and of a run, what its stop carries, and the address that 17 names.
use Rattle.std.specs.Prelude.{ℕ, Ok, Err, Result, ⊤}
use Rattle.state.specs.declared.stops.Stop.{Stop}
use Rattle.state.specs.Numbers.{refusal_number, stop_number, stop_carried, stop_missing}
use Rattle.state.specs.declared.setup.Refusal.{Refusal}
use Rattle.machine.specs.declared.run.Reason.{Reason}
use Rattle.machine.specs.declared.run.Reason.TheVariants as reason

-- what is said of the stop that ends a step or a run; 0 where no stop does
abbrev pub of_outcome : (Stop → ℕ) → Result ⊤ Stop → ℕ
of_outcome f (Ok tt) = 0
of_outcome f (Err s) = f s

abbrev pub of_answer : (Stop → ℕ) → Result (Result ⊤ Stop) Refusal → ℕ
of_answer f (Err r) = 0
of_answer f (Ok o) = of_outcome f o

abbrev pub of_reason : (Stop → ℕ) → Reason → ℕ
of_reason f (reason.Refused r) = 0
of_reason f (reason.Stopped s) = f s
of_reason f reason.Spent = 0

-- the number: 0 where the instruction is finished
abbrev pub outcome_number : Result ⊤ Stop → ℕ
outcome_number o = of_outcome stop_number o

abbrev pub answer_number : Result (Result ⊤ Stop) Refusal → ℕ
answer_number (Err r) = refusal_number r
answer_number (Ok o) = outcome_number o

abbrev pub reason_number : Reason → ℕ
reason_number (reason.Refused r) = refusal_number r
reason_number (reason.Stopped s) = stop_number s
reason_number reason.Spent = 20

-- what the stop carries
abbrev pub outcome_carried : Result ⊤ Stop → ℕ
outcome_carried o = of_outcome stop_carried o

abbrev pub answer_carried : Result (Result ⊤ Stop) Refusal → ℕ
answer_carried a = of_answer stop_carried a

abbrev pub reason_carried : Reason → ℕ
reason_carried r = of_reason stop_carried r

-- the missing address
abbrev pub outcome_missing : Result ⊤ Stop → ℕ
outcome_missing o = of_outcome stop_missing o

abbrev pub answer_missing : Result (Result ⊤ Stop) Refusal → ℕ
answer_missing a = of_answer stop_missing a

abbrev pub reason_missing : Reason → ℕ
reason_missing r = of_reason stop_missing r
