-- What `msa_why` answers: document 01's number, what kind of fact stands behind it, the word and the fact.
use Rattle.std.specs.Prelude.{ℕ, Result, ⊤}
use Rattle.state.specs.declared.stops.Stop.{Stop}
use Rattle.state.specs.declared.stops.Stop.TheVariants as stop
use Rattle.state.specs.declared.setup.Refusal.{Refusal}
use Rattle.machine.specs.declared.why.Cause.{Cause}
use Rattle.machine.specs.Numbers.{of_answer, answer_number}
use Rattle.entry.specs.declared.MsaWhy.{MsaWhy}

-- 1 the counter, 2 the word, 3 the switch, 4 an address, 5 trap bits
abbrev pub stop_kind : Stop → ℕ
stop_kind stop.NoWord = 1
stop_kind (stop.Unread u) = 2
stop_kind stop.BranchInSlot = 2
stop_kind stop.SwitchedOff = 3
stop_kind (stop.NoWindow x) = 4
stop_kind (stop.ReadOnly x) = 4
stop_kind (stop.Trap bits) = 5

-- 0 where there is no fact: the set-up is refused, or the step would be finished
abbrev pub answer_kind : Result (Result ⊤ Stop) Refusal → ℕ
answer_kind a = of_answer stop_kind a

abbrev pub explained : Cause → MsaWhy
explained y =
    record { number = answer_number y.answer; kind = answer_kind y.answer; word = y.word; fact = y.fact }
