-- Document 01's number of each refusal and of each stop, and what a stop carries: the address of request 3/12, and the
-- facts behind 18 and 19 of request 6/12. The promises of set-up, a step, a run and the call of 6/12 are stated through
-- these.
use Rattle.std.specs.Prelude.{ℕ}
use Rattle.isa.specs.Numbers.{unread_number}
use Rattle.state.specs.declared.setup.Refusal.{Refusal}
use Rattle.state.specs.declared.setup.Refusal.TheVariants.{Registers, Program, WindowSize, SharedAddress, State}
use Rattle.state.specs.declared.stops.Stop.{Stop}
use Rattle.state.specs.declared.stops.Stop.TheVariants as stop

abbrev pub refusal_number : Refusal → ℕ
refusal_number Registers = 1
refusal_number Program = 2
refusal_number WindowSize = 3
refusal_number SharedAddress = 4
refusal_number State = 5

abbrev pub stop_number : Stop → ℕ
stop_number stop.NoWord = 11
stop_number (stop.Unread u) = unread_number u
stop_number stop.BranchInSlot = 15
stop_number stop.SwitchedOff = 16
stop_number (stop.NoWindow x) = 17
stop_number (stop.ReadOnly x) = 18
stop_number (stop.Trap bits) = 19

-- what it carries, and 0 where it carries nothing
abbrev pub stop_carried : Stop → ℕ
stop_carried stop.NoWord = 0
stop_carried (stop.Unread u) = 0
stop_carried stop.BranchInSlot = 0
stop_carried stop.SwitchedOff = 0
stop_carried (stop.NoWindow x) = x
stop_carried (stop.ReadOnly x) = x
stop_carried (stop.Trap bits) = bits

-- the missing address, and 0 for every other reason
abbrev pub stop_missing : Stop → ℕ
stop_missing stop.NoWord = 0
stop_missing (stop.Unread u) = 0
stop_missing stop.BranchInSlot = 0
stop_missing stop.SwitchedOff = 0
stop_missing (stop.NoWindow x) = x
stop_missing (stop.ReadOnly x) = 0
stop_missing (stop.Trap bits) = 0
