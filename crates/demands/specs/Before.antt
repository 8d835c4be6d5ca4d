-- Request 7/12: in little-endian order a step is what it was before the request. These are the lines of load and store
-- of that time; every other line of the plan is the one of today.
use Rattle.std.specs.Prelude.{◌≡◌, List, ℕ, length, Ok, Err, Some, None, Result, Option}
use Rattle.isa.specs.declared.Instr.{Instr}
use Rattle.isa.specs.declared.Memory.{Memory}
use Rattle.isa.specs.declared.Memory.TheVariants.{Ld, St}
use Rattle.isa.specs.declared.Vreg.{Vreg}
use Rattle.isa.specs.declared.Width.{Width}
use Rattle.memory.specs.Bytes.{part, number}
use Rattle.memory.specs.File.{register_at}
use Rattle.memory.specs.Value.{register}
use Rattle.order.specs.declared.Order.TheVariants.{Little}
use Rattle.plan.specs.declared.Plan.{Plan}
use Rattle.plan.specs.declared.Plan.TheVariants as plan
use Rattle.plan.specs.Plan.{executed_by, writes, kind_of, early, unless}
use Rattle.reading.specs.Reading.{read_of}
use Rattle.isa.specs.declared.Unread as unread
use Rattle.state.specs.declared.stops.Stop.TheVariants.{NoWord, Unread, NoWindow, ReadOnly}
use Rattle.state.specs.declared.windows.Spot.{Spot}
use Rattle.state.specs.declared.windows.Spot.TheVariants.{Table, Work, Outside}
use Rattle.state.specs.Fetch.{fetched}
use Rattle.state.specs.Machine.{Env, Machine}
use Rattle.state.specs.Windows.{spot_of}
use Rattle.machine.specs.Step.{Ending, stops, concluded, step_of}

abbrev pub loaded_before : Spot → Vreg → List ℕ → List ℕ → Plan
loaded_before (Table i) wd table work = writes wd (number (part table i 16))
loaded_before (Work i) wd table work = writes wd (number (part work i 16))
loaded_before (Outside x) wd table work = plan.Stop (NoWindow x)

abbrev pub stored_before : Spot → ℕ → ℕ → Plan
stored_before (Table i) a x = plan.Stop (ReadOnly a)
stored_before (Work i) a x = plan.Store a (register x)
stored_before (Outside y) a x = plan.Stop (NoWindow y)

abbrev pub accessed_before : Env → Machine → Memory → Width → Vreg → ℕ → Plan
accessed_before e m Ld df wd a =
    loaded_before (spot_of e.board (length e.table) (length m.work) a) wd e.table m.work
accessed_before e m St df wd a =
    stored_before (spot_of e.board (length e.table) (length m.work) a) a (register_at m.vec wd)

abbrev pub plan_before : Env → Machine → Instr → Plan
plan_before e m i =
    unless (early (kind_of i) m.ctl.mark m.ctl.on) (executed_by (accessed_before e m) m i)

abbrev pub decided_before : Result Instr unread.Unread → Env → Machine → Ending
decided_before (Err u) e m = stops (Unread u) m
decided_before (Ok i) e m = concluded e.board.work (plan_before e m i) m

abbrev pub attempted_before : Option ℕ → Env → Machine → Ending
attempted_before (Some w) e m = decided_before (read_of w) e m
attempted_before None e m = stops NoWord m

abbrev pub step_before : List ℕ → Env → Machine → Ending
step_before p e m = attempted_before (fetched p e.board.program m.ctl.pc) e m

abbrev pub LittleStep : Type 0
LittleStep = (p : List ℕ) (e : Env) (m : Machine) → e.board.order ≡ Little → step_of p e m ≡ step_before p e m
