-- What stops an instruction, by what its word says of stops and the state that it meets: its plan is not made.
use Rattle.std.specs.Prelude.{ℕ, ◌<◌, List, Ok, Err, Result, ⊤}
use Rattle.isa.specs.declared.Memory.{Memory}
use Rattle.isa.specs.declared.Memory.TheVariants.{Ld, St}
use Rattle.ops.specs.Meaning.{memory_at}
use Rattle.reading.specs.declared.ahead.Ahead.{Ahead}
use Rattle.reading.specs.declared.ahead.Ahead.TheVariants as ahead
use Rattle.state.specs.declared.board.Board.{Board}
use Rattle.state.specs.declared.control.Control.{Control}
use Rattle.state.specs.declared.stops.Stop.TheVariants.{Unread, NoWindow, ReadOnly}
use Rattle.state.specs.declared.windows.Spot.{Spot}
use Rattle.state.specs.declared.windows.Spot.TheVariants.{Table, Work, Outside}
use Rattle.state.specs.Windows.{spot_of}
use Rattle.state.specs.declared.stops.Stop.{Stop}
use Rattle.plan.specs.Numbers.{address}
use Rattle.plan.specs.Plan.{general_at, to_control, switched_early, branch_early, stop_in}

-- two reasons, if any: the first is told
abbrev pub first : Result ⊤ Stop → Result ⊤ Stop → Result ⊤ Stop
first (Ok tt) e = e
first (Err s) e = Err s

-- LD and ST of the sixteen bytes from a: 18 stops ST in the table, and 17 both where no window holds them all
abbrev pub table_early : Memory → ℕ → Result ⊤ Stop
table_early Ld a = Ok tt
table_early St a = Err (ReadOnly a)

abbrev pub place_early : Memory → ℕ → Spot → Result ⊤ Stop
place_early o a (Table i) = table_early o a
place_early o a (Work i) = Ok tt
place_early o a (Outside x) = Err (NoWindow x)

-- table and work are the lengths of the windows
abbrev pub stop_ahead : Ahead → Board → ℕ → List ℕ → ℕ → Control → Result ⊤ Stop
stop_ahead (ahead.Not u) b table g work c = Err (Unread u)
stop_ahead ahead.Free b table g work c = Ok tt
stop_ahead ahead.Branch b table g work c = branch_early c.mark c.on
stop_ahead ahead.Vector b table g work c = switched_early c.on
stop_ahead (ahead.Control cd rs) b table g work c =
    first (switched_early c.on) (stop_in (to_control cd.0 (general_at g rs)))
stop_ahead (ahead.Memory o df offset rs) b table g work c =
    let a : ℕ = address df offset (general_at g rs) in
    first (switched_early c.on) (place_early (memory_at o.0) a (spot_of b table work a))

-- the offset of a load or a store is within its ten bits
abbrev pub Within : Ahead → Type 0
Within (ahead.Not u) = Unit {0}
Within ahead.Free = Unit {0}
Within ahead.Branch = Unit {0}
Within ahead.Vector = Unit {0}
Within (ahead.Control cd rs) = Unit {0}
Within (ahead.Memory o df offset rs) = offset < 1024
