-- A step ends as its word says of stops, whatever the vector registers hold. Assumes nothing.
use Rattle.std.proofs.Common.{◌≡◌, ℕ, List, length, refl}
use Rattle.std.specs.Prelude.{Ok, Err, Some, None, Result, Option}
use Rattle.isa.specs.declared.Unread.{Unread}
use Rattle.isa.specs.declared.Instr.{Instr}
use Rattle.plan.specs.Ahead.{stop_ahead}
use Rattle.plan.proofs.AheadLaws.{planned-stops}
use Rattle.reading.specs.Ahead.{ahead_of}
use Rattle.reading.specs.Reading.{read_of}
use Rattle.state.specs.declared.board.Board.{Board}
use Rattle.state.specs.declared.control.Control.{Control}
use Rattle.state.specs.Fetch.{fetched}
use Rattle.state.specs.Machine.{Env, Machine, env, machine}
use Rattle.machine.specs.Ahead.{end_at, end_of}
use Rattle.machine.specs.Step.{decided, attempted, step_of}

module _ (b : Board) (t v g w : List ℕ) (c : Control) where
  abbrev here : Env
  here = env b t

  abbrev whole : Machine
  whole = machine v g w c

  decided-ends : (r : Result Instr Unread)
      → (decided r here whole).outcome ≡ stop_ahead (ahead_of r) b (length t) g (length w) c
  decided-ends (Err u) = refl
  decided-ends (Ok i) = planned-stops b t v g w c i

  attempted-ends : (f : Option ℕ) → (attempted f here whole).outcome ≡ end_at f b t g w c
  attempted-ends (Some x) = decided-ends (read_of x)
  attempted-ends None = refl

  pub step-ends : (p : List ℕ) → (step_of p here whole).outcome ≡ end_of p b t g w c
  unfolding step_of
  step-ends p = attempted-ends (fetched p b.program c.pc)
