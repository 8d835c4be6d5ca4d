-- What holds of each lane of a destination after a finished step: of the machine before the step, the lane's number and
-- the lane after it.
use Rattle.std.specs.Prelude.{◌≡◌, List, ℕ, ◌/◌, ◌<◌, Ok, Some}
use Rattle.isa.specs.declared.Instr.{Instr}
use Rattle.isa.specs.declared.Vreg.{Vreg}
use Rattle.isa.specs.declared.Width.{Width}
use Rattle.isa.specs.Widths.{bits}
use Rattle.memory.specs.File.{register_at}
use Rattle.reading.specs.Reading.{read_of}
use Rattle.state.specs.Fetch.{fetched}
use Rattle.state.specs.Machine.{Env, Machine}
use Rattle.state.specs.Setup.{refusal}
use Rattle.vectors.specs.Register.{element}
use Rattle.machine.specs.Step.{step_of}

-- element i of a register
abbrev pub lane_at : Width → List ℕ → Vreg → ℕ → ℕ
lane_at df file r i = element (bits df) (register_at file r) i

abbrev pub EachLane : Instr → Width → Vreg → (Machine → ℕ → ℕ → Type 0) → Type 0
EachLane instruction df wd P =
    (p : List ℕ) (e : Env) (m : Machine) (w : ℕ)
    → refusal p e m ≡ Ok tt
    → fetched p e.board.program m.ctl.pc ≡ Some w
    → read_of w ≡ Ok instruction
    → (step_of p e m).outcome ≡ Ok tt
    → (i : ℕ)
    → i < 128 / bits df
    → P m i (lane_at df (step_of p e m).after.vec wd i)
