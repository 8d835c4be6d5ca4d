-- Three worked programs of two words: a branch at word 0 that is always taken, since $w0 is 0, and its slot.
-- Offset 2 goes forward, here past 2^64: the slot is done and the run is over. It takes the whole bound, so no smaller
-- budget would do. Offset 0 leads to the slot again: it is done twice, and budget n - i + 1 answers 20. Offset -1 leads
-- back to the branch: the run never stops by itself, and answers 20 whatever the budget.
use Rattle.std.specs.Prelude.{◌≡◌, true, List, [], ◌++◌, ℕ, ◌-◌, ◌^◌, replicate}
use Rattle.budget.specs.Budget.{budget_of}
use Rattle.order.specs.declared.Order.TheVariants.{Little}
use Rattle.state.specs.declared.control.Mark.TheVariants.{Clear}
use Rattle.state.specs.declared.stops.Stop.TheVariants.{NoWord}
use Rattle.state.specs.Machine.{Env, env, Machine, machine}
use Rattle.machine.specs.declared.run.Reason.{Reason}
use Rattle.machine.specs.declared.run.Reason.TheVariants.{Stopped, Spent}
use Rattle.machine.specs.Run.{Run, whole_run}
use Rattle.demands.specs.Echoes.{word}

-- no windows
abbrev pub lap_env : ℕ → Env
lap_env base = env (record { program = base; table = 0; work = 0; order = Little }) []

-- at the counter pc, registers of zeros but $w1
abbrev pub lap_machine : ℕ → ℕ → Machine
lap_machine pc x =
    machine (replicate 16 0 ++ replicate 16 x ++ replicate 480 0) (replicate 256 0) []
    (record { pc = pc; mark = Clear; csr = 0; on = true })

-- a run from word 0
abbrev pub lap : List ℕ → ℕ → ℕ → Run
lap p base budget = whole_run p (lap_env base) budget (lap_machine base 0)

-- how it ended: the reason, the count, the counter, and each byte of $w1
abbrev pub over : Reason → ℕ → ℕ → ℕ → Run
over r n pc x = record { reason = r; count = n; after = lap_machine pc x }

-- BZ.V $w0,2 and ADDVI.B $w1,$w1,1, from 2^64 - 8: the target, 2^64 + 4, is 4
abbrev pub beyond : List ℕ
beyond = word 0x45600002 ++ word 0x78010846

abbrev pub Beyond : Type 0
Beyond =
    (budget_of beyond (2 ^ 64 - 8) (2 ^ 64 - 8) ≡ 3)
    × (lap beyond (2 ^ 64 - 8) 3 ≡ over (Stopped NoWord) 2 4 1)
    × (lap beyond (2 ^ 64 - 8) 2 ≡ over Spent 2 4 1)

-- BZ.V $w0,0 and ADDVI.B $w1,$w1,1: it is added twice
abbrev pub twice : List ℕ
twice = word 0x45600000 ++ word 0x78010846

abbrev pub Twice : Type 0
Twice =
    (budget_of twice 0 0 ≡ 0)
    × (lap twice 0 3 ≡ over Spent 3 8 2)
    × (lap twice 0 4 ≡ over (Stopped NoWord) 3 8 2)

-- BZ.V $w0,-1 and MOVE.V $w1,$w1
abbrev pub endless : List ℕ
endless = word 0x4560FFFF ++ word 0x78BE0859

abbrev pub Endless : Type 0
Endless =
    (budget_of endless 0 0 ≡ 0)
    × ((budget : ℕ) → ((lap endless 0 budget).reason ≡ Spent) × ((lap endless 0 budget).count ≡ budget))
