-- The three worked programs, by computing; the endless one by induction on the budget, over its two machines. Assumes
-- nothing.
use mathlib.Core.Path.{◌≡◌, refl}
use mathlib.Core.Bool.{true}
use mathlib.Core.List.{[]}
use Prim.Native.Nat.{ℕ, zero, suc}
use native.Mathlib.Omega.{arith}
use Rattle.budget.specs.Budget.{budget_of, forward_to, ahead}
use Rattle.element.specs.Value.{signed, wrap}
use Rattle.each.specs.Lanes.{each_lane}
use Rattle.linear.specs.Sums.{addv}
use Rattle.memory.specs.Bytes.{number, replaced, bytes_of}
use Rattle.memory.specs.File.{register_at, with_register}
use Rattle.memory.specs.Value.{register}
use Rattle.ops.specs.Meaning.{imm5_at, zero_at}
use Rattle.ops.specs.Table.{row_at}
use Rattle.plan.specs.Numbers.{target}
use Rattle.plan.specs.Plan.{plan_of}
use Rattle.reading.specs.Reading.{place_of, read_of}
use Rattle.state.specs.declared.control.Mark.TheVariants.{Taken}
use Rattle.state.specs.Fetch.{fetched}
use Rattle.state.specs.Machine.{Machine, machine}
use Rattle.state.specs.Setup.{refusal, first}
use Rattle.vectors.specs.Register.{element, build, filled}
use Rattle.machine.specs.declared.run.Reason.TheVariants.{Spent}
use Rattle.std.specs.Prelude.{Ok}
use Rattle.machine.specs.Run.{runs}
use Rattle.machine.specs.Step.{result, step_of}
use Rattle.demands.specs.Laps.{lap_env, lap_machine, Beyond, Twice, endless, Endless}

worked : Beyond × Twice
unfolding budget_of forward_to ahead runs read_of place_of row_at refusal first step_of fetched plan_of number imm5_at zero_at
    register_at with_register replaced bytes_of register filled each_lane build element addv target signed wrap
worked = ((refl, refl, refl), (refl, refl, refl))

pub lap-beyond : Beyond
lap-beyond = worked.0

pub lap-twice : Twice
lap-twice = worked.1

-- the machine in the slot
abbrev in_slot : Machine
in_slot =
    machine (lap_machine 4 0).vec (lap_machine 4 0).gen []
    (record { pc = 4; mark = Taken 0; csr = 0; on = true })

abbrev goes_to : Machine → Machine → Type 0
goes_to m m' = step_of endless (lap_env 0) m ≡ result (Ok tt) m'

round : goes_to (lap_machine 0 0) in_slot × goes_to in_slot (lap_machine 0 0)
unfolding read_of place_of row_at step_of fetched plan_of number zero_at register_at with_register replaced bytes_of register
    target signed wrap
round = (refl, refl)

abbrev Spends : ℕ → Machine → Type 0
Spends n m = ((runs endless (lap_env 0) n m).reason ≡ Spent) × ((runs endless (lap_env 0) n m).count ≡ n)

-- a step more, to a machine from which the rest is spent
spends-more : (n : ℕ) (m m' : Machine) → goes_to m m' → Spends n m' → Spends (suc n) m
unfolding runs
spends-more n m m' s h = rw s (h.0, omega (arith, h.1))

spends : (n : ℕ) → Spends n (lap_machine 0 0) × Spends n in_slot
unfolding runs
spends zero = ((refl, refl), (refl, refl))
spends (suc n) =
    let h = spends n in
    (spends-more n _ _ round.0 h.1, spends-more n _ _ round.1 h.0)

pub lap-endless : Endless
unfolding budget_of forward_to ahead read_of place_of row_at refusal first fetched number signed
lap-endless = (refl, λ n. (spends n).0)
