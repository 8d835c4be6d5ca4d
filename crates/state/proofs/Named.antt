-- The refusal and the stop that document 01's numbers name, with what a stop carries: no two say the same.
-- Assumes nothing.
use Rattle.std.proofs.Common.{◌≡◌, ℕ, cond, eqb, refl}
use Rattle.isa.specs.declared.Unread.TheVariants as unread
use Rattle.state.specs.declared.setup.Refusal.{Refusal}
use Rattle.state.specs.declared.setup.Refusal.TheVariants as refusal
use Rattle.state.specs.declared.stops.Stop.{Stop}
use Rattle.state.specs.declared.stops.Stop.TheVariants as stop
use Rattle.state.specs.Numbers.{refusal_number, stop_number, stop_carried}

-- what a number stands for in the two tables of document 01
pub data Named : Type 0 where
  refused : Refusal → Named
  stopped : Stop → Named
  neither : Named

-- the number n, carrying x
abbrev or_stop : ℕ → ℕ → Named
or_stop n x =
    cond (eqb n 11) (stopped stop.NoWord)
    (cond (eqb n 12) (stopped (stop.Unread unread.Unassigned))
    (cond (eqb n 13) (stopped (stop.Unread unread.LeftOut))
    (cond (eqb n 14) (stopped (stop.Unread unread.Other))
    (cond (eqb n 15) (stopped stop.BranchInSlot)
    (cond (eqb n 16) (stopped stop.SwitchedOff)
    (cond (eqb n 17) (stopped (stop.NoWindow x))
    (cond (eqb n 18) (stopped (stop.ReadOnly x)) (cond (eqb n 19) (stopped (stop.Trap x)) neither))))))))

abbrev pub named : ℕ → ℕ → Named
named n x =
    cond (eqb n 1) (refused refusal.Registers)
    (cond (eqb n 2) (refused refusal.Program)
    (cond (eqb n 3) (refused refusal.WindowSize)
    (cond (eqb n 4) (refused refusal.SharedAddress) (cond (eqb n 5) (refused refusal.State) (or_stop n x)))))

pub named-refusal : (r : Refusal) (x : ℕ) → named (refusal_number r) x ≡ refused r
named-refusal refusal.Registers x = refl
named-refusal refusal.Program x = refl
named-refusal refusal.WindowSize x = refl
named-refusal refusal.SharedAddress x = refl
named-refusal refusal.State x = refl

pub named-stop : (s : Stop) → named (stop_number s) (stop_carried s) ≡ stopped s
named-stop stop.NoWord = refl
named-stop (stop.Unread unread.Unassigned) = refl
named-stop (stop.Unread unread.LeftOut) = refl
named-stop (stop.Unread unread.Other) = refl
named-stop stop.BranchInSlot = refl
named-stop stop.SwitchedOff = refl
named-stop (stop.NoWindow x) = refl
named-stop (stop.ReadOnly x) = refl
named-stop (stop.Trap bits) = refl
