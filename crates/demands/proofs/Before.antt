-- In little-endian order nothing is turned. Assumes nothing.
use mathlib.Core.Path.{◌≡◌, refl, sym, ap, ◌∙◌}
use Prim.Native.Nat.{ℕ, ◌/◌, ◌%◌, ◌^◌}
use lib.ListN.{length}
use native.Mathlib.Nat.{mod-lt}
use lib.Pow.{pow_pos}
use Rattle.isa.specs.declared.Instr.{Instr}
use Rattle.isa.specs.declared.Memory.{Memory}
use Rattle.isa.specs.declared.Memory.TheVariants.{Ld, St}
use Rattle.std.specs.Prelude.{Ok, Err, Some, None, Result, Option}
use Rattle.isa.specs.declared.Unread.{Unread}
use Rattle.isa.specs.declared.Vreg.{Vreg}
use Rattle.isa.specs.declared.Width.{Width}
use Rattle.isa.specs.Widths.{bytes}
use Rattle.memory.specs.Bytes.{part, number}
use Rattle.memory.specs.File.{register_at}
use Rattle.memory.specs.Value.{register}
use Rattle.memory.proofs.Values.{Words, value-register, register-value}
use Rattle.order.specs.declared.Order.TheVariants.{Little}
use Rattle.order.specs.Order.{turned}
use Rattle.order.proofs.OrderLaws.{turned-little}
use Rattle.plan.specs.declared.Plan.TheVariants as plan
use Rattle.plan.specs.Plan.{plan_of, executed_by, accessed, loaded, stored, kind_of, early, unless}
use Rattle.reading.specs.Reading.{read_of}
use Rattle.state.specs.declared.windows.Spot.{Spot}
use Rattle.state.specs.declared.windows.Spot.TheVariants.{Table, Work, Outside}
use Rattle.state.specs.Fetch.{fetched}
use Rattle.state.specs.Machine.{Env, Machine}
use Rattle.state.specs.Windows.{spot_of}
use Rattle.machine.specs.Step.{step_of, attempted, decided, concluded}
use Rattle.demands.specs.Before.{loaded_before, stored_before, accessed_before, plan_before, decided_before}
use Rattle.demands.specs.Before.{attempted_before, LittleStep}

words : (x : ℕ) → Words (register x)
unfolding register
words x = record { low = mod-lt x (pow_pos 64); high = mod-lt (x / 2 ^ 64) (pow_pos 64) }

-- the register of a number does not see past 2^128
register-low : (x : ℕ) → register (x % 2 ^ 128) ≡ register x
register-low x = ap register (sym (value-register x)) ∙ sym (register-value (words x))

little : (n x : ℕ) → register (turned Little n x) ≡ register x
little n x = ap register (turned-little n x) ∙ register-low x

module _ (e : Env) (m : Machine) (same : e.board.order ≡ Little) where
  loaded-is : (s : Spot) (df : Width) (wd : Vreg)
      → loaded s e.board.order df wd e.table m.work ≡ loaded_before s wd e.table m.work
  loaded-is (Table i) df wd = rw same (ap (plan.Vector wd) (little (bytes df) (number (part e.table i 16))))
  loaded-is (Work i) df wd = rw same (ap (plan.Vector wd) (little (bytes df) (number (part m.work i 16))))
  loaded-is (Outside x) df wd = refl

  stored_is : (s : Spot) (df : Width) (a x : ℕ) → stored s e.board.order df a x ≡ stored_before s a x
  stored_is (Table i) df a x = refl
  stored_is (Work i) df a x = rw same (ap (plan.Store a) (little (bytes df) x))
  stored_is (Outside y) df a x = refl

  accessed-is : (o : Memory) (df : Width) (wd : Vreg) (a : ℕ)
      → accessed o df e.board e.table m.vec m.work wd a ≡ accessed_before e m o df wd a
  accessed-is Ld df wd a = loaded-is (spot_of e.board (length e.table) (length m.work) a) df wd
  accessed-is St df wd a =
      stored_is (spot_of e.board (length e.table) (length m.work) a) df a (register_at m.vec wd)

  -- so the two plans are one, whatever the instruction
  planned-is : (i : Instr) → plan_of e m i ≡ plan_before e m i
  unfolding plan_of
  planned-is i =
      λ j. unless (early (kind_of i) m.ctl.mark m.ctl.on)
      (executed_by (λ o df wd a. accessed-is o df wd a j) m i)

  decided-is : (r : Result Instr Unread) → decided r e m ≡ decided_before r e m
  decided-is (Err u) = refl
  decided-is (Ok i) = ap (λ q. concluded e.board.work q m) (planned-is i)

  attempted-is : (f : Option ℕ) → attempted f e m ≡ attempted_before f e m
  attempted-is (Some w) = decided-is (read_of w)
  attempted-is None = refl

pub little_step : LittleStep
unfolding step_of
little_step p e m same = attempted-is e m same (fetched p e.board.program m.ctl.pc)
