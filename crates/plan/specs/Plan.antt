-- What each instruction does: a line a class. Sources are the values before the step.
use Rattle.std.specs.Prelude.{ℕ, ◌*◌, List, Bool, true, false, cond, eqb, length, Ok, Err, Result, ⊤}
use Rattle.isa.specs.declared.Vreg.{Vreg}
use Rattle.isa.specs.declared.Greg.{Greg}
use Rattle.isa.specs.declared.Width.{Width}
use Rattle.isa.specs.Widths.{bits, bytes}
use Rattle.isa.specs.declared.Memory.{Memory}
use Rattle.isa.specs.declared.Memory.TheVariants.{Ld, St}
use Rattle.isa.specs.declared.Instr.{Instr}
use Rattle.isa.specs.declared.Instr.TheVariants as instr
use Rattle.memory.specs.Bytes.{part, number}
use Rattle.memory.specs.File.{register_at}
use Rattle.memory.specs.Value.{register}
use Rattle.order.specs.declared.Order.{Order}
use Rattle.order.specs.Order.{turned, register_in}
use Rattle.ops.specs.Meaning.{three_at, indexed_at, imm5_at, bit_at, logic_at, fixed_at}
use Rattle.ops.specs.Meaning.{copied_at, count_at, memory_at, zero_at, scaled_at}
use Rattle.forms.specs.Forms.{three_of, fixed_of, indexed_of, imm5_of, bit_of, imm8_of, count_of}
use Rattle.logic.specs.Logic.{logic_bit}
use Rattle.permute.specs.Loaded as ldi
use Rattle.permute.specs.Permute.{chosen_by_immediate, with_element}
use Rattle.vectors.specs.Register.{whole, together, filled, element}
use Rattle.state.specs.declared.control.Mark.{Mark}
use Rattle.state.specs.declared.control.Mark.TheVariants.{Clear, NotTaken, Taken}
use Rattle.state.specs.declared.stops.Stop.TheVariants.{BranchInSlot, SwitchedOff, NoWindow, ReadOnly, Trap}
use Rattle.state.specs.declared.board.Board.{Board}
use Rattle.state.specs.declared.windows.Spot.{Spot}
use Rattle.state.specs.declared.windows.Spot.TheVariants.{Table, Work, Outside}
use Rattle.state.specs.Csr.{masked, arms, arming}
use Rattle.state.specs.Machine.{Env, Machine}
use Rattle.state.specs.Windows.{spot_of}
use Rattle.plan.specs.declared.Plan.{Plan}
use Rattle.plan.specs.declared.Plan.TheVariants as plan
use Rattle.plan.specs.declared.planned.Kind.{Kind}
use Rattle.plan.specs.declared.planned.Kind.TheVariants.{Branching, Switched, Free}
use Rattle.state.specs.declared.stops.Stop.{Stop}
use Rattle.plan.specs.Numbers.{address, target, scaled_of, control_read, copy_of}
use Rattle.plan.specs.Zero.{taken_of, taken_vof}

-- general register r: eight bytes at 8r
unfoldable pub general_at : List ℕ → Greg → ℕ
general_at generals r = number (part generals (8 * r.0) 8)

-- the number x goes to vector register r
abbrev pub writes : Vreg → ℕ → Plan
writes r x = plan.Vector r (register x)

-- LD answers with the register for which the sixteen bytes at its addresses in one window stand, or stops and names
-- the address that is missing
abbrev pub loaded : Spot → Order → Width → Vreg → List ℕ → List ℕ → Plan
loaded (Table i) o df wd table work = writes wd (register_in o (bytes df) (part table i 16))
loaded (Work i) o df wd table work = writes wd (register_in o (bytes df) (part work i 16))
loaded (Outside x) o df wd table work = plan.Stop (NoWindow x)

-- ST replaces those of the work window by the bytes that stand for its register; into the table it stops, and names its
-- address
abbrev pub stored : Spot → Order → Width → ℕ → ℕ → Plan
stored (Table i) o df a x = plan.Stop (ReadOnly a)
stored (Work i) o df a x = plan.Store a (register (turned o (bytes df) x))
stored (Outside y) o df a x = plan.Stop (NoWindow y)

abbrev pub accessed : Memory → Width → Board → List ℕ → List ℕ → List ℕ → Vreg → ℕ → Plan
accessed Ld df b table vectors work wd a =
    loaded (spot_of b (length table) (length work) a) b.order df wd table work
accessed St df b table vectors work wd a =
    stored (spot_of b (length table) (length work) a) b.order df a (register_at vectors wd)

-- CTCMSA to MSACSR keeps the bits that exist, and stops where they arm a trap, and names those that do; to another
-- control register it is done and changes nothing
abbrev pub to_control : ℕ → ℕ → Plan
to_control cd x =
    cond (eqb cd 1) (cond (arms (masked x)) (plan.Stop (Trap (arming (masked x)))) (plan.Csr (masked x))) plan.Nothing

-- every branch, taken or not, sets the slot mark
abbrev pub marked : Bool → ℕ → Mark
marked true to = Taken to
marked false to = NotTaken

-- what an instruction does where neither 15 nor 16 applies; f is what a load or a store does, by its format, its
-- register and its address: no other instruction sees a window
abbrev pub executed_by : (Memory → Width → Vreg → ℕ → Plan) → Machine → Instr → Plan
executed_by f m (instr.Three k df wd ws wt) =
    writes wd
    (three_of (three_at k.0) (bits df) (register_at m.vec wd) (register_at m.vec ws) (register_at m.vec wt))
executed_by f m (instr.Indexed k df wd ws rt) =
    writes wd
    (indexed_of (indexed_at k.0) (bits df) (register_at m.vec wd) (register_at m.vec ws) (general_at m.gen rt))
executed_by f m (instr.Imm5U k df wd ws imm) =
    writes wd (imm5_of (imm5_at k.0) false (bits df) (register_at m.vec ws) imm)
executed_by f m (instr.Imm5S k df wd ws imm) =
    writes wd (imm5_of (imm5_at k.0) true (bits df) (register_at m.vec ws) imm)
executed_by f m (instr.Ldi df wd imm) = writes wd (ldi.loaded (bits df) imm)
executed_by f m (instr.Bit k df wd ws n) =
    writes wd (bit_of (bit_at k.0) (bits df) (register_at m.vec wd) (register_at m.vec ws) n)
executed_by f m (instr.Imm8 k wd ws imm) =
    writes wd (imm8_of (logic_at k.0) (register_at m.vec wd) (register_at m.vec ws) imm)
executed_by f m (instr.Shf df wd ws imm) =
    writes wd (whole (bits df) (chosen_by_immediate imm (bits df) (register_at m.vec ws)))
executed_by f m (instr.Element k df wd ws n) =
    writes wd (indexed_of (indexed_at k.0) (bits df) (register_at m.vec wd) (register_at m.vec ws) n)
executed_by f m (instr.Insve df wd n ws) =
    writes wd
    (whole (bits df) (with_element n (element (bits df) (register_at m.vec ws) 0) (bits df) (register_at m.vec wd)))
executed_by f m (instr.Copy k df rd ws n) = plan.General rd (copy_of (copied_at k.0) df (register_at m.vec ws) n)
executed_by f m (instr.Insert df wd n rs) =
    writes wd (whole (bits df) (with_element n (general_at m.gen rs) (bits df) (register_at m.vec wd)))
executed_by f m (instr.Move wd ws) = writes wd (register_at m.vec ws)
executed_by f m (instr.Cfcmsa rd cs) = plan.General rd (control_read cs.0 m.ctl.csr)
executed_by f m (instr.Ctcmsa cd rs) = to_control cd.0 (general_at m.gen rs)
executed_by f m (instr.Vec k wd ws wt) =
    writes wd
    (together 1 (logic_bit (logic_at k.0)) (register_at m.vec wd) (register_at m.vec ws) (register_at m.vec wt))
executed_by f m (instr.Fill df wd rs) = writes wd (filled (bits df) (general_at m.gen rs))
executed_by f m (instr.Count k df wd ws) = writes wd (count_of (count_at k.0) (bits df) (register_at m.vec ws))
executed_by f m (instr.Memory k df wd offset rs) = f (memory_at k.0) df wd (address df offset (general_at m.gen rs))
executed_by f m (instr.Branch k df wt offset) =
    plan.Branch (marked (taken_of (zero_at k.0) df (register_at m.vec wt)) (target m.ctl.pc offset))
executed_by f m (instr.BranchV k wt offset) =
    plan.Branch (marked (taken_vof (zero_at k.0) (register_at m.vec wt)) (target m.ctl.pc offset))
executed_by f m (instr.Scaled k rd rs rt sa) =
    plan.General rd (scaled_of (scaled_at k.0) (general_at m.gen rs) (general_at m.gen rt) sa)
executed_by f m (instr.Fixed k df wd ws wt) =
    writes wd
    (fixed_of (fixed_at k.0) (bits df) (register_at m.vec wd) (register_at m.vec ws) (register_at m.vec wt))

abbrev pub executed : Env → Machine → Instr → Plan
executed e m i = executed_by (λ o df wd a. accessed o df e.board e.table m.vec m.work wd a) m i

-- which of 15 and 16 concern an instruction: both a branch, neither LSA and DLSA, and 16 every other
abbrev pub kind_of : Instr → Kind
kind_of (instr.Three k df wd ws wt) = Switched
kind_of (instr.Indexed k df wd ws rt) = Switched
kind_of (instr.Imm5U k df wd ws imm) = Switched
kind_of (instr.Imm5S k df wd ws imm) = Switched
kind_of (instr.Ldi df wd imm) = Switched
kind_of (instr.Bit k df wd ws n) = Switched
kind_of (instr.Imm8 k wd ws imm) = Switched
kind_of (instr.Shf df wd ws imm) = Switched
kind_of (instr.Element k df wd ws n) = Switched
kind_of (instr.Insve df wd n ws) = Switched
kind_of (instr.Copy k df rd ws n) = Switched
kind_of (instr.Insert df wd n rs) = Switched
kind_of (instr.Move wd ws) = Switched
kind_of (instr.Cfcmsa rd cs) = Switched
kind_of (instr.Ctcmsa cd rs) = Switched
kind_of (instr.Vec k wd ws wt) = Switched
kind_of (instr.Fill df wd rs) = Switched
kind_of (instr.Count k df wd ws) = Switched
kind_of (instr.Memory k df wd offset rs) = Switched
kind_of (instr.Branch k df wt offset) = Branching
kind_of (instr.BranchV k wt offset) = Branching
kind_of (instr.Scaled k rd rs rt sa) = Free
kind_of (instr.Fixed k df wd ws wt) = Switched

abbrev pub switched_early : Bool → Result ⊤ Stop
switched_early true = Ok tt
switched_early false = Err SwitchedOff

abbrev pub branch_early : Mark → Bool → Result ⊤ Stop
branch_early Clear on = switched_early on
branch_early NotTaken on = Err BranchInSlot
branch_early (Taken t) on = Err BranchInSlot

abbrev pub early : Kind → Mark → Bool → Result ⊤ Stop
early Branching k on = branch_early k on
early Switched k on = switched_early on
early Free k on = Ok tt

abbrev pub unless : Result ⊤ Stop → Plan → Plan
unless (Ok tt) p = p
unless (Err s) p = plan.Stop s

unfoldable pub plan_of : Env → Machine → Instr → Plan
plan_of e m i = unless (early (kind_of i) m.ctl.mark m.ctl.on) (executed e m i)

-- the reason that a plan names, if any
abbrev pub stop_in : Plan → Result ⊤ Stop
stop_in (plan.Stop s) = Err s
stop_in plan.Nothing = Ok tt
stop_in (plan.Vector r v) = Ok tt
stop_in (plan.General r x) = Ok tt
stop_in (plan.Store a v) = Ok tt
stop_in (plan.Csr x) = Ok tt
stop_in (plan.Branch k) = Ok tt
