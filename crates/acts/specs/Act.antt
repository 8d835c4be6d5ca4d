-- What an entry does: its plan, by its code and its parts. Every number has one, so nothing is asked of a list's
-- contents; that the entry of an instruction does what the instruction does is a law (proofs/Back.antt).
use Rattle.std.specs.Prelude.{Bool, cond, List, [], ◌∷◌, ℕ, ◌+◌, ◌/◌, ◌%◌, ◌^◌, eqb, ltb, Ok, Err, Result}
use Rattle.isa.specs.declared.BitOp.TheVariants as bit
use Rattle.isa.specs.declared.Copied.TheVariants.{CopyS, CopyU}
use Rattle.isa.specs.declared.Count.TheVariants.{Pcnt, Nloc, Nlzc}
use Rattle.isa.specs.declared.Fixed.TheVariants.{MulQ, MaddQ, MsubQ, MulrQ, MaddrQ, MsubrQ}
use Rattle.isa.specs.declared.Greg.{Greg}
use Rattle.isa.specs.declared.Indexed.TheVariants.{Sld, Splat}
use Rattle.isa.specs.declared.Logic.TheVariants.{And, Or, Nor, Xor, Bmnz, Bmz, Bsel}
use Rattle.isa.specs.declared.Memory.TheVariants.{Ld, St}
use Rattle.isa.specs.declared.Instr.{Instr}
use Rattle.isa.specs.declared.Saturate.TheVariants.{SatS, SatU}
use Rattle.isa.specs.declared.Scaled.TheVariants.{Lsa, Dlsa}
use Rattle.isa.specs.declared.Unread.{Unread}
use Rattle.isa.specs.declared.Unread.TheVariants.{Unassigned, LeftOut, Other}
use Rattle.isa.specs.declared.Vreg.{Vreg}
use Rattle.isa.specs.declared.Width.{Width}
use Rattle.isa.specs.declared.Width.TheVariants.{H, W}
use Rattle.isa.specs.declared.Zero.TheVariants.{Bz, Bnz}
use Rattle.isa.specs.Widths.{bits}
use Rattle.ops.specs.Meaning.{three_at}
use Rattle.entries.specs.Cut.{code_of, width_of, flag_of, dest_of, source_of, third_of, imm_of, extended_of}
use Rattle.forms.specs.Forms.{three_of, fixed_of, indexed_of, bit_of, count_of}
use Rattle.logic.specs.Logic.{logic_bit}
use Rattle.memory.specs.File.{register_at}
use Rattle.permute.specs.Permute.{chosen_by_immediate, with_element}
use Rattle.vectors.specs.Register.{whole, together, filled, element}
use Rattle.state.specs.declared.stops.Stop.TheVariants as stop
use Rattle.state.specs.Machine.{Env, Machine}
use Rattle.plan.specs.declared.Plan.{Plan}
use Rattle.plan.specs.declared.Plan.TheVariants as plan
use Rattle.plan.specs.declared.planned.Kind.{Kind}
use Rattle.plan.specs.declared.planned.Kind.TheVariants.{Branching, Switched, Free}
use Rattle.plan.specs.Numbers.{scaled_of, control_read, copy_of}
use Rattle.plan.specs.Plan.{general_at, writes, accessed, to_control, marked, early, unless, plan_of}
use Rattle.plan.specs.Zero.{taken_of, taken_vof}
use Rattle.words.specs.Formed.{Formed}

-- ---- what stands beside a code

pub record At (A : Type 0) : Type 0 where
  pub code : ℕ
  pub does : A

abbrev pub at : {A : Type 0} → ℕ → A → At A
at c a = record { code = c; does = a }

-- and where the code is none of these, what is said first
abbrev pub said : {A : Type 0} → A → ℕ → List (At A) → A
said other c [] = other
said other c (l ∷ ls) = cond (eqb l.code c) l.does (said other c ls)

-- ---- the operands

abbrev pub vreg : ℕ → Vreg
vreg n = record { 0 = n }

abbrev pub greg : ℕ → Greg
greg n = record { 0 = n }

abbrev pub dest_in : Machine → ℕ → ℕ
dest_in m x = register_at m.vec (vreg (dest_of x))

abbrev pub source_in : Machine → ℕ → ℕ
source_in m x = register_at m.vec (vreg (source_of x))

-- the register t
abbrev pub last_in : Machine → ℕ → ℕ
last_in m x = register_at m.vec (vreg (third_of x))

-- the register t, or the immediate in every element
abbrev pub third_in : Machine → ℕ → ℕ
third_in m x = cond (flag_of x) (filled (bits (width_of x)) (extended_of x)) (last_in m x)

-- the general register of a number, or the immediate
abbrev pub scalar_in : Machine → ℕ → ℕ → ℕ
scalar_in m r x = cond (flag_of x) (extended_of x) (general_at m.gen (greg r))

-- INSVE's element, or INSERT's general register
abbrev pub inserted_in : Machine → ℕ → ℕ
inserted_in m x =
    cond (flag_of x) (element (bits (width_of x)) (source_in m x) 0) (general_at m.gen (greg (source_of x)))

-- the fixed-point multiplies have H and W alone
abbrev pub narrow_of : ℕ → Width
narrow_of x = cond (eqb (x / 256 % 4) 1) H W

-- ---- codes 8 to 87: the bitwise forms, and 3R with the same operations of I5 and BIT

-- by the code, the bits of the format, and the values of d, s and t
abbrev pub logics : ℕ → ℕ → ℕ → List (At ℕ)
logics d s t =
    at 8 (together 1 (logic_bit And) d s t) ∷ at 9 (together 1 (logic_bit Or) d s t)
    ∷ at 10 (together 1 (logic_bit Nor) d s t) ∷ at 11 (together 1 (logic_bit Xor) d s t)
    ∷ at 12 (together 1 (logic_bit Bmnz) d s t) ∷ at 13 (together 1 (logic_bit Bmz) d s t)
    ∷ at 14 (together 1 (logic_bit Bsel) d s t) ∷ []

unfoldable pub vector_of : ℕ → ℕ → ℕ → ℕ → ℕ → ℕ
vector_of c n d s t = said (three_of (three_at (c + 88)) n d s t) c (logics d s t)

-- ---- all codes

abbrev pub address_in : Machine → ℕ → ℕ
address_in m x = (general_at m.gen (greg (source_of x)) + extended_of x) % 2 ^ 64

-- from the slot's address on
abbrev pub target_in : Machine → ℕ → ℕ
target_in m x = (m.ctl.pc + 4 + extended_of x) % 2 ^ 64

abbrev pub sum_in : Machine → ℕ → (ℕ → ℕ → ℕ → ℕ) → Plan
sum_in m x f =
    plan.General (greg (dest_of x))
    (f (general_at m.gen (greg (source_of x))) (general_at m.gen (greg (third_of x))) (imm_of x % 4))

abbrev pub branch_in : Machine → ℕ → Bool → Plan
branch_in m x is = plan.Branch (marked is (target_in m x))

abbrev pub commons : Env → Machine → ℕ → List (At Plan)
commons e m x =
    at 0 (accessed Ld (width_of x) e.board e.table m.vec m.work (vreg (dest_of x)) (address_in m x))
    ∷ at 1 (accessed St (width_of x) e.board e.table m.vec m.work (vreg (dest_of x)) (address_in m x))
    ∷ at 2 (sum_in m x (scaled_of Lsa)) ∷ at 3 (sum_in m x (scaled_of Dlsa))
    ∷ at 4 (branch_in m x (taken_of Bz (width_of x) (last_in m x)))
    ∷ at 5 (branch_in m x (taken_of Bnz (width_of x) (last_in m x)))
    ∷ at 6 (branch_in m x (taken_vof Bz (last_in m x))) ∷ []

-- a code below 8
abbrev pub common_of : Env → Machine → ℕ → Plan
common_of e m x = said (branch_in m x (taken_vof Bnz (last_in m x))) (code_of x) (commons e m x)

abbrev pub count_in : Machine → ℕ → (ℕ → ℕ → ℕ) → ℕ
count_in m x f = f (bits (width_of x)) (source_in m x)

abbrev pub fixed_in : Machine → ℕ → (ℕ → ℕ → ℕ → ℕ → ℕ) → ℕ
fixed_in m x f = f (bits (narrow_of x)) (dest_in m x) (source_in m x) (last_in m x)

abbrev pub values : Machine → ℕ → List (At ℕ)
values m x =
    at 88 (indexed_of Sld (bits (width_of x)) (dest_in m x) (source_in m x) (scalar_in m (third_of x) x))
    ∷ at 89 (indexed_of Splat (bits (width_of x)) (dest_in m x) (source_in m x) (scalar_in m (third_of x) x))
    ∷ at 90 (bit_of (bit.Saturate SatS) (bits (width_of x)) (dest_in m x) (source_in m x) (imm_of x))
    ∷ at 91 (bit_of (bit.Saturate SatU) (bits (width_of x)) (dest_in m x) (source_in m x) (imm_of x))
    ∷ at 92 (filled (bits (width_of x)) (scalar_in m (source_of x) x))
    ∷ at 93 (whole (bits (width_of x)) (chosen_by_immediate (imm_of x % 256) (bits (width_of x)) (source_in m x)))
    ∷ at 94
    (whole (bits (width_of x)) (with_element (imm_of x) (inserted_in m x) (bits (width_of x)) (dest_in m x)))
    ∷ at 95 (source_in m x)
    ∷ at 96 (count_in m x (count_of Pcnt)) ∷ at 97 (count_in m x (count_of Nloc)) ∷ at 98 (count_in m x (count_of Nlzc))
    ∷ at 99 (fixed_in m x (fixed_of MulQ)) ∷ at 100 (fixed_in m x (fixed_of MaddQ)) ∷ at 101 (fixed_in m x (fixed_of MsubQ))
    ∷ at 102 (fixed_in m x (fixed_of MulrQ)) ∷ at 103 (fixed_in m x (fixed_of MaddrQ)) ∷ []

-- a code from 88 to 104: what goes to the vector register d
abbrev pub value_of : Machine → ℕ → ℕ
value_of m x = said (fixed_in m x (fixed_of MsubrQ)) (code_of x) (values m x)

abbrev pub moves : Machine → ℕ → List (At Plan)
moves m x =
    at 105 (plan.General (greg (dest_of x)) (copy_of CopyS (width_of x) (source_in m x) (imm_of x)))
    ∷ at 106 (plan.General (greg (dest_of x)) (copy_of CopyU (width_of x) (source_in m x) (imm_of x)))
    ∷ at 107 (plan.General (greg (dest_of x)) (control_read (source_of x) m.ctl.csr)) ∷ []

-- a code from 105 to 108
abbrev pub move_of : Machine → ℕ → Plan
move_of m x = said (to_control (dest_of x) (general_at m.gen (greg (source_of x)))) (code_of x) (moves m x)

-- what an entry does where neither 15 nor 16 applies
unfoldable pub executed_at : Env → Machine → ℕ → Plan
executed_at e m x =
    cond (ltb (code_of x) 8) (common_of e m x)
    (cond (ltb (code_of x) 88)
    (writes (vreg (dest_of x)) (vector_of (code_of x) (bits (width_of x)) (dest_in m x) (source_in m x) (third_in m x)))
    (cond (ltb (code_of x) 105) (writes (vreg (dest_of x)) (value_of m x)) (move_of m x)))

-- ---- with 15 and 16, and 12 to 14

-- LSA and DLSA need no vector unit, and 15 concerns the branches
abbrev pub kind_at : ℕ → Kind
kind_at c = cond (ltb c 2) Switched (cond (ltb c 4) Free (cond (ltb c 8) Branching Switched))

abbrev pub unread_at : ℕ → Unread
unread_at c = said Other c (at 109 Unassigned ∷ at 110 LeftOut ∷ [])

unfoldable pub plan_at : Env → Machine → ℕ → Plan
plan_at e m x =
    cond (ltb (code_of x) 109) (unless (early (kind_at (code_of x)) m.ctl.mark m.ctl.on) (executed_at e m x))
    (plan.Stop (stop.Unread (unread_at (code_of x))))

-- the plan of what a word reads as
abbrev pub plan_read : Env → Machine → Result Instr Unread → Plan
plan_read e m (Err u) = plan.Stop (stop.Unread u)
plan_read e m (Ok i) = plan_of e m i

-- what a word that is read gives: an instruction that is formed, or none
abbrev pub FormedRead : Result Instr Unread → Type 0
FormedRead (Err u) = Unit {0}
FormedRead (Ok i) = Formed i
