-- The plan of an entry by its code: a law for each group of codes, whatever the other parts are. Assumes nothing.
use mathlib.Core.Path.{◌≡◌}
use mathlib.Core.Bool.{Bool, true, false, cond}
use mathlib.Core.List.{List, [], ◌∷◌}
use Prim.Native.Nat.{ℕ, ◌+◌, ◌%◌, ◌≤◌, ◌<◌}
use native.Mathlib.Omega.{arith}
use borrow.Author.Tests.{lt-ltb, le-ltb, ne_eqb}
use lib.Dec.{eqb}
use Rattle.isa.specs.declared.Arith.{Arith}
use Rattle.isa.specs.declared.Arith.TheVariants as arith
use Rattle.isa.specs.declared.Basic.{Basic}
use Rattle.isa.specs.declared.Basic.TheVariants.{Addv, Subv, MaxS, MaxU, MinS, MinU}
use Rattle.isa.specs.declared.BitOp.{BitOp}
use Rattle.isa.specs.declared.BitOp.TheVariants as bit
use Rattle.isa.specs.declared.Bitwise.TheVariants.{Sll, Sra, Srl, Bclr, Bset, Bneg, Binsl, Binsr}
use Rattle.isa.specs.declared.Compare.{Compare}
use Rattle.isa.specs.declared.Compare.TheVariants.{Ceq, CltS, CltU, CleS, CleU}
use Rattle.isa.specs.declared.Copied.{Copied}
use Rattle.isa.specs.declared.Copied.TheVariants.{CopyS, CopyU}
use Rattle.isa.specs.declared.Count.{Count}
use Rattle.isa.specs.declared.Count.TheVariants.{Pcnt, Nloc, Nlzc}
use Rattle.isa.specs.declared.Fixed.{Fixed}
use Rattle.isa.specs.declared.Fixed.TheVariants.{MulQ, MaddQ, MsubQ, MulrQ, MaddrQ, MsubrQ}
use Rattle.isa.specs.declared.Indexed.{Indexed}
use Rattle.isa.specs.declared.Indexed.TheVariants.{Sld, Splat}
use Rattle.isa.specs.declared.Logic.{Logic}
use Rattle.isa.specs.declared.Logic.TheVariants.{And, Or, Nor, Xor, Bmnz, Bmz, Bsel}
use Rattle.isa.specs.declared.Memory.{Memory}
use Rattle.isa.specs.declared.Memory.TheVariants.{Ld, St}
use Rattle.isa.specs.declared.Rounding.TheVariants.{Srar, Srlr}
use Rattle.isa.specs.declared.Saturate.TheVariants.{SatS, SatU}
use Rattle.isa.specs.declared.Scaled.{Scaled}
use Rattle.isa.specs.declared.Scaled.TheVariants.{Lsa, Dlsa}
use Rattle.isa.specs.declared.Three.TheVariants as three
use Rattle.isa.specs.declared.Unread.{Unread}
use Rattle.isa.specs.declared.Unread.TheVariants.{Unassigned, LeftOut, Other}
use Rattle.isa.specs.declared.Zero.{Zero}
use Rattle.isa.specs.declared.Zero.TheVariants.{Bz, Bnz}
use Rattle.isa.specs.Widths.{bits}
use Rattle.ops.specs.Meaning.{meant, three_at, imm5_at}
use Rattle.ops.specs.Table.{Line, imm5_us, imm5_ss}
use Rattle.entries.specs.Cut.{code_of, width_of, flag_of, dest_of, third_of, imm_of, extended_of}
use Rattle.entries.specs.Entry.{arith_code, bit_code, copied_code, count_code, fixed_code, indexed_code, logic_code}
use Rattle.entries.specs.Entry.{memory_code, scaled_code, three_code, unread_code, zero_code}
use Rattle.each.specs.Lanes.{each_lane}
use Rattle.forms.specs.Forms.{three_of, fixed_of, indexed_of, bit_of, count_of}
use Rattle.logic.specs.Logic.{logic_bit}
use Rattle.vectors.specs.Register.{together}
use Rattle.state.specs.declared.stops.Stop.TheVariants as stop
use Rattle.state.specs.Machine.{Env, Machine}
use Rattle.plan.specs.declared.Plan.{Plan}
use Rattle.plan.specs.declared.Plan.TheVariants as plan
use Rattle.plan.specs.declared.planned.Kind.{Kind}
use Rattle.plan.specs.declared.planned.Kind.TheVariants.{Branching, Switched, Free}
use Rattle.plan.specs.Numbers.{scaled_of, copy_of}
use Rattle.plan.specs.Plan.{writes, accessed, early, unless}
use Rattle.plan.specs.Zero.{taken_of, taken_vof}
use Rattle.acts.specs.Act.{executed_at, plan_at, vector_of, vreg, greg, dest_in, source_in, last_in, third_in, scalar_in}
use Rattle.acts.specs.Act.{address_in, sum_in, branch_in, count_in, fixed_in}

-- what holds of each line and of what is said first holds of what is meant
module _ {A : Type 0} (P : A → Type 0) where
  abbrev Every : List (Line A) → Type 0
  Every [] = Unit {0}
  Every (l ∷ ls) = P l.does × Every ls

  either : {a b : A} (t : Bool) → P a → P b → P (cond t a b)
  either true p q = p
  either false p q = q

  meant-elim : {other : A} → P other → (k : ℕ) (ls : List (Line A)) → Every ls → P (meant other k ls)
  meant-elim p k [] h = p
  meant-elim p k (l ∷ ls) h = either (eqb l.place k) h.0 (meant-elim p k ls h.1)

module _ (e : Env) (m : Machine) (x : ℕ) where
  abbrev pub Plans : Kind → Plan → Type 0
  Plans k p = plan_at e m x ≡ unless (early k m.ctl.mark m.ctl.on) p

  -- a number to the register d
  abbrev pub Writes : ℕ → Type 0
  Writes n = Plans Switched (writes (vreg (dest_of x)) n)

  pub unread-plan : (u : Unread) → code_of x ≡ unread_code u % 256 → plan_at e m x ≡ plan.Stop (stop.Unread u)
  unfolding plan_at
  unread-plan Unassigned c = rw c
  unread-plan LeftOut c = rw c
  unread-plan Other c = rw c

  pub memory-plan : (o : Memory) → code_of x ≡ memory_code o % 256
      → Plans Switched
      (accessed o (width_of x) e.board e.table m.vec m.work (vreg (dest_of x)) (address_in m x))
  unfolding plan_at executed_at
  memory-plan Ld c = rw c
  memory-plan St c = rw c

  pub scaled-plan : (o : Scaled) → code_of x ≡ scaled_code o % 256 → Plans Free (sum_in m x (scaled_of o))
  unfolding plan_at executed_at
  scaled-plan Lsa c = rw c
  scaled-plan Dlsa c = rw c

  pub zero-plan : (o : Zero) → code_of x ≡ zero_code o % 256
      → Plans Branching (branch_in m x (taken_of o (width_of x) (last_in m x)))
  unfolding plan_at executed_at
  zero-plan Bz c = rw c
  zero-plan Bnz c = rw c

  pub zero-v-plan : (o : Zero) → code_of x ≡ (2 + zero_code o) % 256
      → Plans Branching (branch_in m x (taken_vof o (last_in m x)))
  unfolding plan_at executed_at
  zero-v-plan Bz c = rw c
  zero-v-plan Bnz c = rw c

  pub logic-plan : (o : Logic) → code_of x ≡ logic_code o % 256
      → Writes (together 1 (logic_bit o) (dest_in m x) (source_in m x) (third_in m x))
  unfolding plan_at executed_at vector_of
  logic-plan And c = rw c
  logic-plan Or c = rw c
  logic-plan Nor c = rw c
  logic-plan Xor c = rw c
  logic-plan Bmnz c = rw c
  logic-plan Bmz c = rw c
  logic-plan Bsel c = rw c

  pub indexed-plan : (o : Indexed) → code_of x ≡ indexed_code o % 256
      → Writes (indexed_of o (bits (width_of x)) (dest_in m x) (source_in m x) (scalar_in m (third_of x) x))
  unfolding plan_at executed_at
  indexed-plan Sld c = rw c
  indexed-plan Splat c = rw c

  pub count-plan : (o : Count) → code_of x ≡ count_code o % 256 → Writes (count_in m x (count_of o))
  unfolding plan_at executed_at
  count-plan Pcnt c = rw c
  count-plan Nloc c = rw c
  count-plan Nlzc c = rw c

  pub fixed-plan : (o : Fixed) → code_of x ≡ fixed_code o % 256 → Writes (fixed_in m x (fixed_of o))
  unfolding plan_at executed_at
  fixed-plan MulQ c = rw c
  fixed-plan MaddQ c = rw c
  fixed-plan MsubQ c = rw c
  fixed-plan MulrQ c = rw c
  fixed-plan MaddrQ c = rw c
  fixed-plan MsubrQ c = rw c

  pub copied-plan : (o : Copied) → code_of x ≡ copied_code o % 256
      → Plans Switched (plan.General (greg (dest_of x)) (copy_of o (width_of x) (source_in m x) (imm_of x)))
  unfolding plan_at executed_at
  copied-plan CopyS c = rw c
  copied-plan CopyU c = rw c

  -- ---- 3R and the same operations of I5 and BIT

  pub three-plan : (k : ℕ) → 104 ≤ k → k < 176 → code_of x ≡ three_code k % 256
      → Writes (three_of (three_at k) (bits (width_of x)) (dest_in m x) (source_in m x) (third_in m x))
  unfolding plan_at executed_at vector_of
  three-plan k l h same =
      let c = code_of x in
      let place : c + 88 ≡ k = omega arith in
      rw (
        lt-ltb c 109 (omega arith),
        le-ltb c 2 (omega arith),
        le-ltb c 4 (omega arith),
        le-ltb c 8 (omega arith),
        lt-ltb c 88 (omega arith),
        ne_eqb 8 c (λ n. omega arith),
        ne_eqb 9 c (λ n. omega arith),
        ne_eqb 10 c (λ n. omega arith),
        ne_eqb 11 c (λ n. omega arith),
        ne_eqb 12 c (λ n. omega arith),
        ne_eqb 13 c (λ n. omega arith),
        ne_eqb 14 c (λ n. omega arith),
        place,
      )

  -- the basic operations and the compares do not use d
  abbrev Plain : Arith → Type 0
  Plain o =
      code_of x ≡ arith_code o % 256
      → Writes (three_of (three.Arith o) (bits (width_of x)) (source_in m x) (source_in m x) (third_in m x))

  basic : (o : Basic) → Plain (arith.Basic o)
  unfolding plan_at executed_at vector_of three_at each_lane
  basic Addv c = rw c
  basic Subv c = rw c
  basic MaxS c = rw c
  basic MaxU c = rw c
  basic MinS c = rw c
  basic MinU c = rw c

  compare : (o : Compare) → Plain (arith.Compare o)
  unfolding plan_at executed_at vector_of three_at each_lane
  compare Ceq c = rw c
  compare CltS c = rw c
  compare CltU c = rw c
  compare CleS c = rw c
  compare CleU c = rw c

  unsigned-plans : Every Plain imm5_us
  unsigned-plans =
      (basic Addv, (basic Subv, (basic MaxU, (basic MinU, (compare CltU, (compare CleU, tt))))))

  signed-plans : Every Plain imm5_ss
  signed-plans =
      (basic MaxS, (basic MinS, (compare Ceq, (compare CltS, (compare CleS, tt)))))

  pub imm5-plan : (k : ℕ) → Plain (imm5_at k)
  unfolding imm5_at
  imm5-plan k =
      meant-elim Plain (meant-elim Plain (compare CleS) k imm5_ss signed-plans) k imm5_us unsigned-plans

  -- an immediate of BIT stands for itself
  pub bit-plan : (o : BitOp) → code_of x ≡ bit_code o % 256 → flag_of x ≡ true → extended_of x ≡ imm_of x
      → Writes (bit_of o (bits (width_of x)) (dest_in m x) (source_in m x) (imm_of x))
  unfolding plan_at executed_at vector_of three_at
  bit-plan (bit.Bitwise Sll) c f i = rw (c, f, i)
  bit-plan (bit.Bitwise Sra) c f i = rw (c, f, i)
  bit-plan (bit.Bitwise Srl) c f i = rw (c, f, i)
  bit-plan (bit.Bitwise Bclr) c f i = rw (c, f, i)
  bit-plan (bit.Bitwise Bset) c f i = rw (c, f, i)
  bit-plan (bit.Bitwise Bneg) c f i = rw (c, f, i)
  bit-plan (bit.Bitwise Binsl) c f i = rw (c, f, i)
  bit-plan (bit.Bitwise Binsr) c f i = rw (c, f, i)
  bit-plan (bit.Saturate SatS) c f i = rw c
  bit-plan (bit.Saturate SatU) c f i = rw c
  bit-plan (bit.Rounding Srar) c f i = rw (c, f, i)
  bit-plan (bit.Rounding Srlr) c f i = rw (c, f, i)
