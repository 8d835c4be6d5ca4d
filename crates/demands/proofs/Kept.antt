-- The limits are kept, row by row: the first four see lengths alone, and the last sees general register 0 and the
-- control block.
-- Assumes nothing.
use mathlib.Core.Path.{◌≡◌, refl, sym, ap, ◌∙◌}
use mathlib.Core.Bool.{Bool, true, false, cond, not, ◌||◌}
use mathlib.Core.List.{List, ◌∷◌}
use Prim.Native.Nat.{ℕ, suc, ◌+◌, ◌-◌, ◌*◌, ◌%◌, ◌≤◌, ◌<◌}
use native.Mathlib.Omega.{arith}
use borrow.Author.Tests.{eqb-true, eqb-false, eq-eqb}
use lib.Dec.{eqb}
use lib.IntN.{ℤ, pos, negsuc, ◌+ℤ◌, ◌*ℤ◌}
use lib.ListN.{length}
use Rattle.isa.specs.declared.Greg.{Greg}
use Rattle.isa.specs.declared.Instr.{Instr}
use Rattle.isa.specs.declared.Instr.TheVariants as instr
use Rattle.isa.specs.declared.Memory.{Memory}
use Rattle.memory.specs.Bytes.{part, number, replaced, bytes_of}
use Rattle.memory.specs.File.{register_at}
use Rattle.memory.specs.Value.{value}
use Rattle.memory.proofs.Files.{with_register-length}
use Rattle.memory.proofs.Numbers.{length-bytes_of}
use Rattle.memory.proofs.Parts.{length-replaced, part-before}
use Rattle.element.specs.Value.{signed, wrap}
use Rattle.element.proofs.Diff.{Diff, diff-pos, diff-neg, diff-add}
use Rattle.ops.specs.Meaning.{memory_at, zero_at}
use Rattle.plan.specs.declared.Plan.{Plan}
use Rattle.plan.specs.declared.Plan.TheVariants as plan
use Rattle.std.specs.Prelude.{Ok, Err, Result, ⊤}
use Rattle.state.specs.declared.stops.Stop.{Stop}
use Rattle.plan.specs.Numbers.{address, target}
use Rattle.plan.specs.Plan.{plan_of, executed, general_at, marked, kind_of, early, unless}
use Rattle.plan.specs.There.{There}
use Rattle.plan.proofs.PlanLaws.{control-cases, access-cases}
use Rattle.plan.specs.Zero.{taken_of, taken_vof}
use Rattle.state.specs.declared.control.Control.{Control}
use Rattle.state.specs.declared.control.Mark.{Mark}
use Rattle.state.specs.declared.control.Mark.TheVariants.{Clear, NotTaken, Taken}
use Rattle.state.specs.Csr.{masked, arms, arming}
use Rattle.state.specs.Machine.{Env, Machine, machine}
use Rattle.state.specs.Setup.{Limit, refusal, first, state_bad, target_bad}
use Rattle.state.proofs.SetupLaws.{Sized, accepted}
use Rattle.state.proofs.TestLaws.{or_left, or_right, not-false}
use Rattle.machine.specs.Effect.{applied, with_general, forwarded, pc_after}
use Rattle.demands.specs.AtCounter.{IsBranch, format, whole, offset_of}
use Rattle.demands.specs.Demand1.{none, more}
use Rattle.demands.specs.Kept.{StaysAccepted, StepsAccepted}
use Rattle.demands.proofs.Demand2.{finished-step, meant-there}

-- rows

-- a table stays passed where its first row stays unbroken and the rest stays passed
row_kept : (l l' : Limit) (ls ls' : List Limit)
    → (l.broken ≡ false → l'.broken ≡ false) → (first ls ≡ Ok tt → first ls' ≡ Ok tt)
    → first (l ∷ ls) ≡ Ok tt → first (l' ∷ ls') ≡ Ok tt
unfolding first
row_kept l l' ls ls' f g e = go l.broken refl e
  where
    go : (b : Bool) → l.broken ≡ b → cond b (Err l.refusal) (first ls) ≡ Ok tt → first (l' ∷ ls') ≡ Ok tt
    go true h k = let z : ◌≡◌ {A = ℕ} 0 1 = cc in absurd (omega arith)
    go false h k = rw (f h) (g k)

-- limit 5 as what holds of register 0 and of the control block
record Sound (r0 : ℕ) (c : Control) : Type 0 where
  zero : r0 ≡ 0
  pc : c.pc % 4 ≡ 0
  target : target_bad c.mark ≡ false
  csr : masked c.csr ≡ c.csr

sound : (r0 : ℕ) (c : Control) → state_bad r0 c ≡ false → Sound r0 c
sound r0 c e =
    let z : Bool = not (eqb r0 0) in
    let p : Bool = not (eqb (c.pc % 4) 0) in
    let t : Bool = target_bad c.mark in
    let m : Bool = not (eqb (masked c.csr) c.csr) in
    let three : z || p || t ≡ false = or_left (z || p || t) m e in
    let two : z || p ≡ false = or_left (z || p) t three in
    record {
      zero = eqb-true _ _ (not-false _ (or_left z p two));
      pc = eqb-true _ _ (not-false _ (or_right z p two));
      target = or_right (z || p) t three;
      csr = eqb-true _ _ (not-false _ (or_right (z || p || t) m e));
    }

unbroken : (r0 : ℕ) (c : Control) → Sound r0 c → state_bad r0 c ≡ false
unbroken r0 c s =
    rw (eq-eqb r0 0 s.zero, eq-eqb (c.pc % 4) 0 s.pc, s.target, eq-eqb (masked c.csr) c.csr s.csr)

-- numbers

masked-twice : (x : ℕ) → masked (masked x) ≡ masked x
masked-twice x = omega arith

-- a difference of multiples of 4 is one modulo 2^64
wrap-four : {z : ℤ} {a b : ℕ} → Diff z a b → a % 4 ≡ b % 4 → wrap 64 z % 4 ≡ 0
unfolding wrap
wrap-four {z = pos k} d e = omega arith
wrap-four {z = negsuc k} d e = omega arith

words-on : (x : ℕ) (z : ℤ) → x % 4 ≡ 0 → wrap 64 (pos x +ℤ z *ℤ pos 4) % 4 ≡ 0
words-on x (pos k) h = wrap-four (diff-add (diff-pos x) (diff-pos (k * 4))) (omega arith)
words-on x (negsuc k) h = wrap-four (diff-add (diff-pos x) (diff-neg (diff-pos (suc k * 4)))) (omega arith)

target-four : (pc offset : ℕ) → pc % 4 ≡ 0 → target pc offset % 4 ≡ 0
unfolding target
target-four pc offset h = words-on (pc + 4) (signed 16 offset) (omega arith)

marked-four : (taken? : Bool) (pc offset : ℕ) → pc % 4 ≡ 0 → target_bad (marked taken? (target pc offset)) ≡ false
marked-four true pc offset h = rw (eq-eqb _ _ (target-four pc offset h))
marked-four false pc offset h = refl

pc-four : (k : Mark) (pc : ℕ) → pc % 4 ≡ 0 → target_bad k ≡ false → pc_after k pc % 4 ≡ 0
pc-four Clear pc h t = omega arith
pc-four NotTaken pc h t = omega arith
pc-four (Taken x) pc h t = eqb-true _ _ (not-false _ t)

-- plans

-- what the plan of an instruction puts into the control block: MSACSR's bits that exist, and the mark of a branch at
-- the program counter
abbrev pub Within : ℕ → Instr → Plan → Type 0
Within pc i (plan.Stop s) = Unit {0}
Within pc i plan.Nothing = Unit {0}
Within pc i (plan.Vector r v) = Unit {0}
Within pc i (plan.General r x) = Unit {0}
Within pc i (plan.Store a v) = Unit {0}
Within pc i (plan.Csr x) = masked x ≡ x
Within pc i (plan.Branch k) = (b : IsBranch i) × (taken? : Bool) × (k ≡ marked taken? (target pc (offset_of b)))

module _ (e : Env) (m : Machine) where
  abbrev Kept : Instr → Plan → Type 0
  Kept = Within m.ctl.pc

  executed-within : (i : Instr) → Kept i (executed e m i)
  executed-within (instr.Three o df wd ws wt) = tt
  executed-within (instr.Indexed o df wd ws rt) = tt
  executed-within (instr.Imm5U o df wd ws imm) = tt
  executed-within (instr.Imm5S o df wd ws imm) = tt
  executed-within (instr.Ldi df wd imm) = tt
  executed-within (instr.Bit o df wd ws k) = tt
  executed-within (instr.Imm8 o wd ws imm) = tt
  executed-within (instr.Shf df wd ws imm) = tt
  executed-within (instr.Element o df wd ws n) = tt
  executed-within (instr.Insve df wd n ws) = tt
  executed-within (instr.Copy o df rd ws n) = tt
  executed-within (instr.Insert df wd n rs) = tt
  executed-within (instr.Move wd ws) = tt
  executed-within (instr.Cfcmsa rd cs) = tt
  executed-within (instr.Ctcmsa cd rs) =
      let x = general_at m.gen rs in
      control-cases (Kept (instr.Ctcmsa cd rs)) (arming (masked x)) (masked x) tt (masked-twice x) tt (eqb cd.0 1)
      (arms (masked x))
  executed-within (instr.Vec o wd ws wt) = tt
  executed-within (instr.Fill df wd rs) = tt
  executed-within (instr.Count o df wd ws) = tt
  executed-within (instr.Memory o df wd offset rs) =
      access-cases (Kept (instr.Memory o df wd offset rs)) df e.board e.table m.vec m.work wd
      (address df offset (general_at m.gen rs))
      (λ x. tt) (λ i v p. tt) tt (λ x p. tt) (memory_at o.0)
  executed-within (instr.Branch o df wt offset) = (format, taken_of (zero_at o.0) df (register_at m.vec wt), refl)
  executed-within (instr.BranchV o wt offset) = (whole, taken_vof (zero_at o.0) (register_at m.vec wt), refl)
  executed-within (instr.Scaled o rd rs rt sa) = tt
  executed-within (instr.Fixed o df wd ws wt) = tt

  unless-within : (i : Instr) (s : Result ⊤ Stop) (q : Plan) → Kept i q → Kept i (unless s q)
  unless-within i (Ok tt) q h = h
  unless-within i (Err s) q h = tt

  pub planned-within : (i : Instr) → Within m.ctl.pc i (plan_of e m i)
  unfolding plan_of
  planned-within i = unless-within i (early (kind_of i) m.ctl.mark m.ctl.on) (executed e m i) (executed-within i)

-- a write to a general register keeps the length, and register 0
module _ (g : List ℕ) (r : Greg) (x : ℕ) (long : length g ≡ 256) (small : r.0 < 32) where
  fits : 8 * r.0 + length (bytes_of 8 x) ≤ length g
  fits = omega (arith, length-bytes_of 8 x)

  with_general-length : length (with_general g r x) ≡ length g
  unfolding with_general
  with_general-length = go (eqb r.0 0)
    where
      go : (b : Bool) → length (cond b g (replaced g (8 * r.0) (bytes_of 8 x))) ≡ length g
      go true = refl
      go false = length-replaced g (8 * r.0) (bytes_of 8 x) fits

  with_general-zero : part (with_general g r x) 0 8 ≡ part g 0 8
  unfolding with_general
  with_general-zero = go (eqb r.0 0) refl
    where
      go : (b : Bool) → eqb r.0 0 ≡ b → part (cond b g (replaced g (8 * r.0) (bytes_of 8 x))) 0 8 ≡ part g 0 8
      go true h = refl
      go false h =
          let some : (r.0 ≡ 0 → ⊥) = eqb-false r.0 0 h in
          part-before g (8 * r.0) (bytes_of 8 x) fits 0 8 (omega arith)

-- a machine

module _ (p : List ℕ) (e : Env) (m : Machine) (ok : refusal p e m ≡ Ok tt) where
  sized : Sized e m
  sized = accepted p e m ok

  abbrev zeroth : List ℕ → ℕ
  zeroth g = number (part g 0 8)

  -- another one with these lengths and a sound state is accepted too
  like : (v g w : List ℕ) (c : Control)
      → length v ≡ length m.vec → length g ≡ length m.gen → length w ≡ length m.work
      → (Sound (zeroth m.gen) m.ctl → Sound (zeroth g) c) → refusal p e (machine v g w c) ≡ Ok tt
  unfolding refusal
  like v g w c hv hg hw s =
      row_kept _ _ _ _ (λ h. rw (hv, hg) h)
      (row_kept _ _ _ _ (λ h. h)
      (row_kept _ _ _ _ (λ h. rw hw h)
      (row_kept _ _ _ _ (λ h. rw hw h)
      (row_kept _ _ _ _ (λ h. unbroken (zeroth g) c (s (sound (zeroth m.gen) m.ctl h))) (λ h. h)))))
      ok

  forward : (g : List ℕ) (k : Mark) (x : ℕ)
      → part g 0 8 ≡ part m.gen 0 8 → (m.ctl.pc % 4 ≡ 0 → target_bad k ≡ false)
      → (masked m.ctl.csr ≡ m.ctl.csr → masked x ≡ x)
      → Sound (zeroth m.gen) m.ctl → Sound (zeroth g) (forwarded m.ctl k x)
  forward g k x same t f s =
      record {
        zero = ap number same ∙ s.zero;
        pc = pc-four m.ctl.mark m.ctl.pc s.pc s.target;
        target = t s.pc;
        csr = f s.csr;
      }

  applied-accepted : (j : Instr) (q : Plan) → There e.board.work (length m.work) q → Within m.ctl.pc j q
      → refusal p e (applied e.board.work q m) ≡ Ok tt
  applied-accepted j (plan.Stop s) h i = ok
  applied-accepted j plan.Nothing h i =
      like _ _ _ _ refl refl refl (forward m.gen Clear m.ctl.csr refl (λ z. refl) (λ x. x))
  applied-accepted j (plan.Vector r v) h i =
      like _ _ _ _ (with_register-length m.vec r (value v) sized.vectors h ∙ sym sized.vectors) refl refl
      (forward m.gen Clear m.ctl.csr refl (λ z. refl) (λ x. x))
  applied-accepted j (plan.General r x) h i =
      like _ _ _ _ refl (with_general-length m.gen r x sized.generals h) refl
      (forward (with_general m.gen r x) Clear m.ctl.csr (with_general-zero m.gen r x sized.generals h)
      (λ z. refl) (λ x. x))
  applied-accepted j (plan.Store a v) h i =
      like _ _ _ _ refl refl
      (length-replaced m.work (a - e.board.work) (bytes_of 16 (value v))
      (omega (arith, length-bytes_of 16 (value v))))
      (forward m.gen Clear m.ctl.csr refl (λ z. refl) (λ x. x))
  applied-accepted j (plan.Csr x) h i = like _ _ _ _ refl refl refl (forward m.gen Clear x refl (λ z. refl) (λ y. i))
  applied-accepted j (plan.Branch k) h (b, taken?, same) =
      like _ _ _ _ refl refl refl
      (forward m.gen k m.ctl.csr refl (λ z. rw same (marked-four taken? m.ctl.pc (offset_of b) z)) (λ x. x))

pub stays-accepted : StaysAccepted
stays-accepted p e m ok done =
    let s = finished-step p e m done in
    rw s.after
    (applied-accepted p e m ok s.instruction (plan_of e m s.instruction) (meant-there p e m s)
    (planned-within e m s.instruction))

pub steps-accepted : StepsAccepted
steps-accepted p e n m m' none ok = ok
steps-accepted p e n m m' (more h s) ok = steps-accepted p e _ _ m' s (stays-accepted p e m ok h)
