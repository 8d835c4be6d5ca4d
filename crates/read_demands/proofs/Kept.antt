-- What the list keeps for each of the program's words: the code of a word that reads as no instruction tells its
-- reason, and the code of an instruction stands below. Assumes nothing.
use mathlib.Core.Path.{◌≡◌, refl, sym, ap, ◌∙◌}
use mathlib.Core.Bool.{Bool, true, false}
use mathlib.Core.List.{[]}
use Prim.Native.Nat.{ℕ, ◌*◌, ◌%◌, ◌≤◌, ◌<◌}
use native.Mathlib.Omega.{arith}
use borrow.Author.Tests.{ltb-true, ltb-false}
use lib.Dec.{lit<, ltb}
use lib.ListN.{get_or}
use Rattle.isa.specs.declared.Greg.{Greg}
use Rattle.isa.specs.declared.Instr.{Instr}
use Rattle.isa.specs.declared.Instr.TheVariants as instr
use Rattle.std.specs.Prelude.{Ok, Err}
use Rattle.isa.specs.declared.Unread.{Unread}
use Rattle.isa.specs.declared.Unread.TheVariants.{Unassigned, LeftOut, Other}
use Rattle.isa.specs.declared.Width.TheVariants.{B}
use Rattle.reading.specs.Reading.{read_of}
use Rattle.plan.specs.declared.Plan.TheVariants as plan
use Rattle.plan.specs.Plan.{plan_of}
use Rattle.state.specs.declared.control.Control.{Control}
use Rattle.state.specs.declared.control.Mark.TheVariants.{Clear}
use Rattle.state.specs.declared.stops.Stop.TheVariants as stop
use Rattle.state.specs.Machine.{Env, Machine, machine}
use Rattle.entries.specs.Cut.{code_of}
use Rattle.entries.specs.Entry.{entry_of, unread_code}
use Rattle.entries.specs.Listed.{word_at}
use Rattle.entries.proofs.CutLaws.{parts}
use Rattle.acts.specs.Act.{plan_at, unread_at}
use Rattle.acts.proofs.Back.{plan-back}
use Rattle.listed.proofs.ActLaws.{plan-unread}
use Rattle.demands.specs.Tables.{little}
use Rattle.demands.proofs.Demand2.{formed}
use Rattle.demands.proofs.Little.{little-number}
use Rattle.entry_demands.specs.Calls.{env_of}
use Rattle.read_demands.specs.Kept.{KeptFor, UnreadKept}
use Rattle.read_demands.proofs.Answers.{runs}

-- ---- a word that reads as no instruction

unread-code : (u : Unread) → code_of (entry_of (Err u)) ≡ unread_code u % 256
unread-code u = let none : 0 < 32 = lit< tt in (parts (unread_code u) B 0 0 0 0 0 none none none).code

told : (u : Unread) (c : ℕ) → c ≡ unread_code u % 256 → (109 ≤ c) × (unread_at c ≡ u)
told Unassigned c h = (omega (arith, h), rw h)
told LeftOut c h = (omega (arith, h), rw h)
told Other c h = (omega (arith, h), rw h)

-- ---- an instruction

-- with the vector unit off, an instruction stops with 16, or goes on as LSA and DLSA do
abbrev off : Control
off = record { pc = 0; mark = Clear; csr = 0; on = false }

abbrev idle : Machine
idle = machine [] [] [] off

switched : (u : Unread) → plan.Stop stop.SwitchedOff ≡ plan.Stop (stop.Unread u) → ⊥
switched u h = let z : ◌≡◌ {A = ℕ} 0 1 = cc in omega arith

goes : (r : Greg) (x : ℕ) (u : Unread) → plan.General r x ≡ plan.Stop (stop.Unread u) → ⊥
goes r x u h = let z : ◌≡◌ {A = ℕ} 0 1 = cc in omega arith

-- so its plan is not that of a word that reads as none
not-unread : (e : Env) (i : Instr) (u : Unread) → plan_of e idle i ≡ plan.Stop (stop.Unread u) → ⊥
unfolding plan_of
not-unread e (instr.Three k df wd ws wt) u h = switched u h
not-unread e (instr.Indexed k df wd ws rt) u h = switched u h
not-unread e (instr.Imm5U k df wd ws imm) u h = switched u h
not-unread e (instr.Imm5S k df wd ws imm) u h = switched u h
not-unread e (instr.Ldi df wd imm) u h = switched u h
not-unread e (instr.Bit k df wd ws n) u h = switched u h
not-unread e (instr.Imm8 k wd ws imm) u h = switched u h
not-unread e (instr.Shf df wd ws imm) u h = switched u h
not-unread e (instr.Element k df wd ws n) u h = switched u h
not-unread e (instr.Insve df wd n ws) u h = switched u h
not-unread e (instr.Copy k df rd ws n) u h = switched u h
not-unread e (instr.Insert df wd n rs) u h = switched u h
not-unread e (instr.Move wd ws) u h = switched u h
not-unread e (instr.Cfcmsa rd cs) u h = switched u h
not-unread e (instr.Ctcmsa cd rs) u h = switched u h
not-unread e (instr.Vec k wd ws wt) u h = switched u h
not-unread e (instr.Fill df wd rs) u h = switched u h
not-unread e (instr.Count k df wd ws) u h = switched u h
not-unread e (instr.Memory k df wd offset rs) u h = switched u h
not-unread e (instr.Branch k df wt offset) u h = switched u h
not-unread e (instr.BranchV k wt offset) u h = switched u h
not-unread e (instr.Scaled k rd rs rt sa) u h = goes rd _ u h
not-unread e (instr.Fixed k df wd ws wt) u h = switched u h

low : (e : Env) (i : Instr) (x : ℕ) → plan_at e idle x ≡ plan_of e idle i → code_of x < 109
low e i x back = go (ltb (code_of x) 109) refl
  where
    go : (t : Bool) → ltb (code_of x) 109 ≡ t → code_of x < 109
    go true h = ltb-true (code_of x) 109 h
    go false h =
        let stops = plan-unread e idle x (ltb-false (code_of x) 109 h) in
        absurd (not-unread e i (unread_at (code_of x)) (sym back ∙ stops))

-- ---- the entry of a word

kept_for : (e : Env) (w x : ℕ) → x ≡ entry_of (read_of w) → KeptFor w x
kept_for e w x h =
    record {
      unread = λ u r. told u (code_of x) (ap code_of (h ∙ ap entry_of r) ∙ unread-code u);
      instruction = λ i r.
          low e i x (ap (λ k. plan_at e idle k) (h ∙ ap entry_of r) ∙ plan-back (Ok i) (formed w i r) e idle);
    }

pub unread-kept : UnreadKept
unread-kept g budget x y list list' r c f i h =
    let spelt : word_at g.program i ≡ little g.program (4 * i) 4 = sym (little-number g.program (4 * i) 4) in
    kept_for (env_of g x) (little g.program (4 * i) 4) (get_or list' i 0)
    ((runs g budget x y list list' r c f).entries i h ∙ ap (λ w. entry_of (read_of w)) spelt)
