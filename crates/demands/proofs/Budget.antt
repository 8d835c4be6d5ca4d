-- What `forward_budget` answers, by the tests of its definition, each of which reflects what the request says; and that
-- it is enough. Assumes nothing.
use mathlib.Core.Path.{◌≡◌, refl, sym, ap, ◌∙◌}
use mathlib.Core.Bool.{Bool, true, false, cond}
use mathlib.Core.List.{List}
use Prim.Native.Nat.{ℕ, ◌+◌, ◌-◌, ◌*◌, ◌/◌, ◌^◌, ◌<◌}
use native.Mathlib.Omega.{arith}
use lib.ListN.{length}
use Rattle.isa.specs.declared.Instr.{Instr}
use Rattle.isa.specs.declared.Instr.TheVariants as instr
use Rattle.std.specs.Prelude.{Ok, Err, None, Result}
use Rattle.isa.specs.declared.Unread.{Unread}
use Rattle.budget.specs.Budget.{ahead, instr_forward, forward, forward_to, enough, budget_of}
use Rattle.budget.proofs.BudgetLaws.{ahead-is, word_at, forward-each, forward-all}
use Rattle.memory.specs.Bytes.{part, number}
use Rattle.reading.specs.Reading.{read_of}
use Rattle.state.specs.Fetch.{fetched}
use Rattle.state.specs.Machine.{Env, Machine}
use Rattle.state.specs.Setup.{program_bad}
use Rattle.words.specs.Formed.{Formed}
use Rattle.demands.specs.AtCounter.{IsBranch, format, whole, offset_of, AtWord}
use Rattle.demands.specs.Budget.{Budget, refused, nowhere, backward, BudgetIs, BudgetEnough}
use Rattle.demands.specs.Budget as answer
use Rattle.demands.specs.Demand1.{Steps, none, more}
use Rattle.demands.specs.Forward.{words, AtLeastOne, Forward}
use Rattle.demands.specs.Limits.{Program}
use Rattle.std.specs.declared.option.Option.TheVariants as option
use Rattle.demands.specs.Tables.{Not, Some, little}
use Rattle.demands.proofs.Demand2.{finished-step, formed}
use Rattle.demands.proofs.Forward.{short-run, forward-steps}
use Rattle.demands.proofs.Limits.{program}
use Rattle.demands.proofs.Little.{little-number}
use Rattle.demands.proofs.Reasons.{at_word?, at-word, fetched-word}
use Rattle.demands.proofs.Reflects.{Reflects, clash, likewise, lt-reflects, and-reflects}

-- ---- every branch

ahead-reflects : (x : ℕ) → x < 2 ^ 16 → Reflects (ahead x) (AtLeastOne x)
ahead-reflects x small =
    rw (← ahead-is x small)
    (likewise (λ h. (omega (arith, h.1), h.0)) (λ h. (h.1, omega (arith, h.0)))
    (and-reflects _ _ (lt-reflects x 32768) (lt-reflects 0 x)))

abbrev GoesForward : Instr → Type 0
GoesForward i = (b : IsBranch i) → AtLeastOne (offset_of b)

no-branch : {i : Instr} → Not (IsBranch i) → Reflects true (GoesForward i)
no-branch n = record { yes = λ e b. absurd (n b); no = λ e. clash refl e }

-- of the one branch that an instruction is
the-branch : {i : Instr} (b : IsBranch i) → AtLeastOne (offset_of b) → GoesForward i
the-branch format h format = h
the-branch whole h whole = h

instr-reflects : (i : Instr) → Formed i → Reflects (instr_forward i) (GoesForward i)
instr-reflects (instr.Three o df wd ws wt) f = no-branch (λ b. elim b [ ])
instr-reflects (instr.Indexed o df wd ws rt) f = no-branch (λ b. elim b [ ])
instr-reflects (instr.Imm5U o df wd ws imm) f = no-branch (λ b. elim b [ ])
instr-reflects (instr.Imm5S o df wd ws imm) f = no-branch (λ b. elim b [ ])
instr-reflects (instr.Ldi df wd imm) f = no-branch (λ b. elim b [ ])
instr-reflects (instr.Bit o df wd ws k) f = no-branch (λ b. elim b [ ])
instr-reflects (instr.Imm8 o wd ws imm) f = no-branch (λ b. elim b [ ])
instr-reflects (instr.Shf df wd ws imm) f = no-branch (λ b. elim b [ ])
instr-reflects (instr.Element o df wd ws n) f = no-branch (λ b. elim b [ ])
instr-reflects (instr.Insve df wd n ws) f = no-branch (λ b. elim b [ ])
instr-reflects (instr.Copy o df rd ws n) f = no-branch (λ b. elim b [ ])
instr-reflects (instr.Insert df wd n rs) f = no-branch (λ b. elim b [ ])
instr-reflects (instr.Move wd ws) f = no-branch (λ b. elim b [ ])
instr-reflects (instr.Cfcmsa rd cs) f = no-branch (λ b. elim b [ ])
instr-reflects (instr.Ctcmsa cd rs) f = no-branch (λ b. elim b [ ])
instr-reflects (instr.Vec o wd ws wt) f = no-branch (λ b. elim b [ ])
instr-reflects (instr.Fill df wd rs) f = no-branch (λ b. elim b [ ])
instr-reflects (instr.Count o df wd ws) f = no-branch (λ b. elim b [ ])
instr-reflects (instr.Memory o df wd offset rs) f = no-branch (λ b. elim b [ ])
instr-reflects (instr.Branch o df wt offset) f =
    likewise (the-branch format) (λ g. g format) (ahead-reflects offset f.1)
instr-reflects (instr.BranchV o wt offset) f =
    likewise (the-branch whole) (λ g. g whole) (ahead-reflects offset f.1)
instr-reflects (instr.Scaled o rd rs rt sa) f = no-branch (λ b. elim b [ ])
instr-reflects (instr.Fixed o df wd ws wt) f = no-branch (λ b. elim b [ ])

module _ (p : List ℕ) where
  spelt : (i : ℕ) → little p (4 * i) 4 ≡ word_at p i
  spelt i = little-number p (4 * i) 4

  -- of a word that reads as x
  word-reflects : (i : ℕ) (x : Instr) → read_of (word_at p i) ≡ Ok x → Reflects (instr_forward x) (GoesForward x)
  word-reflects i x q = instr-reflects x (formed (word_at p i) x q)

  each-forward : Forward p → (i : ℕ) → i < words p → forward (read_of (word_at p i)) ≡ true
  each-forward f i l = go (read_of (word_at p i)) refl
    where
      ahead? : (x : Instr) (b : Bool) → Reflects b (GoesForward x) → GoesForward x → b ≡ true
      ahead? x true r g = refl
      ahead? x false r g = absurd (r.no refl g)

      go : (r : Result Instr Unread) → read_of (word_at p i) ≡ r → forward r ≡ true
      go (Err u) q = refl
      go (Ok x) q = ahead? x (instr_forward x) (word-reflects i x q) (f i x l (ap read_of (spelt i) ∙ q))

  forward-reflects : Reflects (forward_to p (words p)) (Forward p)
  forward-reflects =
      record {
        yes = λ h i x l q.
            let r = sym (ap read_of (spelt i)) ∙ q in
            (word-reflects i x r).yes (sym (ap forward r) ∙ forward-each p (words p) h i l);
        no = λ h f. clash (forward-all p (words p) (each-forward f)) h;
      }

-- ---- the answer

pub budget-is : BudgetIs
unfolding budget_of fetched
budget-is p base counter =
    go (program_bad base (length p)) (program base (length p)) (at_word? p base counter) (at-word p base counter)
  where
    by-branches : Not (Program base (length p)) → Some (AtWord p base counter) → (b : Bool) → Reflects b (Forward p)
        → Budget p base counter (cond b (words p - (counter - base) / 4 + 1) 0)
    by-branches n s true x =
        let k : (counter - base) / 4 ≡ s.number = omega (arith, s.holds) in
        rw k (answer.forward s.number n s.holds (x.yes refl))
    by-branches n s false x = backward n s (x.no refl)

    go : (a : Bool) → Reflects a (Program base (length p)) → (b : Bool) → Reflects b (Some (AtWord p base counter))
        → Budget p base counter
        (cond a 0 (enough (cond b (option.Some (number (part p (counter - base) 4))) None) p ((counter - base) / 4)))
    go true x b y = refused (x.yes refl)
    go false x true y = by-branches (x.no refl) (y.yes refl) (forward_to p (words p)) (forward-reflects p)
    go false x false y = nowhere (x.no refl) (y.no refl)

-- ---- and it is enough

-- no step is finished where no word stands
no_steps : (p : List ℕ) (e : Env) (m : Machine) → Not (Some (AtWord p e.board.program m.ctl.pc))
    → (k : ℕ) (m' : Machine) → Steps p e k m m' → k < 1
no_steps p e m n k m' none = omega arith
no_steps p e m n k m' (more done s) =
    let w = fetched-word p e m (finished-step p e m done).there in
    absurd (n (record { number = w.number; holds = w.holds.0 }))

pub budget-enough : BudgetEnough
budget-enough p e m b budget (refused x) some l clear = absurd (omega arith)
budget-enough p e m b budget (nowhere x n) some l clear =
    let short = short-run p e m 1 budget some (λ a. no_steps p e m n) in
    (short.0, short.1 l)
budget-enough p e m b budget (answer.forward i x at f) some l clear =
    let short =
    short-run p e m (words p - i + 1) budget some
    (λ a k m' s.
    let n = forward-steps p e m m' i k f (record { ok = a; at = at; clear = clear }) s in
    omega arith)
    in
    (short.0, short.1 l)
budget-enough p e m b budget (backward x s n) some l clear = absurd (omega arith)
