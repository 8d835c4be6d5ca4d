-- What an entry plans, by what it is kept as. Assumes nothing.
use Rattle.std.proofs.Common.{◌≡◌, ℕ, ◌<◌, ◌≤◌, Bool, true, false, cond, ltb, sym, refl, ap, ◌∙◌, arith, ltb-false, ltb-true}
use Rattle.isa.specs.declared.Unread.{Unread}
use Rattle.isa.specs.declared.Scaled.{Scaled}
use Rattle.isa.specs.declared.Scaled.TheVariants.{Lsa, Dlsa}
use Rattle.acts.specs.Act.{plan_at, executed_at, kind_at, unread_at, move_of, sum_in}
use Rattle.entries.specs.Cut.{code_of}
use Rattle.entries.specs.Entry.{scaled_code}
use Rattle.plan.specs.declared.Plan.TheVariants as plan
use Rattle.std.specs.Prelude.{Ok, Err, Result}
use Rattle.plan.specs.declared.planned.Kind.TheVariants.{Switched, Branching, Free}
use Rattle.plan.specs.Numbers.{scaled_of}
use Rattle.plan.specs.Plan.{early, unless}
use Rattle.state.specs.declared.control.Mark.{Mark}
use Rattle.state.specs.declared.control.Mark.TheVariants.{Clear, NotTaken, Taken}
use Rattle.state.specs.declared.stops.Stop.TheVariants as stop
use Rattle.state.specs.Machine.{Env, Machine}
use Rattle.listed.specs.Turn.{kept_as, kept_stop}
use Rattle.listed.proofs.ActLaws.{plan-instruction, plan-unread, plan-on}
use Rattle.listed.proofs.ActLaws.{executed-common, executed-move}

apart : {A : Type 0} (c : ℕ) (u : Unread) → Ok c ≡ Err u → A
apart c u h = let z : ◌≡◌ {A = ℕ} 0 1 = cc in absurd (omega arith)

abbrev inside : Result ℕ Unread → ℕ
inside (Ok c) = c
inside (Err u) = 0

module _ (n : Env) (m : Machine) (x : ℕ) where
  pub plan-not : {u : Unread} → kept_as x ≡ Err u → plan_at n m x ≡ plan.Stop (stop.Unread u)
  plan-not {u} h = go (ltb (code_of x) 109) refl h
    where
      go : (b : Bool) → ltb (code_of x) 109 ≡ b → cond b (Ok (code_of x)) (Err (unread_at (code_of x))) ≡ Err u
          → plan_at n m x ≡ plan.Stop (stop.Unread u)
      go true e k = apart (code_of x) u k
      go false e k =
          plan-unread n m x (ltb-false (code_of x) 109 e) ∙ ap (λ j. plan.Stop (kept_stop j)) k

  pub plan-code : {c : ℕ} → kept_as x ≡ Ok c
      → plan_at n m x ≡ unless (early (kind_at (code_of x)) m.ctl.mark m.ctl.on) (executed_at n m x)
  plan-code {c} h = go (ltb (code_of x) 109) refl h
    where
      go : (b : Bool) → ltb (code_of x) 109 ≡ b → cond b (Ok (code_of x)) (Err (unread_at (code_of x))) ≡ Ok c
          → plan_at n m x ≡ unless (early (kind_at (code_of x)) m.ctl.mark m.ctl.on) (executed_at n m x)
      go true e k = plan-instruction n m x (ltb-true (code_of x) 109 e)
      go false e k = apart c (unread_at (code_of x)) (sym k)

  -- the code that it is kept as is its own
  kept-code : {c : ℕ} → kept_as x ≡ Ok c → (c ≡ code_of x) × (code_of x < 109)
  kept-code {c} h = go (ltb (code_of x) 109) refl h
    where
      go : (b : Bool) → ltb (code_of x) 109 ≡ b → cond b (Ok (code_of x)) (Err (unread_at (code_of x))) ≡ Ok c
          → (c ≡ code_of x) × (code_of x < 109)
      go true e k = (sym (ap inside k), ltb-true (code_of x) 109 e)
      go false e k = apart c (unread_at (code_of x)) (sym k)

  pub plan-move : {c : ℕ} → kept_as x ≡ Ok c → 105 ≤ code_of x → m.ctl.on ≡ true → plan_at n m x ≡ move_of m x
  plan-move h l on = plan-on n m x (omega arith) (kept-code h).1 on ∙ executed-move n m x l

  pub plan-off : {c : ℕ} → kept_as x ≡ Ok c → m.ctl.on ≡ false
      → plan_at n m x ≡ unless (early (kind_at c) m.ctl.mark false) (executed_at n m x)
  plan-off h off =
      plan-code h
      ∙ ap (λ b. unless (early (kind_at (code_of x)) m.ctl.mark b) (executed_at n m x)) off
      ∙ ap (λ k. unless (early (kind_at k) m.ctl.mark false) (executed_at n m x)) (sym (kept-code h).0)

  -- LSA and DLSA go on
  pub sum-off : {c : ℕ} → kept_as x ≡ Ok c → m.ctl.on ≡ false → (o : Scaled) → c ≡ scaled_code o
      → plan_at n m x ≡ sum_in m x (scaled_of o)
  sum-off {c} h off Lsa is =
      let e : code_of x ≡ 2 = sym (kept-code h).0 ∙ is in
      plan-off h off ∙ ap (λ k. unless (early (kind_at k) m.ctl.mark false) (executed_at n m x)) is
      ∙ executed-common n m x (omega (arith, e)) ∙ rw e
  sum-off {c} h off Dlsa is =
      let e : code_of x ≡ 3 = sym (kept-code h).0 ∙ is in
      plan-off h off ∙ ap (λ k. unless (early (kind_at k) m.ctl.mark false) (executed_at n m x)) is
      ∙ executed-common n m x (omega (arith, e)) ∙ rw e

-- of the codes that go on with the unit off, the one that is not 2
switched-stops : (k : Mark) → early Switched k false ≡ Ok tt → ⊥
switched-stops k h = let z : ◌≡◌ {A = ℕ} 0 1 = cc in omega arith

branching-stops : (k : Mark) → early Branching k false ≡ Ok tt → ⊥
branching-stops Clear h = let z : ◌≡◌ {A = ℕ} 0 1 = cc in omega arith
branching-stops NotTaken h = let z : ◌≡◌ {A = ℕ} 0 1 = cc in omega arith
branching-stops (Taken t) h = let z : ◌≡◌ {A = ℕ} 0 1 = cc in omega arith

pub third-code : (c : ℕ) (k : Mark) → early (kind_at c) k false ≡ Ok tt → (c ≡ 2 → ⊥) → c ≡ 3
third-code c k h two = go (ltb c 2) refl (ltb c 4) refl (ltb c 8) refl h
  where
    go : (a : Bool) → ltb c 2 ≡ a → (b : Bool) → ltb c 4 ≡ b → (d : Bool) → ltb c 8 ≡ d
        → early (cond a Switched (cond b Free (cond d Branching Switched))) k false ≡ Ok tt → c ≡ 3
    go true e b f d g q = absurd (switched-stops k q)
    go false e true f d g q =
        let low = ltb-false c 2 e in let high = ltb-true c 4 f in omega (arith, low, high, two)
    go false e false f true g q = absurd (branching-stops k q)
    go false e false f false g q = absurd (switched-stops k q)
