-- What an entry does, by where its code stands. Assumes nothing.
use Rattle.std.proofs.Common.{◌≡◌, ℕ, ◌/◌, ◌<◌, ◌≤◌, Bool, true, false, ltb, refl, ap, ◌∙◌, arith, ltb-false, le-ltb, lt-ltb}
use Rattle.isa.specs.Widths.{bits}
use Rattle.acts.specs.Act.{executed_at, plan_at, kind_at, unread_at, common_of, vector_of, value_of, move_of}
use Rattle.acts.specs.Act.{vreg, dest_in, source_in, third_in}
use Rattle.entries.specs.Cut.{code_of, width_of, dest_of}
use Rattle.ops.specs.Meaning.{three_at}
use Rattle.permute.specs.Permute.{chosen_by_control}
use Rattle.vectors.specs.Register.{whole}
use Rattle.plan.specs.declared.Plan.{Plan}
use Rattle.plan.specs.declared.Plan.TheVariants as plan
use Rattle.plan.specs.declared.planned.Kind.TheVariants.{Switched, Branching}
use Rattle.plan.specs.Plan.{writes, early, branch_early, unless}
use Rattle.state.specs.declared.control.Mark.{Mark}
use Rattle.state.specs.declared.control.Mark.TheVariants.{Clear, NotTaken, Taken}
use Rattle.state.specs.declared.stops.Stop.TheVariants as stop
use Rattle.state.specs.Machine.{Env, Machine}

pub switched : (c : ℕ) → 8 ≤ c → kind_at c ≡ Switched
switched c h = rw (le-ltb c 2 (omega arith), le-ltb c 4 (omega arith), le-ltb c 8 h)

pub branching : (c : ℕ) → 4 ≤ c → c < 8 → kind_at c ≡ Branching
branching c l h = rw (le-ltb c 2 (omega arith), le-ltb c 4 l, lt-ltb c 8 h)

-- the codes of no pair from 2 to 7
pub neither : (k : ℕ) → (k / 2 ≡ 1 → ⊥) → (k / 2 ≡ 2 → ⊥) → (k / 2 ≡ 3 → ⊥) → kind_at k ≡ Switched
neither k h i j = go (ltb k 2) refl
  where
    go : (b : Bool) → ltb k 2 ≡ b → kind_at k ≡ Switched
    go true e = rw e
    go false e = let two = ltb-false k 2 e in switched k (omega arith)

-- VSHF stands at code 80
pub shuffles : (n d s t : ℕ) → vector_of 80 n d s t ≡ whole n (chosen_by_control n d s t)
unfolding vector_of three_at
shuffles n d s t = refl

module _ (n : Env) (m : Machine) (x : ℕ) where
  pub executed-common : code_of x < 8 → executed_at n m x ≡ common_of n m x
  unfolding executed_at
  executed-common h = rw (lt-ltb (code_of x) 8 h)

  pub executed-vector : 8 ≤ code_of x → code_of x < 88
      → executed_at n m x ≡ writes (vreg (dest_of x))
      (vector_of (code_of x) (bits (width_of x)) (dest_in m x) (source_in m x) (third_in m x))
  unfolding executed_at
  executed-vector l h = rw (le-ltb (code_of x) 8 l, lt-ltb (code_of x) 88 h)

  pub executed-value : 88 ≤ code_of x → code_of x < 105 → executed_at n m x ≡ writes (vreg (dest_of x)) (value_of m x)
  unfolding executed_at
  executed-value l h =
      rw (le-ltb (code_of x) 8 (omega arith), le-ltb (code_of x) 88 l, lt-ltb (code_of x) 105 h)

  pub executed-move : 105 ≤ code_of x → executed_at n m x ≡ move_of m x
  unfolding executed_at
  executed-move l =
      rw (le-ltb (code_of x) 8 (omega arith), le-ltb (code_of x) 88 (omega arith), le-ltb (code_of x) 105 l)

  pub plan-instruction : code_of x < 109
      → plan_at n m x ≡ unless (early (kind_at (code_of x)) m.ctl.mark m.ctl.on) (executed_at n m x)
  unfolding plan_at
  plan-instruction h = rw (lt-ltb (code_of x) 109 h)

  pub plan-unread : 109 ≤ code_of x → plan_at n m x ≡ plan.Stop (stop.Unread (unread_at (code_of x)))
  unfolding plan_at
  plan-unread h = rw (le-ltb (code_of x) 109 h)

  -- with the unit on: below 8 the mark may stop it, from 8 on nothing does
  pub plan-common : code_of x < 8 → m.ctl.on ≡ true
      → plan_at n m x ≡ unless (early (kind_at (code_of x)) m.ctl.mark true) (common_of n m x)
  plan-common h on =
      plan-instruction (omega arith)
      ∙ ap (λ b. unless (early (kind_at (code_of x)) m.ctl.mark b) (executed_at n m x)) on
      ∙ ap (λ p. unless (early (kind_at (code_of x)) m.ctl.mark true) p) (executed-common h)

  pub plan-on : 8 ≤ code_of x → code_of x < 109 → m.ctl.on ≡ true → plan_at n m x ≡ executed_at n m x
  plan-on l h on =
      plan-instruction h
      ∙ ap (λ k. unless (early k m.ctl.mark m.ctl.on) (executed_at n m x)) (switched (code_of x) l)
      ∙ ap (λ b. unless (early Switched m.ctl.mark b) (executed_at n m x)) on

  pub plan-quick : 8 ≤ code_of x → code_of x < 88 → m.ctl.on ≡ true
      → plan_at n m x ≡ writes (vreg (dest_of x))
      (vector_of (code_of x) (bits (width_of x)) (dest_in m x) (source_in m x) (third_in m x))
  plan-quick l h on = plan-on l (omega arith) on ∙ executed-vector l h
