-- The budget that `msa_budget` answers is enough: the lent block reads as one at that counter with a clear slot mark,
-- or is refused (`budget-enough`). Assumes nothing.
use mathlib.Core.Path.{◌≡◌, refl, sym, ap, ◌∙◌}
use mathlib.Core.Bool.{true, ◌&&◌}
use mathlib.Core.List.{List}
use Prim.Native.Nat.{ℕ, ◌<◌}
use native.Mathlib.Omega.{arith}
use lib.Dec.{eqb, leb}
use lib.ListN.{length}
use Rattle.state.specs.declared.control.Control.{Control}
use Rattle.state.specs.declared.control.Mark.TheVariants.{Clear}
use Rattle.std.specs.Prelude.{Ok, Err, Result, ⊤}
use Rattle.state.specs.declared.setup.Refusal.{Refusal}
use Rattle.state.specs.Setup.{refusal}
use Rattle.state.proofs.TestLaws.{and_left, and_right}
use Rattle.machine.specs.declared.run.Reason.TheVariants.{Spent}
use Rattle.machine.specs.Run.{whole_run}
use Rattle.entry.specs.Block.{field, byte, block, decoded}
use Rattle.entry.specs.Layout.{in_layout}
use Rattle.demands.specs.Budget.{Budget}
use Rattle.demands.specs.Tables.{Not, little}
use Rattle.demands.proofs.Answers.{reasoned}
use Rattle.demands.proofs.Budget.{budget-is, budget-enough}
use Rattle.demands.proofs.Demand1.{refused-run}
use Rattle.demands.proofs.Little.{little-number}
use Rattle.entry_demands.specs.Budget.{BudgetCalled}
use Rattle.entry_demands.specs.Calls.{env_of, machine_of}
use Rattle.entry_demands.proofs.GoesOn.{twenty}
use Rattle.entry_demands.proofs.Order.{in-layout}

-- bytes of the layout whose mark is 0 read as a block with a clear mark
clear-block : (b : List ℕ) → in_layout b ≡ true → little b 20 2 ≡ 0 → decoded b ≡ block b Clear
unfolding decoded
clear-block b h z =
    let long = eqb (length b) 24 in
    let mark = leb (field b 20 2) 2 in
    let switch = leb (byte b 22) 1 in
    let order = leb (byte b 23) 1 in
    let three : long && mark && switch ≡ true = and_left (long && mark && switch) order h in
    rw (
      sym (little-number b 20 2) ∙ z,
      and_left long mark (and_left (long && mark) switch three),
      and_right (long && mark) switch three,
      and_right (long && mark && switch) order h,
    )

pub budget-called : BudgetCalled
budget-called g b budget x y r q some l clear i =
    let ran = go (refusal g.program (env_of g x) (machine_of x)) refl in (
      rw i.count ran.0,
      λ h. ran.1 (twenty _ (reasoned _) (sym i.reason ∙ h)),
    )
  where
    go : (s : Result ⊤ Refusal) → refusal g.program (env_of g x) (machine_of x) ≡ s
        → ((whole_run g.program (env_of g x) budget (machine_of x)).count < b)
        × Not ((whole_run g.program (env_of g x) budget (machine_of x)).reason ≡ Spent)
    go (Ok tt) h =
        let is = clear-block x.control (in-layout g.program (env_of g x) x h) clear in
        let counter : (decoded x.control).pc ≡ little x.control 0 8 =
        ap (λ (c : Control). c.pc) is ∙ sym (little-number x.control 0 8)
        in
        let answer : Budget g.program g.program_base (decoded x.control).pc b =
        rw (counter, q) (budget-is g.program g.program_base (little x.control 0 8))
        in
        budget-enough g.program (env_of g x) (machine_of x) b budget answer some l (ap (λ (c : Control). c.mark) is)
    go (Err u) h =
        rw (refused-run g.program (env_of g x) budget (machine_of x) u h)
        (some, λ e. let z : ◌≡◌ {A = ℕ} 0 1 = cc in omega arith)
