-- The answers of `msa_why` are those of the definition's call, in the numbers that the C entry makes of them. Assumes
-- nothing.
use mathlib.Core.Path.{◌≡◌, refl, ap, ◌∙◌}
use native.Mathlib.Omega.{arith}
use Rattle.isa.specs.declared.Unread.{Unread}
use Rattle.isa.specs.declared.Unread.TheVariants.{Unassigned, LeftOut, Other}
use Rattle.state.specs.declared.stops.Stop.TheVariants as stop
use Rattle.state.specs.Numbers.{refusal_number}
use Rattle.state.specs.Setup.{refusal}
use Rattle.std.specs.Prelude.{Ok, Err, Result, ⊤}
use Rattle.state.specs.declared.stops.Stop.{Stop}
use Rattle.state.specs.declared.setup.Refusal.{Refusal}
use Rattle.machine.specs.Numbers.{answer_number, answer_missing}
use Rattle.machine.specs.Run.{whole_run}
use Rattle.machine.specs.Step.{whole_step}
use Rattle.machine.specs.Why.{why_of}
use Rattle.entry.specs.declared.MsaWhy.{MsaWhy}
use Rattle.entry.specs.Why.{answer_kind}
use Rattle.demands.proofs.Answers.{refusal-between}
use Rattle.demands.proofs.Why.{same_answer, whole_says, fact-missing, ends-likewise}
use Rattle.entry_demands.specs.Calls.{Given, Lent, env_of, machine_of}
use Rattle.entry_demands.specs.Why.{WhyCall, KindIs, nothing, counter, word, switch, address, bits}
use Rattle.entry_demands.specs.Why.{WhyCalled, Agrees, WhyOfStep, WhyOfRun}
use Rattle.entry_demands.proofs.GoesOn.{left-machine}
use Rattle.entry_demands.proofs.Order.{run-keeps-order, same-env}

-- ---- kinds

kind-is : (a : Result (Result ⊤ Stop) Refusal) → KindIs (answer_number a) (answer_kind a)
kind-is (Err r) = nothing (refusal_number r) (omega (arith, (refusal-between r).1))
kind-is (Ok (Ok tt)) = nothing 0 (omega arith)
kind-is (Ok (Err stop.NoWord)) = counter
kind-is (Ok (Err (stop.Unread Unassigned))) = word 12 (omega arith) (omega arith)
kind-is (Ok (Err (stop.Unread LeftOut))) = word 13 (omega arith) (omega arith)
kind-is (Ok (Err (stop.Unread Other))) = word 14 (omega arith) (omega arith)
kind-is (Ok (Err stop.BranchInSlot)) = word 15 (omega arith) (omega arith)
kind-is (Ok (Err stop.SwitchedOff)) = switch
kind-is (Ok (Err (stop.NoWindow x))) = address 17 (omega arith) (omega arith)
kind-is (Ok (Err (stop.ReadOnly x))) = address 18 (omega arith) (omega arith)
kind-is (Ok (Err (stop.Trap b))) = bits

-- ---- the call

pub why-called : WhyCalled
why-called g x u i =
    let p = g.program in
    let e = env_of g x in
    rw i (record { says = whole_says p e (machine_of x); kind = kind-is (why_of p e (machine_of x)).answer })

-- on a machine whose next step answers a
agrees : (g : Given) (x : Lent) (u : MsaWhy) (a : Result (Result ⊤ Stop) Refusal) → WhyCall g x u
    → (whole_step g.program (env_of g x) (machine_of x)).answer ≡ a → Agrees u (answer_number a) (answer_missing a)
agrees g x u a i h =
    let p = g.program in
    let e = env_of g x in
    let m = machine_of x in
    let answer : (why_of p e m).answer ≡ a = same_answer p e m (refusal p e m) ∙ h in
    rw i
    (record {
      number = ap answer_number answer;
      missing = λ k. fact-missing p e m (ap answer_number answer ∙ k) ∙ ap answer_missing h;
    })

pub why-of-step : WhyOfStep
why-of-step g x y r u i j =
    rw (i.reason, i.missing) (agrees g x u (whole_step g.program (env_of g x) (machine_of x)).answer j refl)

pub why-of-run : WhyOfRun
why-of-run g budget x y r u bytes i h j =
    let p = g.program in
    let e = env_of g x in
    let m = machine_of x in
    let alike = ends-likewise p e budget m (λ k. h (i.reason ∙ k)) in
    let env = ap (λ f. (whole_step p f (machine_of y)).answer) (same-env g x y (run-keeps-order g budget x y r i)) in
    let left = ap (λ n. (whole_step p e n).answer) (left-machine g budget x bytes r y i) in
    rw (i.reason, i.missing, ← alike.number, ← alike.missing)
    (agrees g y u (whole_step p e (whole_run p e budget m).after).answer j (env ∙ left))
