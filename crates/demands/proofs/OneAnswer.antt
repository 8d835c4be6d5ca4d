-- Two answers that meet a promise are one: both are what the definition says.
-- Assumes nothing.
use mathlib.Core.Path.{◌≡◌, sym, ◌∙◌}
use Rattle.state.proofs.Said.{fetched-is, setup-is}
use Rattle.machine.proofs.Said.{answer-is, reason-is, why-is}
use Rattle.demands.specs.OneAnswer.{OneAdvance, OneStep, OneRun, OneWhy, OneValue, OneElement, OneRegister}
use Rattle.demands.specs.OneAnswer.{OneSetup, OneFetched}

pub one-advance : OneAdvance
one-advance s r r' v v' g g' w w' i j =
    let o = i.outcome ∙ sym j.outcome in
    let c = i.control ∙ sym j.control in
    (λ k. record { outcome = o k; control = c k }, i.vec ∙ sym j.vec, i.gen ∙ sym j.gen, i.work ∙ sym j.work)

pub one-step : OneStep
one-step s r r' v v' g g' w w' i j =
    let a = answer-is i ∙ sym (answer-is j) in
    let c = i.control ∙ sym j.control in
    (λ k. record { answer = a k; control = c k }, i.vec ∙ sym j.vec, i.gen ∙ sym j.gen, i.work ∙ sym j.work)

pub one-run : OneRun
one-run s r r' v v' g g' w w' i j =
    let a = reason-is i ∙ sym (reason-is j) in
    let n = i.count ∙ sym j.count in
    let c = i.control ∙ sym j.control in
    (λ k. record { reason = a k; count = n k; control = c k }, i.vec ∙ sym j.vec, i.gen ∙ sym j.gen, i.work ∙ sym j.work)

pub one-why : OneWhy
one-why s r r' i j = why-is i ∙ sym (why-is j)

pub one_value : OneValue
one_value A d r r' e f = e ∙ sym f

pub one-element : OneElement
one-element n x r r' e f = e.is ∙ sym f.is

pub one-register : OneRegister
one-register x r r' e f = e.is ∙ sym f.is

pub one-setup : OneSetup
one-setup s r r' e f = setup-is e ∙ sym (setup-is f)

pub one-fetched : OneFetched
one-fetched p base pc r r' e f = fetched-is e ∙ sym (fetched-is f)
