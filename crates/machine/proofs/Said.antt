-- What a step, a run and the call `why` promise makes their answers the definitions'. Assumes nothing.
use Rattle.std.proofs.Common.{◌≡◌, ℕ, List, refl, ap}
use Rattle.isa.proofs.Apart.{apart}
use Rattle.state.proofs.Named.{Named, refused, stopped, neither, named, named-refusal, named-stop}
use Rattle.machine.specs.declared.run.Reason.{Reason}
use Rattle.machine.specs.declared.run.Reason.TheVariants as reason
use Rattle.std.specs.Prelude.{Ok, Err, Result, ⊤}
use Rattle.state.specs.declared.stops.Stop.{Stop}
use Rattle.state.specs.declared.setup.Refusal.{Refusal}
use Rattle.machine.specs.declared.run.Ended.{Ended}
use Rattle.machine.specs.declared.step.Answered.{Answered}
use Rattle.machine.specs.declared.why.Cause.{Cause}
use Rattle.machine.specs.Numbers.{answer_number, reason_number, answer_carried, reason_carried}
use Rattle.machine.specs.Run.{Run, RunIs}
use Rattle.machine.specs.Step.{Whole, WholeIs}
use Rattle.machine.specs.Why.{WhyIs}

-- the number of an answer and what it carries tell it from every other
told : {A : Type 0} (number carried : A → ℕ) (from : Named → A)
    → ((a : A) → from (named (number a) (carried a)) ≡ a)
    → (a b : A) → number a ≡ number b → carried a ≡ carried b → a ≡ b
told number carried from back a b e f =
    apart {B = ℕ × ℕ} (λ x. (number x, carried x)) (λ t. from (named t.0 t.1)) back a b (λ k. (e k, f k))

abbrev as_answer : Named → Result (Result ⊤ Stop) Refusal
as_answer (refused r) = Err r
as_answer (stopped s) = Ok (Err s)
as_answer neither = Ok (Ok tt)

answer_back : (a : Result (Result ⊤ Stop) Refusal) → as_answer (named (answer_number a) (answer_carried a)) ≡ a
answer_back (Err r) = ap as_answer (named-refusal r 0)
answer_back (Ok (Ok tt)) = refl
answer_back (Ok (Err s)) = ap as_answer (named-stop s)

answer-told : (a b : Result (Result ⊤ Stop) Refusal) → answer_number a ≡ answer_number b → answer_carried a ≡ answer_carried b → a ≡ b
answer-told = told answer_number answer_carried as_answer answer_back

pub answer-is : {s : Whole} {r : Answered} {v g w : List ℕ} → WholeIs s r v g w → r.answer ≡ s.answer
answer-is {s} {r} i = answer-told r.answer s.answer i.answer i.carried

pub why-is : {s r : Cause} → WhyIs s r → r ≡ s
why-is {s} {r} i =
    let answer = answer-told r.answer s.answer i.answer i.carried in
    λ k. record { answer = answer k; word = i.word k; fact = i.fact k }

abbrev as_reason : Named → Reason
as_reason (refused r) = reason.Refused r
as_reason (stopped s) = reason.Stopped s
as_reason neither = reason.Spent

reason-back : (r : Reason) → as_reason (named (reason_number r) (reason_carried r)) ≡ r
reason-back (reason.Refused r) = ap as_reason (named-refusal r 0)
reason-back (reason.Stopped s) = ap as_reason (named-stop s)
reason-back reason.Spent = refl

pub reason-is : {s : Run} {r : Ended} {v g w : List ℕ} → RunIs s r v g w → r.reason ≡ s.reason
reason-is {s} {r} i =
    told reason_number reason_carried as_reason reason-back r.reason s.reason i.reason i.carried
