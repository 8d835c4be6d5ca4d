-- Why the next step would stop (request 6/12): how it would end, by the step itself, and behind a stop the word and the
-- fact. The call is lent everything for reading, so there is nothing after it to say.
use Rattle.std.specs.Prelude.{◌≡◌, ℕ, List, Ok, Err, Result, Option, unwrap_or, ⊤}
use Rattle.state.specs.declared.setup.Refusal.{Refusal}
use Rattle.state.specs.declared.stops.Stop.{Stop}
use Rattle.state.specs.declared.stops.Stop.TheVariants as stop
use Rattle.state.specs.Fetch.{fetched}
use Rattle.state.specs.Machine.{Env, Machine}
use Rattle.state.specs.Setup.{refusal}
use Rattle.machine.specs.declared.why.Cause.{Cause}
use Rattle.machine.specs.Numbers.{answer_number, answer_carried}
use Rattle.machine.specs.Step.{step_of}

-- the word at the counter, and 0 where there is none
abbrev pub word_here : Option ℕ → ℕ
word_here f = unwrap_or f 0

-- the word behind a stop, where the word w stands at the counter: of 11 there is none, 0
abbrev pub stop_word : ℕ → Stop → ℕ
stop_word w stop.NoWord = 0
stop_word w (stop.Unread u) = w
stop_word w stop.BranchInSlot = w
stop_word w stop.SwitchedOff = w
stop_word w (stop.NoWindow x) = w
stop_word w (stop.ReadOnly x) = w
stop_word w (stop.Trap bits) = w

-- the fact behind a stop, at the counter pc where the word w stands: of 11 the counter; of 12 to 15 the word; of 16 the
-- switch, which is off, 0; of 17 to 19 what the stop carries
abbrev pub stop_fact : ℕ → ℕ → Stop → ℕ
stop_fact pc w stop.NoWord = pc
stop_fact pc w (stop.Unread u) = w
stop_fact pc w stop.BranchInSlot = w
stop_fact pc w stop.SwitchedOff = 0
stop_fact pc w (stop.NoWindow x) = x
stop_fact pc w (stop.ReadOnly x) = x
stop_fact pc w (stop.Trap bits) = bits

-- word and fact are 0 where the instruction would be finished
abbrev pub cause_of : ℕ → ℕ → Result ⊤ Stop → Cause
cause_of pc w (Ok tt) = record { answer = Ok (Ok tt); word = 0; fact = 0 }
cause_of pc w (Err s) = record { answer = Ok (Err s); word = stop_word w s; fact = stop_fact pc w s }

unfoldable pub next_of : List ℕ → Env → Machine → Cause
next_of p e m =
    cause_of m.ctl.pc (word_here (fetched p e.board.program m.ctl.pc)) (step_of p e m).outcome

-- with its set-up limits: a refused one has no word and no fact
abbrev pub unless_refused : Result ⊤ Refusal → Cause → Cause
unless_refused (Ok tt) y = y
unless_refused (Err r) y = record { answer = Err r; word = 0; fact = 0 }

abbrev pub why_of : List ℕ → Env → Machine → Cause
why_of p e m = unless_refused (refusal p e m) (next_of p e m)

-- what the call promises: the answer r says what the definition's answer s says
pub record WhyIs (s r : Cause) : Type 0 where
  pub answer : answer_number r.answer ≡ answer_number s.answer
  pub carried : answer_carried r.answer ≡ answer_carried s.answer
  pub word : r.word ≡ s.word
  pub fact : r.fact ≡ s.fact
