-- What the C entry answers and leaves: the definition's answer as document 01's number, with the address that is
-- missing, the registers and the work window after it, and the control block, which is written where an instruction was
-- finished and else keeps every byte.
use Rattle.std.specs.Prelude.{◌≡◌, ℕ, cond, List, eqb, ltb}
use Rattle.order.specs.declared.Order.{Order}
use Rattle.state.specs.declared.board.Board.{Board}
use Rattle.machine.specs.Numbers.{answer_number, reason_number, answer_missing, reason_missing}
use Rattle.machine.specs.Run.{Run}
use Rattle.machine.specs.Step.{Whole}
use Rattle.entry.specs.declared.MsaStepped.{MsaStepped}
use Rattle.entry.specs.declared.MsaEnded.{MsaEnded}
use Rattle.entry.specs.Block.{written}

abbrev pub board : Order → ℕ → ℕ → ℕ → Board
board o p t w = record { program = p; table = t; work = w; order = o }

-- `msa_step` for the step s: the answer r, the vector registers v, the general registers g and the work window w after
-- it, and the bytes of the control block, b before and b' after
pub record StepsTo (s : Whole) (r : MsaStepped) (v g w b b' : List ℕ) : Type 0 where
  pub reason : r.reason ≡ answer_number s.answer
  pub missing : r.missing ≡ answer_missing s.answer
  pub vec : v ≡ s.after.vec
  pub gen : g ≡ s.after.gen
  pub work : w ≡ s.after.work
  pub control : b' ≡ cond (eqb (answer_number s.answer) 0) (written s.after.ctl b) b

-- `msa_run` for the run s
pub record RunsTo (s : Run) (r : MsaEnded) (v g w b b' : List ℕ) : Type 0 where
  pub reason : r.reason ≡ reason_number s.reason
  pub count : r.count ≡ s.count
  pub missing : r.missing ≡ reason_missing s.reason
  pub vec : v ≡ s.after.vec
  pub gen : g ≡ s.after.gen
  pub work : w ≡ s.after.work
  pub control : b' ≡ cond (ltb 0 s.count) (written s.after.ctl b) b
