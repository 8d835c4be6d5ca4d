-- What a step reads and what it changes.
use Rattle.std.specs.Prelude.{ℕ, List}
use Rattle.state.specs.declared.board.Board.{Board}
use Rattle.state.specs.declared.control.Control.{Control}

-- what no step changes: where things stand, the byte order, and the bytes of the read-only table
pub record Env : Type 0 where
  pub board : Board
  pub table : List ℕ

-- what a step may change: the bytes of the vector registers, of the general registers and of the work window, and the control block
pub record Machine : Type 0 where
  pub vec : List ℕ
  pub gen : List ℕ
  pub work : List ℕ
  pub ctl : Control

abbrev pub env : Board → List ℕ → Env
env b t = record { board = b; table = t }

abbrev pub machine : List ℕ → List ℕ → List ℕ → Control → Machine
machine v g w c = record { vec = v; gen = g; work = w; ctl = c }
