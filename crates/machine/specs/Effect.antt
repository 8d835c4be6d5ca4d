-- What a plan changes: at most one vector register, one general register or sixteen bytes of the work window; and the control block.
use Rattle.std.specs.Prelude.{ℕ, ◌+◌, ◌-◌, ◌*◌, ◌%◌, ◌^◌, cond, List, ◌==◌}
use Rattle.isa.specs.declared.Greg.{Greg}
use Rattle.memory.specs.Bytes.{replaced, bytes_of}
use Rattle.memory.specs.File.{with_register}
use Rattle.memory.specs.Value.{value}
use Rattle.plan.specs.declared.Plan.{Plan}
use Rattle.plan.specs.declared.Plan.TheVariants.{Stop, Nothing, Vector, General, Store, Csr, Branch}
use Rattle.state.specs.declared.control.Mark.{Mark}
use Rattle.state.specs.declared.control.Mark.TheVariants.{Clear, NotTaken, Taken}
use Rattle.state.specs.declared.control.Control.{Control}
use Rattle.state.specs.Machine.{Machine}

abbrev pub vectors_after : Plan → List ℕ → List ℕ
vectors_after (Stop s) file = file
vectors_after Nothing file = file
vectors_after (Vector r v) file = with_register file r (value v)
vectors_after (General r x) file = file
vectors_after (Store a v) file = file
vectors_after (Csr x) file = file
vectors_after (Branch k) file = file

-- general register r is the eight bytes at 8r; a write to register 0 is dropped
unfoldable pub with_general : List ℕ → Greg → ℕ → List ℕ
with_general generals r x = cond (r.0 == 0) generals (replaced generals (8 * r.0) (bytes_of 8 x))

abbrev pub generals_after : Plan → List ℕ → List ℕ
generals_after (Stop s) generals = generals
generals_after Nothing generals = generals
generals_after (Vector r v) generals = generals
generals_after (General r x) generals = with_general generals r x
generals_after (Store a v) generals = generals
generals_after (Csr x) generals = generals
generals_after (Branch k) generals = generals

-- the work window begins at base
abbrev pub work_after : Plan → ℕ → List ℕ → List ℕ
work_after (Stop s) base work = work
work_after Nothing base work = work
work_after (Vector r v) base work = work
work_after (General r x) base work = work
work_after (Store a v) base work = replaced work (a - base) (bytes_of 16 (value v))
work_after (Csr x) base work = work
work_after (Branch k) base work = work

-- the program counter goes on to the next word, unless the mark that the step found was set and taken
abbrev pub pc_after : Mark → ℕ → ℕ
pc_after Clear pc = (pc + 4) % 2 ^ 64
pc_after NotTaken pc = (pc + 4) % 2 ^ 64
pc_after (Taken t) pc = t

abbrev pub forwarded : Control → Mark → ℕ → Control
forwarded c mark csr = record { pc = pc_after c.mark c.pc; mark = mark; csr = csr; on = c.on }

-- a finished instruction clears the slot mark, unless it is a branch; a stop keeps the control block
abbrev pub control_after : Plan → Control → Control
control_after (Stop s) c = c
control_after Nothing c = forwarded c Clear c.csr
control_after (Vector r v) c = forwarded c Clear c.csr
control_after (General r x) c = forwarded c Clear c.csr
control_after (Store a v) c = forwarded c Clear c.csr
control_after (Csr x) c = forwarded c Clear x
control_after (Branch k) c = forwarded c k c.csr

-- the machine after a plan; its work window begins at base
abbrev pub applied : ℕ → Plan → Machine → Machine
applied base p m =
    record {
      vec = vectors_after p m.vec;
      gen = generals_after p m.gen;
      work = work_after p base m.work;
      ctl = control_after p m.ctl;
    }
