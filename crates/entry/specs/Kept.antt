-- Where no instruction is finished no lent byte is changed: a step whose reason is other than 0, and a run with count
-- 0. A refusal is such a case, and so is a stop at once.
use Rattle.std.specs.Prelude.{◌≡◌, List, ℕ}
use Rattle.state.specs.Machine.{Env, Machine}
use Rattle.machine.specs.Run.{whole_run}
use Rattle.machine.specs.Step.{whole_step}
use Rattle.entry.specs.declared.MsaStepped.{MsaStepped}
use Rattle.entry.specs.declared.MsaEnded.{MsaEnded}
use Rattle.entry.specs.Entry.{StepsTo, RunsTo}

-- the bytes lent for writing are those of the machine m and of the block b
abbrev pub Kept : Machine → (b v g w b' : List ℕ) → Type 0
Kept m b v g w b' = (v ≡ m.vec) × (g ≡ m.gen) × (w ≡ m.work) × (b' ≡ b)

abbrev pub StepKeeps : Type 0
StepKeeps =
    (p : List ℕ) (e : Env) (m : Machine) (r : MsaStepped) (v g w b b' : List ℕ)
    → StepsTo (whole_step p e m) r v g w b b' → (r.reason ≡ 0 → ⊥) → Kept m b v g w b'

abbrev pub RunKeeps : Type 0
RunKeeps =
    (p : List ℕ) (e : Env) (budget : ℕ) (m : Machine) (r : MsaEnded) (v g w b b' : List ℕ)
    → RunsTo (whole_run p e budget m) r v g w b b' → r.count ≡ 0 → Kept m b v g w b'
