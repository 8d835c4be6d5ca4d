-- One answer: what the C entry promises leaves room for one answer, and for one later content of the lent memory.
use Rattle.std.specs.Prelude.{◌≡◌, List, ℕ}
use Rattle.machine.specs.Run.{Run}
use Rattle.machine.specs.Step.{Whole}
use Rattle.entry.specs.declared.MsaStepped.{MsaStepped}
use Rattle.entry.specs.declared.MsaEnded.{MsaEnded}
use Rattle.entry.specs.Entry.{StepsTo, RunsTo}

-- the registers, the work window and the control block's bytes after two answers are one
abbrev pub Same : (v v' g g' w w' b b' : List ℕ) → Type 0
Same v v' g g' w w' b b' = (v ≡ v') × (g ≡ g') × (w ≡ w') × (b ≡ b')

abbrev pub OneStep : Type 0
OneStep =
    (s : Whole) (b : List ℕ) (r r' : MsaStepped) (v v' g g' w w' c c' : List ℕ)
    → StepsTo s r v g w b c → StepsTo s r' v' g' w' b c' → (r ≡ r') × Same v v' g g' w w' c c'

abbrev pub OneRun : Type 0
OneRun =
    (s : Run) (b : List ℕ) (r r' : MsaEnded) (v v' g g' w w' c c' : List ℕ)
    → RunsTo s r v g w b c → RunsTo s r' v' g' w' b c' → (r ≡ r') × Same v v' g g' w w' c c'
