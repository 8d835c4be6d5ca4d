-- One answer: what the second engine and its C entry promise leaves room for one answer, and for one later content of
-- the lent memory, the list included.
use Rattle.std.specs.Prelude.{◌≡◌, List, ℕ, Option}
use Rattle.entry.specs.declared.MsaEnded.{MsaEnded}
use Rattle.entry.specs.OneAnswer.{Same}
use Rattle.machine.specs.declared.run.Ended.{Ended}
use Rattle.listed.specs.Run.{Listing, ListedIs}
use Rattle.entry_read.specs.Entry.{ReadsTo}

-- `listed::run::run`
abbrev pub OneListed : Type 0
OneListed =
    (s : Listing) (r r' : Option Ended) (v v' g g' w w' l l' : List ℕ) → ListedIs s r v g w l → ListedIs s r' v' g' w' l'
    → (r ≡ r') × (v ≡ v') × (g ≡ g') × (w ≡ w') × (l ≡ l')

-- `msa_run_read`
abbrev pub OneRead : Type 0
OneRead =
    (s : Listing) (b : List ℕ) (r r' : MsaEnded) (v v' g g' w w' c c' l l' : List ℕ)
    → ReadsTo s r v g w b c l → ReadsTo s r' v' g' w' b c' l'
    → (r ≡ r') × (l ≡ l') × Same v v' g g' w w' c c'
