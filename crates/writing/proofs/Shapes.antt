-- Each instruction has seven fields that fill a word. Assumes nothing.
use mathlib.Core.Path.{◌≡◌, refl}
use mathlib.Core.List.{[], ◌∷◌}
use Prim.Native.Nat.{ℕ}
use Rattle.isa.specs.declared.Instr.{Instr}
use Rattle.isa.specs.declared.Instr.TheVariants as instr
use Rattle.fields.specs.Fields.{total}
use Rattle.writing.specs.Writing.{Shaped, layout_of}

seven : {a b c d e f g a' b' c' d' e' f' g' : ℕ} → total (a ∷ b ∷ c ∷ d ∷ e ∷ f ∷ g ∷ []) ≡ 32
    → Shaped (a ∷ b ∷ c ∷ d ∷ e ∷ f ∷ g ∷ []) (a' ∷ b' ∷ c' ∷ d' ∷ e' ∷ f' ∷ g' ∷ [])
seven e = record { fields = refl; filled = refl; whole = e }

pub shaped : (i : Instr) → Shaped (layout_of i).widths (layout_of i).values
shaped (instr.Three k df wd ws wt) = seven refl
shaped (instr.Indexed k df wd ws rt) = seven refl
shaped (instr.Imm5U k df wd ws imm) = seven refl
shaped (instr.Imm5S k df wd ws imm) = seven refl
shaped (instr.Ldi df wd imm) = seven refl
shaped (instr.Bit k df wd ws m) = seven refl
shaped (instr.Imm8 k wd ws imm) = seven refl
shaped (instr.Shf df wd ws imm) = seven refl
shaped (instr.Element k df wd ws n) = seven refl
shaped (instr.Insve df wd n ws) = seven refl
shaped (instr.Copy k df rd ws n) = seven refl
shaped (instr.Insert df wd n rs) = seven refl
shaped (instr.Move wd ws) = seven refl
shaped (instr.Cfcmsa rd cs) = seven refl
shaped (instr.Ctcmsa cd rs) = seven refl
shaped (instr.Vec k wd ws wt) = seven refl
shaped (instr.Fill df wd rs) = seven refl
shaped (instr.Count k df wd ws) = seven refl
shaped (instr.Memory k df wd offset rs) = seven refl
shaped (instr.Branch k df wt offset) = seven refl
shaped (instr.BranchV k wt offset) = seven refl
shaped (instr.Scaled k rd rs rt sa) = seven refl
shaped (instr.Fixed k df wd ws wt) = seven refl
