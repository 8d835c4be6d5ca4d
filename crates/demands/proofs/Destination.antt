-- An instruction names the vector registers that its line shows, class by class. Assumes nothing.
use mathlib.Core.Path.{◌≡◌, refl}
use mathlib.Core.List.{[], ◌∷◌}
use Rattle.isa.specs.declared.Instr.TheVariants as instr
use Rattle.isa.specs.declared.Memory.{Memory}
use Rattle.isa.specs.declared.Memory.TheVariants.{Ld, St}
use Rattle.ops.specs.Meaning.{memory_at}
use Rattle.demands.specs.Destination.{Access, accessing, vectors_named, NamesShown}

access-named : (o : Memory) (x : Access) → vectors_named (accessing o x) ≡ x.wd ∷ []
access-named Ld x = refl
access-named St x = refl

pub names-shown : NamesShown
names-shown (instr.Three k df wd ws wt) = refl
names-shown (instr.Indexed k df wd ws rt) = refl
names-shown (instr.Imm5U k df wd ws imm) = refl
names-shown (instr.Imm5S k df wd ws imm) = refl
names-shown (instr.Ldi df wd imm) = refl
names-shown (instr.Bit k df wd ws n) = refl
names-shown (instr.Imm8 k wd ws imm) = refl
names-shown (instr.Shf df wd ws imm) = refl
names-shown (instr.Element k df wd ws n) = refl
names-shown (instr.Insve df wd n ws) = refl
names-shown (instr.Copy k df rd ws n) = refl
names-shown (instr.Insert df wd n rs) = refl
names-shown (instr.Move wd ws) = refl
names-shown (instr.Cfcmsa rd cs) = refl
names-shown (instr.Ctcmsa cd rs) = refl
names-shown (instr.Vec k wd ws wt) = refl
names-shown (instr.Fill df wd rs) = refl
names-shown (instr.Count k df wd ws) = refl
names-shown (instr.Memory k df wd s10 rs) =
    access-named (memory_at k.0) (record { df = df; wd = wd; s10 = s10; rs = rs })
names-shown (instr.Branch k df wt offset) = refl
names-shown (instr.BranchV k wt offset) = refl
names-shown (instr.Scaled k rd rs rt sa) = refl
names-shown (instr.Fixed k df wd ws wt) = refl
