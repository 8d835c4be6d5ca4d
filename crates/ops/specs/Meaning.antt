-- What the operation at a place does: the last column of the table, class by class. A place that is no operation of the
-- class is given what is said first here; no word reads as such an instruction, and none is written.
use Rattle.std.specs.Prelude.{cond, List, [], ◌∷◌, ◌++◌, ℕ, eqb}
use Rattle.isa.specs.declared.Three.{Three}
use Rattle.isa.specs.declared.Three.TheVariants as three
use Rattle.isa.specs.declared.Indexed.{Indexed}
use Rattle.isa.specs.declared.Indexed.TheVariants.{Splat}
use Rattle.isa.specs.declared.Compare.TheVariants.{CleS}
use Rattle.isa.specs.declared.Arith.{Arith}
use Rattle.isa.specs.declared.Arith.TheVariants as arith
use Rattle.isa.specs.declared.Rounding.TheVariants.{Srlr}
use Rattle.isa.specs.declared.BitOp.{BitOp}
use Rattle.isa.specs.declared.BitOp.TheVariants as bit
use Rattle.isa.specs.declared.Logic.{Logic}
use Rattle.isa.specs.declared.Logic.TheVariants.{Bsel}
use Rattle.isa.specs.declared.Copied.{Copied}
use Rattle.isa.specs.declared.Copied.TheVariants.{CopyU}
use Rattle.isa.specs.declared.Count.{Count}
use Rattle.isa.specs.declared.Count.TheVariants.{Nlzc}
use Rattle.isa.specs.declared.Memory.{Memory}
use Rattle.isa.specs.declared.Memory.TheVariants.{St}
use Rattle.isa.specs.declared.Zero.{Zero}
use Rattle.isa.specs.declared.Zero.TheVariants.{Bnz}
use Rattle.isa.specs.declared.Scaled.{Scaled}
use Rattle.isa.specs.declared.Scaled.TheVariants.{Dlsa}
use Rattle.isa.specs.declared.Fixed.{Fixed}
use Rattle.isa.specs.declared.Fixed.TheVariants.{MsubrQ}
use Rattle.ops.specs.Table.{Line, threes, indexeds, imm5_us, imm5_ss, bits, imm8s, elements, copies, vecs, counts}
use Rattle.ops.specs.Table.{memories, branches, branch_vs, scaleds, fixeds}

-- what the line of place k does, and where none has it, what is said first
abbrev pub meant : {A : Type 0} → A → ℕ → List (Line A) → A
meant other k [] = other
meant other k (l ∷ ls) = cond (eqb l.place k) l.does (meant other k ls)

unfoldable pub three_at : ℕ → Three
three_at k = meant three.Vshf k threes

unfoldable pub indexed_at : ℕ → Indexed
indexed_at k = meant Splat k (indexeds ++ elements)

unfoldable pub imm5_at : ℕ → Arith
imm5_at k = meant (arith.Compare CleS) k (imm5_us ++ imm5_ss)

unfoldable pub bit_at : ℕ → BitOp
bit_at k = meant (bit.Rounding Srlr) k bits

unfoldable pub logic_at : ℕ → Logic
logic_at k = meant Bsel k (imm8s ++ vecs)

unfoldable pub copied_at : ℕ → Copied
copied_at k = meant CopyU k copies

unfoldable pub count_at : ℕ → Count
count_at k = meant Nlzc k counts

unfoldable pub memory_at : ℕ → Memory
memory_at k = meant St k memories

unfoldable pub zero_at : ℕ → Zero
zero_at k = meant Bnz k (branches ++ branch_vs)

unfoldable pub scaled_at : ℕ → Scaled
scaled_at k = meant Dlsa k scaleds

unfoldable pub fixed_at : ℕ → Fixed
fixed_at k = meant MsubrQ k fixeds
