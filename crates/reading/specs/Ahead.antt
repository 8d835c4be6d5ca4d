-- What a word says of stops: all that a step's outcome depends on, beside the state that it meets.
use Rattle.std.specs.Prelude.{cond, ℕ, eqb, Ok, Err, Result}
use Rattle.fields.specs.Fields.{bits}
use Rattle.isa.specs.declared.Instr.{Instr}
use Rattle.isa.specs.declared.Instr.TheVariants as instr
use Rattle.isa.specs.declared.Unread.{Unread}
use Rattle.isa.specs.declared.Unread.TheVariants.{Unassigned, Other}
use Rattle.reading.specs.Reading.{Block, branch, special, other}
use Rattle.reading.specs.declared.ahead.Ahead.{Ahead}
use Rattle.reading.specs.declared.ahead.Ahead.TheVariants as ahead

-- LSA and DLSA need no vector unit; branches may stand in a slot; CTCMSA and the loads and stores go on to look at a
-- general register; nothing but the switch stops the others
abbrev pub ahead_in : Instr → Ahead
ahead_in (instr.Three o df wd ws wt) = ahead.Vector
ahead_in (instr.Indexed o df wd ws rt) = ahead.Vector
ahead_in (instr.Imm5U o df wd ws imm) = ahead.Vector
ahead_in (instr.Imm5S o df wd ws imm) = ahead.Vector
ahead_in (instr.Ldi df wd imm) = ahead.Vector
ahead_in (instr.Bit o df wd ws m) = ahead.Vector
ahead_in (instr.Imm8 o wd ws imm) = ahead.Vector
ahead_in (instr.Shf df wd ws imm) = ahead.Vector
ahead_in (instr.Element o df wd ws n) = ahead.Vector
ahead_in (instr.Insve df wd n ws) = ahead.Vector
ahead_in (instr.Copy o df rd ws n) = ahead.Vector
ahead_in (instr.Insert df wd n rs) = ahead.Vector
ahead_in (instr.Move wd ws) = ahead.Vector
ahead_in (instr.Cfcmsa rd cs) = ahead.Vector
ahead_in (instr.Ctcmsa cd rs) = ahead.Control cd rs
ahead_in (instr.Vec o wd ws wt) = ahead.Vector
ahead_in (instr.Fill df wd rs) = ahead.Vector
ahead_in (instr.Count o df wd ws) = ahead.Vector
ahead_in (instr.Memory o df wd offset rs) = ahead.Memory o df offset rs
ahead_in (instr.Branch o df wt offset) = ahead.Branch
ahead_in (instr.BranchV o wt offset) = ahead.Branch
ahead_in (instr.Scaled o rd rs rt sa) = ahead.Free
ahead_in (instr.Fixed o df wd ws wt) = ahead.Vector

abbrev pub ahead_of : Result Instr Unread → Ahead
ahead_of (Err u) = ahead.Not u
ahead_of (Ok i) = ahead_in i

-- ---- parts of the reader's definition that its code and this share

-- 12 or 14 of a word that is no instruction
abbrev pub no_instr : ℕ → Unread
no_instr w = cond (eqb (bits w 31 26) 30) Unassigned Other

-- the tables of the other major opcodes than 011110
abbrev pub other_block : ℕ → Block
other_block w = cond (eqb (bits w 31 26) 17) branch (cond (eqb (bits w 31 26) 0) special other)
