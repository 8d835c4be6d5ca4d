-- `plan::planned::kind_of`: by the instruction's class.
use Rattle.plan.proofs.planned.kind_of.Goals as goal

pub returns-in-Three : goal.returns-in-Three
returns-in-Three c = rw c.in-Three.is

pub returns-in-Indexed : goal.returns-in-Indexed
returns-in-Indexed c = rw c.in-Indexed.is

pub returns-in-Imm5U : goal.returns-in-Imm5U
returns-in-Imm5U c = rw c.in-Imm5U.is

pub returns-in-Imm5S : goal.returns-in-Imm5S
returns-in-Imm5S c = rw c.in-Imm5S.is

pub returns-in-Ldi : goal.returns-in-Ldi
returns-in-Ldi c = rw c.in-Ldi.is

pub returns-in-Bit : goal.returns-in-Bit
returns-in-Bit c = rw c.in-Bit.is

pub returns-in-Imm8 : goal.returns-in-Imm8
returns-in-Imm8 c = rw c.in-Imm8.is

pub returns-in-Shf : goal.returns-in-Shf
returns-in-Shf c = rw c.in-Shf.is

pub returns-in-Element : goal.returns-in-Element
returns-in-Element c = rw c.in-Element.is

pub returns-in-Insve : goal.returns-in-Insve
returns-in-Insve c = rw c.in-Insve.is

pub returns-in-Copy : goal.returns-in-Copy
returns-in-Copy c = rw c.in-Copy.is

pub returns-in-Insert : goal.returns-in-Insert
returns-in-Insert c = rw c.in-Insert.is

pub returns-in-Move : goal.returns-in-Move
returns-in-Move c = rw c.in-Move.is

pub returns-in-Cfcmsa : goal.returns-in-Cfcmsa
returns-in-Cfcmsa c = rw c.in-Cfcmsa.is

pub returns-in-Ctcmsa : goal.returns-in-Ctcmsa
returns-in-Ctcmsa c = rw c.in-Ctcmsa.is

pub returns-in-Vec : goal.returns-in-Vec
returns-in-Vec c = rw c.in-Vec.is

pub returns-in-Fill : goal.returns-in-Fill
returns-in-Fill c = rw c.in-Fill.is

pub returns-in-Count : goal.returns-in-Count
returns-in-Count c = rw c.in-Count.is

pub returns-in-Memory : goal.returns-in-Memory
returns-in-Memory c = rw c.in-Memory.is

pub returns-in-Branch : goal.returns-in-Branch
returns-in-Branch c = rw c.in-Branch.is

pub returns-in-BranchV : goal.returns-in-BranchV
returns-in-BranchV c = rw c.in-BranchV.is

pub returns-in-Scaled : goal.returns-in-Scaled
returns-in-Scaled c = rw c.in-Scaled.is

pub returns-in-Fixed : goal.returns-in-Fixed
returns-in-Fixed c = rw c.in-Fixed.is
