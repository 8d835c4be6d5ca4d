-- `plan::planned::execute`: in each arm the instruction is known, and so is what the reader keeps of it.
use borrow.Author.Rules.{rules}
use Rattle.words.proofs.Fixed.{fixed-narrow}
use Rattle.plan.proofs.planned.execute.Goals as goal

pub address-requires : goal.address-requires
address-requires c =
    let f = rw c.in-Memory.is
    at c.requires
    in
    search rules

pub scaled-requires : goal.scaled-requires
scaled-requires c =
    let f = rw c.in-Scaled.is
    at c.requires
    in
    search rules

pub fixed-requires : goal.fixed-requires
fixed-requires c =
    let f = rw c.in-Fixed.is at c.requires in
    fixed-narrow _ _ f.3 f.4

pub returns-in-Three : goal.returns-in-Three
returns-in-Three c = rw (c.in-Three.is, ← c.three_at.ensures) c.three.ensures

pub returns-in-Indexed : goal.returns-in-Indexed
returns-in-Indexed c =
    rw (
      c.in-Indexed.is,
      ← c.indexed_at.ensures,
      ← c.general.ensures,
    )
    c.indexed.ensures

pub returns-in-Imm5U : goal.returns-in-Imm5U
returns-in-Imm5U c = rw (c.in-Imm5U.is, ← c.imm5_at.ensures) c.imm5.ensures

pub returns-in-Imm5S : goal.returns-in-Imm5S
returns-in-Imm5S c = rw (c.in-Imm5S.is, ← c.imm5_at-in-Imm5S.ensures) c.imm5-in-Imm5S.ensures

pub returns-in-Ldi : goal.returns-in-Ldi
returns-in-Ldi c = rw c.in-Ldi.is c.ldi.ensures

pub returns-in-Bit : goal.returns-in-Bit
returns-in-Bit c = rw (c.in-Bit.is, ← c.bit_at.ensures) c.bit.ensures

pub returns-in-Imm8 : goal.returns-in-Imm8
returns-in-Imm8 c = rw (c.in-Imm8.is, ← c.logic_at.ensures) c.imm8.ensures

pub returns-in-Shf : goal.returns-in-Shf
returns-in-Shf c = rw c.in-Shf.is c.shf.ensures

pub returns-in-Element : goal.returns-in-Element
returns-in-Element c = rw (c.in-Element.is, ← c.indexed_at-in-Element.ensures) c.element.ensures

pub returns-in-Insve : goal.returns-in-Insve
returns-in-Insve c = rw c.in-Insve.is c.insve.ensures

pub returns-in-Copy : goal.returns-in-Copy
returns-in-Copy c = rw (c.in-Copy.is, ← c.copied_at.ensures) c.copy.ensures

pub returns-in-Insert : goal.returns-in-Insert
returns-in-Insert c = rw (c.in-Insert.is, ← c.general-in-Insert.ensures) c.insert.ensures

pub returns-in-Move : goal.returns-in-Move
returns-in-Move c = rw c.in-Move.is c.copied.ensures

pub returns-in-Cfcmsa : goal.returns-in-Cfcmsa
returns-in-Cfcmsa c = rw c.in-Cfcmsa.is c.from_control.ensures

pub returns-in-Ctcmsa : goal.returns-in-Ctcmsa
returns-in-Ctcmsa c = rw (c.in-Ctcmsa.is, ← c.general-in-Ctcmsa.ensures) c.to_control.ensures

pub returns-in-Vec : goal.returns-in-Vec
returns-in-Vec c = rw (c.in-Vec.is, ← c.logic_at-in-Vec.ensures) c.vec.ensures

pub returns-in-Fill : goal.returns-in-Fill
returns-in-Fill c = rw (c.in-Fill.is, ← c.general-in-Fill.ensures) c.fill.ensures

pub returns-in-Count : goal.returns-in-Count
returns-in-Count c = rw (c.in-Count.is, ← c.count_at.ensures) c.count.ensures

pub returns-in-Memory : goal.returns-in-Memory
returns-in-Memory c =
    rw (
      c.in-Memory.is,
      ← c.memory_at.ensures,
      ← c.general-in-Memory.ensures,
      ← c.address.ensures,
    )
    c.access.ensures

pub returns-in-Branch : goal.returns-in-Branch
returns-in-Branch c = rw (c.in-Branch.is, ← c.zero_at.ensures) c.branch-zero_at.ensures

pub returns-in-BranchV : goal.returns-in-BranchV
returns-in-BranchV c = rw (c.in-BranchV.is, ← c.zero_at-in-BranchV.ensures) c.branch_v.ensures

pub returns-in-Scaled : goal.returns-in-Scaled
returns-in-Scaled c =
    rw (
      c.in-Scaled.is,
      ← c.scaled_at.ensures,
      ← c.general-in-Scaled.ensures,
      ← c.general-in-Scaled-2.ensures,
    )
    c.scaled.ensures

pub returns-in-Fixed : goal.returns-in-Fixed
returns-in-Fixed c = rw (c.in-Fixed.is, ← c.fixed_at.ensures) c.fixed.ensures
