-- `values::others::other` meets its contract: an arm a code, and the last is of the one code that is left.
use borrow.Author.Rules.{rules}
use mathlib.Core.Path.{◌≡◌, refl}
use Rattle.isa.specs.declared.Saturate.TheVariants.{SatS, SatU}
use Rattle.each.specs.Lanes.{each_lane}
use Rattle.state.specs.Machine.{machine}
use Rattle.acts.specs.Act.{values}
use Rattle.values.proofs.OtherArms.{of-value, saturated, unsaid}
use Rattle.values.proofs.others.other.Goals as goal

pub returns-in-88 : goal.returns-in-88
returns-in-88 c work control = let a = c.args in
    of-value (machine a.vectors.now a.generals.now work control) _ c.in-88.is c.code_of.ensures.0
    (rw (
      ← c.width_of-w.ensures,
      ← c.dest.ensures.exact,
      ← c.source.ensures.exact,
      ← (rw c.third_of.ensures.0 at c.scalar.ensures),
    ) c.slide.ensures)

pub returns-in-89 : goal.returns-in-89
returns-in-89 c work control = let a = c.args in
    of-value (machine a.vectors.now a.generals.now work control) _ c.in-89.is c.code_of.ensures.0
    (rw (
      ← c.width_of-w.ensures,
      ← c.source-in-89.ensures.exact,
      ← (rw c.third_of-in-89.ensures.0 at c.scalar-in-89.ensures),
    ) c.splat.ensures)

pub returns-in-90 : goal.returns-in-90
unfolding each_lane
returns-in-90 c work control = let a = c.args in
    saturated (machine a.vectors.now a.generals.now work control) _ c.in-90.is c.code_of.ensures.0 SatS
    c.width_of-w.ensures c.source-s.ensures c.imm_of.ensures.0 c.spread-t.ensures refl (search rules) (search rules)

pub returns-in-91 : goal.returns-in-91
unfolding each_lane
returns-in-91 c work control = let a = c.args in
    saturated (machine a.vectors.now a.generals.now work control) _ c.in-91.is c.code_of.ensures.0 SatU
    c.width_of-w.ensures c.source-s-in-91.ensures c.imm_of-in-91.ensures.0 c.spread-t-in-91.ensures refl (search rules) (search rules)

pub returns-in-92 : goal.returns-in-92
returns-in-92 c work control = let a = c.args in
    of-value (machine a.vectors.now a.generals.now work control) _ c.in-92.is c.code_of.ensures.0
    (rw (← c.width_of-w.ensures, ← (rw c.source_of.ensures.0 at c.scalar-in-92.ensures)) c.spread.ensures)

pub returns-in-93 : goal.returns-in-93
returns-in-93 c work control = let a = c.args in
    of-value (machine a.vectors.now a.generals.now work control) _ c.in-93.is c.code_of.ensures.0
    (rw (← c.width_of-w.ensures, ← c.source-in-93.ensures.exact, ← c.imm_of-in-93.ensures.0) c.shf.ensures)

pub returns-in-94 : goal.returns-in-94
returns-in-94 c work control = let a = c.args in
    of-value (machine a.vectors.now a.generals.now work control) _ c.in-94.is c.code_of.ensures.0
    (rw (
      ← c.source-s-in-94.ensures.exact,
      ← c.inserted.ensures,
      ← c.width_of-w.ensures,
      ← c.dest-in-94.ensures.exact,
      ← c.imm_of-in-94.ensures.0,
    )
    c.insert.ensures)

pub returns-in-95 : goal.returns-in-95
returns-in-95 c work control = let a = c.args in
    of-value (machine a.vectors.now a.generals.now work control) _ c.in-95.is c.code_of.ensures.0
    c.source-in-95.ensures.is

pub returns-in-96 : goal.returns-in-96
returns-in-96 c work control = let a = c.args in
    of-value (machine a.vectors.now a.generals.now work control) _ c.in-96.is c.code_of.ensures.0
    (rw (← c.width_of-w.ensures, ← c.source-in-96.ensures.exact) c.counted.ensures)

pub returns-in-97 : goal.returns-in-97
returns-in-97 c work control = let a = c.args in
    of-value (machine a.vectors.now a.generals.now work control) _ c.in-97.is c.code_of.ensures.0
    (rw (← c.width_of-w.ensures, ← c.source-in-97.ensures.exact) c.counted-in-97.ensures)

pub returns-in-98 : goal.returns-in-98
returns-in-98 c work control = let a = c.args in
    of-value (machine a.vectors.now a.generals.now work control) _ c.in-98.is c.code_of.ensures.0
    (rw (← c.width_of-w.ensures, ← c.source-in-98.ensures.exact) c.counted-in-98.ensures)

pub returns-in-99 : goal.returns-in-99
returns-in-99 c work control = let a = c.args in
    of-value (machine a.vectors.now a.generals.now work control) _ c.in-99.is c.code_of.ensures.0
    c.multiplied.ensures

pub returns-in-100 : goal.returns-in-100
returns-in-100 c work control = let a = c.args in
    of-value (machine a.vectors.now a.generals.now work control) _ c.in-100.is c.code_of.ensures.0
    c.multiplied-in-100.ensures

pub returns-in-101 : goal.returns-in-101
returns-in-101 c work control = let a = c.args in
    of-value (machine a.vectors.now a.generals.now work control) _ c.in-101.is c.code_of.ensures.0
    c.multiplied-in-101.ensures

pub returns-in-102 : goal.returns-in-102
returns-in-102 c work control = let a = c.args in
    of-value (machine a.vectors.now a.generals.now work control) _ c.in-102.is c.code_of.ensures.0
    c.multiplied-in-102.ensures

pub returns-in-103 : goal.returns-in-103
returns-in-103 c work control = let a = c.args in
    of-value (machine a.vectors.now a.generals.now work control) _ c.in-103.is c.code_of.ensures.0
    c.multiplied-in-103.ensures

pub returns-in_default : goal.returns-in_default
returns-in_default c work control = let a = c.args in
    let m = machine a.vectors.now a.generals.now work control in
    of-value m _ {k = c.code_of.result} refl c.code_of.ensures.0
    (rw (← unsaid _ _ (values m a.e) c.in_default.in_default-own.rest) c.multiplied-in_default.ensures)
