-- `values::quick::quick` meets its contract: an arm a code, and at the codes that are left no operation stands.
use borrow.Author.Rules.{rules}
use mathlib.Core.Path.{◌≡◌, refl}
use mathlib.Core.Bool.{true}
use mathlib.Core.List.{List, [], ◌∷◌}
use Prim.Native.Nat.{ℕ}
use Rattle.isa.specs.declared.Absolute.TheVariants.{MaxA, MinA}
use Rattle.isa.specs.declared.Addition.TheVariants.{AddA, AddsA, AddsS, AddsU, AveS, AveU, AverS, AverU}
use Rattle.isa.specs.declared.Arith.TheVariants.{Basic, Absolute, Compare, Addition, Subtraction}
use Rattle.isa.specs.declared.Basic.TheVariants.{Addv, Subv, MaxS, MaxU, MinS, MinU}
use Rattle.isa.specs.declared.BitOp.TheVariants.{Bitwise}
use Rattle.isa.specs.declared.Bitwise.TheVariants.{Sll, Sra, Srl, Bclr, Bset, Bneg, Binsl, Binsr}
use Rattle.isa.specs.declared.Compare.TheVariants.{Ceq, CltS, CltU, CleS, CleU}
use Rattle.isa.specs.declared.Logic.TheVariants.{And, Or, Nor, Xor, Bmnz, Bmz, Bsel}
use Rattle.isa.specs.declared.Subtraction.TheVariants.{SubsS, SubsU, SubsusU, SubsuuS, AsubS, AsubU}
use Rattle.lanes.specs.declared.Lane.TheVariants.{Arith, Bit}
use Rattle.ops.specs.Meaning.{three_at}
use Rattle.each.specs.Lanes.{each_lane}
use Rattle.acts.specs.Act.{vector_of}
use Rattle.values.proofs.Arms.{each2, each3, bits2, bits3, chosen3}
use Rattle.values.proofs.Unassigned.{left_over, bare, unassigned}
use Rattle.values.proofs.quick.quick.Goals as goal

-- the codes of the arms
abbrev codes : List ℕ
codes =
    8 ∷ 9 ∷ 10 ∷ 11 ∷ 12 ∷ 13 ∷ 14 ∷ 16 ∷ 17 ∷ 18 ∷ 19 ∷ 20 ∷ 21 ∷ 22 ∷ 23 ∷ 24 ∷ 25 ∷ 26 ∷ 27 ∷ 28 ∷ 29 ∷ 30 ∷ 31
    ∷ 32 ∷ 34 ∷ 35 ∷ 36 ∷ 37 ∷ 40 ∷ 41 ∷ 42 ∷ 43 ∷ 44 ∷ 45 ∷ 46 ∷ 47 ∷ 48 ∷ 49 ∷ 50 ∷ 51 ∷ 52 ∷ 53 ∷ []

pub returns-in-8 : goal.returns-in-8
unfolding vector_of three_at each_lane
returns-in-8 c = bits2 _ c.in-8.is (search rules) (search rules)
    And (λ n d s t. refl) (search rules) (search rules)

pub returns-in-9 : goal.returns-in-9
unfolding vector_of three_at each_lane
returns-in-9 c = bits2 _ c.in-9.is (search rules) (search rules)
    Or (λ n d s t. refl) (search rules) (search rules)

pub returns-in-10 : goal.returns-in-10
unfolding vector_of three_at each_lane
returns-in-10 c = bits2 _ c.in-10.is (search rules) (search rules)
    Nor (λ n d s t. refl) (search rules) (search rules)

pub returns-in-11 : goal.returns-in-11
unfolding vector_of three_at each_lane
returns-in-11 c = bits2 _ c.in-11.is (search rules) (search rules)
    Xor (λ n d s t. refl) (search rules) (search rules)

pub returns-in-12 : goal.returns-in-12
unfolding vector_of three_at each_lane
returns-in-12 c = bits3 _ c.in-12.is (search rules) (search rules)
    c.dest-d.ensures Bmnz
    (λ n d s t. refl) (search rules) (search rules)

pub returns-in-13 : goal.returns-in-13
unfolding vector_of three_at each_lane
returns-in-13 c = bits3 _ c.in-13.is (search rules) (search rules)
    c.dest-d-in-13.ensures Bmz
    (λ n d s t. refl) (search rules) (search rules)

pub returns-in-14 : goal.returns-in-14
unfolding vector_of three_at each_lane
returns-in-14 c = bits3 _ c.in-14.is (search rules) (search rules)
    c.dest-d-in-14.ensures Bsel
    (λ n d s t. refl) (search rules) (search rules)

pub returns-in-16 : goal.returns-in-16
unfolding vector_of three_at each_lane
returns-in-16 c = each2 _ c.in-16.is (search rules) c.width_of-w.ensures
    (Bit (Bitwise Sll)) (λ n d s t. refl) (search rules) (search rules)

pub returns-in-17 : goal.returns-in-17
unfolding vector_of three_at each_lane
returns-in-17 c = each2 _ c.in-17.is (search rules) c.width_of-w.ensures
    (Bit (Bitwise Sra)) (λ n d s t. refl) (search rules) (search rules)

pub returns-in-18 : goal.returns-in-18
unfolding vector_of three_at each_lane
returns-in-18 c = each2 _ c.in-18.is (search rules) c.width_of-w.ensures
    (Bit (Bitwise Srl)) (λ n d s t. refl) (search rules) (search rules)

pub returns-in-19 : goal.returns-in-19
unfolding vector_of three_at each_lane
returns-in-19 c = each2 _ c.in-19.is (search rules) c.width_of-w.ensures
    (Bit (Bitwise Bclr)) (λ n d s t. refl) (search rules) (search rules)

pub returns-in-20 : goal.returns-in-20
unfolding vector_of three_at each_lane
returns-in-20 c = each2 _ c.in-20.is (search rules) c.width_of-w.ensures
    (Bit (Bitwise Bset)) (λ n d s t. refl) (search rules) (search rules)

pub returns-in-21 : goal.returns-in-21
unfolding vector_of three_at each_lane
returns-in-21 c = each2 _ c.in-21.is (search rules) c.width_of-w.ensures
    (Bit (Bitwise Bneg)) (λ n d s t. refl) (search rules) (search rules)

pub returns-in-22 : goal.returns-in-22
unfolding vector_of three_at each_lane
returns-in-22 c = each3 _ c.in-22.is (search rules) c.width_of-w.ensures
    c.dest-d-in-22.ensures
    (Bit (Bitwise Binsl)) (λ n d s t. refl) (search rules) (search rules)

pub returns-in-23 : goal.returns-in-23
unfolding vector_of three_at each_lane
returns-in-23 c = each3 _ c.in-23.is (search rules) c.width_of-w.ensures
    c.dest-d-in-23.ensures
    (Bit (Bitwise Binsr)) (λ n d s t. refl) (search rules) (search rules)

pub returns-in-24 : goal.returns-in-24
unfolding vector_of three_at each_lane
returns-in-24 c = each2 _ c.in-24.is (search rules) c.width_of-w.ensures
    (Arith (Basic Addv)) (λ n d s t. refl) (search rules) (search rules)

pub returns-in-25 : goal.returns-in-25
unfolding vector_of three_at each_lane
returns-in-25 c = each2 _ c.in-25.is (search rules) c.width_of-w.ensures
    (Arith (Basic Subv)) (λ n d s t. refl) (search rules) (search rules)

pub returns-in-26 : goal.returns-in-26
unfolding vector_of three_at each_lane
returns-in-26 c = each2 _ c.in-26.is (search rules) c.width_of-w.ensures
    (Arith (Basic MaxS)) (λ n d s t. refl) (search rules) (search rules)

pub returns-in-27 : goal.returns-in-27
unfolding vector_of three_at each_lane
returns-in-27 c = each2 _ c.in-27.is (search rules) c.width_of-w.ensures
    (Arith (Basic MaxU)) (λ n d s t. refl) (search rules) (search rules)

pub returns-in-28 : goal.returns-in-28
unfolding vector_of three_at each_lane
returns-in-28 c = each2 _ c.in-28.is (search rules) c.width_of-w.ensures
    (Arith (Basic MinS)) (λ n d s t. refl) (search rules) (search rules)

pub returns-in-29 : goal.returns-in-29
unfolding vector_of three_at each_lane
returns-in-29 c = each2 _ c.in-29.is (search rules) c.width_of-w.ensures
    (Arith (Basic MinU)) (λ n d s t. refl) (search rules) (search rules)

pub returns-in-30 : goal.returns-in-30
unfolding vector_of three_at each_lane
returns-in-30 c = each2 _ c.in-30.is (search rules) c.width_of-w.ensures
    (Arith (Absolute MaxA)) (λ n d s t. refl) (search rules) (search rules)

pub returns-in-31 : goal.returns-in-31
unfolding vector_of three_at each_lane
returns-in-31 c = each2 _ c.in-31.is (search rules) c.width_of-w.ensures
    (Arith (Absolute MinA)) (λ n d s t. refl) (search rules) (search rules)

pub returns-in-32 : goal.returns-in-32
unfolding vector_of three_at each_lane
returns-in-32 c = each2 _ c.in-32.is (search rules) c.width_of-w.ensures
    (Arith (Compare Ceq)) (λ n d s t. refl) (search rules) (search rules)

pub returns-in-34 : goal.returns-in-34
unfolding vector_of three_at each_lane
returns-in-34 c = each2 _ c.in-34.is (search rules) c.width_of-w.ensures
    (Arith (Compare CltS)) (λ n d s t. refl) (search rules) (search rules)

pub returns-in-35 : goal.returns-in-35
unfolding vector_of three_at each_lane
returns-in-35 c = each2 _ c.in-35.is (search rules) c.width_of-w.ensures
    (Arith (Compare CltU)) (λ n d s t. refl) (search rules) (search rules)

pub returns-in-36 : goal.returns-in-36
unfolding vector_of three_at each_lane
returns-in-36 c = each2 _ c.in-36.is (search rules) c.width_of-w.ensures
    (Arith (Compare CleS)) (λ n d s t. refl) (search rules) (search rules)

pub returns-in-37 : goal.returns-in-37
unfolding vector_of three_at each_lane
returns-in-37 c = each2 _ c.in-37.is (search rules) c.width_of-w.ensures
    (Arith (Compare CleU)) (λ n d s t. refl) (search rules) (search rules)

pub returns-in-40 : goal.returns-in-40
unfolding vector_of three_at each_lane
returns-in-40 c = each2 _ c.in-40.is (search rules) c.width_of-w.ensures
    (Arith (Addition AddA)) (λ n d s t. refl) (search rules) (search rules)

pub returns-in-41 : goal.returns-in-41
unfolding vector_of three_at each_lane
returns-in-41 c = each2 _ c.in-41.is (search rules) c.width_of-w.ensures
    (Arith (Addition AddsA)) (λ n d s t. refl) (search rules) (search rules)

pub returns-in-42 : goal.returns-in-42
unfolding vector_of three_at each_lane
returns-in-42 c = each2 _ c.in-42.is (search rules) c.width_of-w.ensures
    (Arith (Addition AddsS)) (λ n d s t. refl) (search rules) (search rules)

pub returns-in-43 : goal.returns-in-43
unfolding vector_of three_at each_lane
returns-in-43 c = each2 _ c.in-43.is (search rules) c.width_of-w.ensures
    (Arith (Addition AddsU)) (λ n d s t. refl) (search rules) (search rules)

pub returns-in-44 : goal.returns-in-44
unfolding vector_of three_at each_lane
returns-in-44 c = each2 _ c.in-44.is (search rules) c.width_of-w.ensures
    (Arith (Addition AveS)) (λ n d s t. refl) (search rules) (search rules)

pub returns-in-45 : goal.returns-in-45
unfolding vector_of three_at each_lane
returns-in-45 c = each2 _ c.in-45.is (search rules) c.width_of-w.ensures
    (Arith (Addition AveU)) (λ n d s t. refl) (search rules) (search rules)

pub returns-in-46 : goal.returns-in-46
unfolding vector_of three_at each_lane
returns-in-46 c = each2 _ c.in-46.is (search rules) c.width_of-w.ensures
    (Arith (Addition AverS)) (λ n d s t. refl) (search rules) (search rules)

pub returns-in-47 : goal.returns-in-47
unfolding vector_of three_at each_lane
returns-in-47 c = each2 _ c.in-47.is (search rules) c.width_of-w.ensures
    (Arith (Addition AverU)) (λ n d s t. refl) (search rules) (search rules)

pub returns-in-48 : goal.returns-in-48
unfolding vector_of three_at each_lane
returns-in-48 c = each2 _ c.in-48.is (search rules) c.width_of-w.ensures
    (Arith (Subtraction SubsS)) (λ n d s t. refl) (search rules) (search rules)

pub returns-in-49 : goal.returns-in-49
unfolding vector_of three_at each_lane
returns-in-49 c = each2 _ c.in-49.is (search rules) c.width_of-w.ensures
    (Arith (Subtraction SubsU)) (λ n d s t. refl) (search rules) (search rules)

pub returns-in-50 : goal.returns-in-50
unfolding vector_of three_at each_lane
returns-in-50 c = each2 _ c.in-50.is (search rules) c.width_of-w.ensures
    (Arith (Subtraction SubsusU)) (λ n d s t. refl) (search rules) (search rules)

pub returns-in-51 : goal.returns-in-51
unfolding vector_of three_at each_lane
returns-in-51 c = each2 _ c.in-51.is (search rules) c.width_of-w.ensures
    (Arith (Subtraction SubsuuS)) (λ n d s t. refl) (search rules) (search rules)

pub returns-in-52 : goal.returns-in-52
unfolding vector_of three_at each_lane
returns-in-52 c = each2 _ c.in-52.is (search rules) c.width_of-w.ensures
    (Arith (Subtraction AsubS)) (λ n d s t. refl) (search rules) (search rules)

pub returns-in-53 : goal.returns-in-53
unfolding vector_of three_at each_lane
returns-in-53 c = each2 _ c.in-53.is (search rules) c.width_of-w.ensures
    (Arith (Subtraction AsubU)) (λ n d s t. refl) (search rules) (search rules)

pub returns-in_default : goal.returns-in_default
unfolding vector_of three_at each_lane
returns-in_default c = let k = c.code_of.result in
    let code = c.code_of.ensures.0 in
    let none : bare k ≡ true =
    left_over bare 8 56 codes refl k (rw code c.requires.1) (rw code c.requires.2) c.in_default.in_default-own.rest in
    chosen3 _ {c = k} refl (search rules) c.width_of-w.ensures
    c.dest.ensures
    (λ n d s t. unassigned k n d s t none) c.vshf.ensures
