-- `values::seldom::seldom` meets its contract: an arm a code, and the codes that are left permute.
use borrow.Author.Rules.{rules}
use mathlib.Core.Path.{refl, ap, ◌∙◌}
use mathlib.Core.List.{List, [], ◌∷◌}
use Prim.Native.Nat.{ℕ}
use Rattle.isa.specs.declared.Across.TheVariants.{HaddS, HaddU, HsubS, HsubU}
use Rattle.isa.specs.declared.Arith.TheVariants.{Product, Dot, Across}
use Rattle.isa.specs.declared.BitOp.TheVariants.{Rounding}
use Rattle.isa.specs.declared.Dot.TheVariants.{DotpS, DotpU, DpaddS, DpaddU, DpsubS, DpsubU}
use Rattle.isa.specs.declared.Product.TheVariants.{Mulv, Maddv, Msubv, DivS, DivU, ModS, ModU}
use Rattle.isa.specs.declared.Rounding.TheVariants.{Srar, Srlr}
use Rattle.isa.specs.Widths.{bits}
use Rattle.lanes.specs.declared.Lane.TheVariants.{Arith, Bit}
use Rattle.memory.specs.Value.{value, register}
use Rattle.memory.proofs.Values.{holds}
use Rattle.ops.specs.Meaning.{three_at}
use Rattle.each.specs.Lanes.{each_lane}
use Rattle.acts.specs.Act.{vector_of}
use Rattle.values.specs.Permuted.{permutes}
use Rattle.values.proofs.Arms.{of_entry, each2, each3}
use Rattle.values.proofs.Unassigned.{left_over, past-logics}
use Rattle.values.proofs.seldom.seldom.Goals as goal

-- the codes of the arms
abbrev codes : List ℕ
codes =
    56 ∷ 57 ∷ 58 ∷ 60 ∷ 61 ∷ 62 ∷ 63 ∷ 64 ∷ 65 ∷ 66 ∷ 67 ∷ 68 ∷ 69 ∷ 81 ∷ 82 ∷ 84 ∷ 85 ∷ 86 ∷ 87 ∷ []

pub permuted-requires : goal.permuted-requires
unfolding vector_of three_at each_lane
permuted-requires c = let pre = c.requires in
    left_over permutes 56 88 codes refl c.code_of-k.result (rw c.code_of-k.ensures.0 pre.0)
    (rw c.code_of-k.ensures.0 pre.1) c.in_default.in_default-own.rest

pub returns-in-56 : goal.returns-in-56
unfolding vector_of three_at each_lane
returns-in-56 c = each2 _ c.in-56.is (search rules) c.width_of-w.ensures
    (Arith (Product Mulv)) (λ n d s t. refl) (search rules) (search rules)

pub returns-in-57 : goal.returns-in-57
unfolding vector_of three_at each_lane
returns-in-57 c = each3 _ c.in-57.is (search rules) c.width_of-w.ensures
    (holds (search rules) refl) (Arith (Product Maddv)) (λ n d s t. refl) (search rules) (search rules)

pub returns-in-58 : goal.returns-in-58
unfolding vector_of three_at each_lane
returns-in-58 c = each3 _ c.in-58.is (search rules) c.width_of-w.ensures
    (holds (search rules) refl) (Arith (Product Msubv)) (λ n d s t. refl) (search rules) (search rules)

pub returns-in-60 : goal.returns-in-60
unfolding vector_of three_at each_lane
returns-in-60 c = each2 _ c.in-60.is (search rules) c.width_of-w.ensures
    (Arith (Product DivS)) (λ n d s t. refl) (search rules) (search rules)

pub returns-in-61 : goal.returns-in-61
unfolding vector_of three_at each_lane
returns-in-61 c = each2 _ c.in-61.is (search rules) c.width_of-w.ensures
    (Arith (Product DivU)) (λ n d s t. refl) (search rules) (search rules)

pub returns-in-62 : goal.returns-in-62
unfolding vector_of three_at each_lane
returns-in-62 c = each2 _ c.in-62.is (search rules) c.width_of-w.ensures
    (Arith (Product ModS)) (λ n d s t. refl) (search rules) (search rules)

pub returns-in-63 : goal.returns-in-63
unfolding vector_of three_at each_lane
returns-in-63 c = each2 _ c.in-63.is (search rules) c.width_of-w.ensures
    (Arith (Product ModU)) (λ n d s t. refl) (search rules) (search rules)

pub returns-in-64 : goal.returns-in-64
unfolding vector_of three_at each_lane
returns-in-64 c = each2 _ c.in-64.is (search rules) c.width_of-w.ensures
    (Arith (Dot DotpS)) (λ n d s t. refl) (search rules) (search rules)

pub returns-in-65 : goal.returns-in-65
unfolding vector_of three_at each_lane
returns-in-65 c = each2 _ c.in-65.is (search rules) c.width_of-w.ensures
    (Arith (Dot DotpU)) (λ n d s t. refl) (search rules) (search rules)

pub returns-in-66 : goal.returns-in-66
unfolding vector_of three_at each_lane
returns-in-66 c = each3 _ c.in-66.is (search rules) c.width_of-w.ensures
    (holds (search rules) refl) (Arith (Dot DpaddS)) (λ n d s t. refl) (search rules) (search rules)

pub returns-in-67 : goal.returns-in-67
unfolding vector_of three_at each_lane
returns-in-67 c = each3 _ c.in-67.is (search rules) c.width_of-w.ensures
    (holds (search rules) refl) (Arith (Dot DpaddU)) (λ n d s t. refl) (search rules) (search rules)

pub returns-in-68 : goal.returns-in-68
unfolding vector_of three_at each_lane
returns-in-68 c = each3 _ c.in-68.is (search rules) c.width_of-w.ensures
    (holds (search rules) refl) (Arith (Dot DpsubS)) (λ n d s t. refl) (search rules) (search rules)

pub returns-in-69 : goal.returns-in-69
unfolding vector_of three_at each_lane
returns-in-69 c = each3 _ c.in-69.is (search rules) c.width_of-w.ensures
    (holds (search rules) refl) (Arith (Dot DpsubU)) (λ n d s t. refl) (search rules) (search rules)

pub returns-in-81 : goal.returns-in-81
unfolding vector_of three_at each_lane
returns-in-81 c = each2 _ c.in-81.is (search rules) c.width_of-w.ensures
    (Bit (Rounding Srar)) (λ n d s t. refl) (search rules) (search rules)

pub returns-in-82 : goal.returns-in-82
unfolding vector_of three_at each_lane
returns-in-82 c = each2 _ c.in-82.is (search rules) c.width_of-w.ensures
    (Bit (Rounding Srlr)) (λ n d s t. refl) (search rules) (search rules)

pub returns-in-84 : goal.returns-in-84
unfolding vector_of three_at each_lane
returns-in-84 c = each2 _ c.in-84.is (search rules) c.width_of-w.ensures
    (Arith (Across HaddS)) (λ n d s t. refl) (search rules) (search rules)

pub returns-in-85 : goal.returns-in-85
unfolding vector_of three_at each_lane
returns-in-85 c = each2 _ c.in-85.is (search rules) c.width_of-w.ensures
    (Arith (Across HaddU)) (λ n d s t. refl) (search rules) (search rules)

pub returns-in-86 : goal.returns-in-86
unfolding vector_of three_at each_lane
returns-in-86 c = each2 _ c.in-86.is (search rules) c.width_of-w.ensures
    (Arith (Across HsubS)) (λ n d s t. refl) (search rules) (search rules)

pub returns-in-87 : goal.returns-in-87
unfolding vector_of three_at each_lane
returns-in-87 c = each2 _ c.in-87.is (search rules) c.width_of-w.ensures
    (Arith (Across HsubU)) (λ n d s t. refl) (search rules) (search rules)

pub returns-in_default : goal.returns-in_default
unfolding vector_of three_at each_lane
returns-in_default c = let a = c.args in
    let k = c.code_of-k.result in
    of_entry _ {c = k} refl (search rules) c.width_of-w.ensures
    (c.permuted.ensures
    ∙ ap register (past-logics k (bits c.width_of-w.result) (value a.d) (value a.s) (value a.t)
    (search rules)))
