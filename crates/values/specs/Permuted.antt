-- The codes from 56 on that move elements: from 74 to 79 the packs, and VSHF where it stands or no operation does.
use Rattle.std.specs.Prelude.{Bool, true, false, cond, ℕ, ◌+◌, ltb}
use Rattle.isa.specs.declared.Three.{Three}
use Rattle.isa.specs.declared.Three.TheVariants as three
use Rattle.ops.specs.Meaning.{three_at}

abbrev pub is_vshf : Three → Bool
is_vshf (three.Arith o) = false
is_vshf (three.Bitwise o) = false
is_vshf (three.Rounding o) = false
is_vshf (three.Pack o) = false
is_vshf three.Vshf = true

abbrev pub permutes : ℕ → Bool
permutes c = cond (ltb c 74) (is_vshf (three_at (c + 88))) (cond (ltb c 80) true (is_vshf (three_at (c + 88))))
