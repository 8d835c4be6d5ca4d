-- What a word reads as is in its 32 low bits: no field has another.
-- Assumes nothing.
use mathlib.Core.Path.{◌≡◌, refl, ap, ◌∙◌}
use mathlib.Core.Bool.{true}
use Prim.Native.Nat.{ℕ, ◌+◌, ◌-◌, ◌/◌, ◌%◌, ◌^◌, ◌≤◌}
use native.Mathlib.Omega.{arith}
use borrow.Author.Tests.{leb-true}
use lib.Dec.{leb}
use lib.Pow as pow
use lib.Pow.{mod-mod-pow}
use Rattle.fields.specs.Fields.{bits}
use Rattle.ops.specs.declared.Class.{Class}
use Rattle.ops.specs.declared.Class.TheVariants as class
use Rattle.ops.specs.Formats.{Formats}
use Rattle.ops.specs.Table.{class_at, formats_at}
use Rattle.reading.specs.Reading as block
use Rattle.reading.specs.Reading.{Block, block_of, place_in, place_of, read_class, read_of}

module _ (w : ℕ) where
  abbrev low : ℕ
  low = w % 2 ^ 32

  -- a field of the 32 low bits
  field : (hi lo : ℕ) → leb (hi - lo + 1 + lo) 32 ≡ true → bits low hi lo ≡ bits w hi lo
  field hi lo h =
      let k : ℕ = 32 - (hi - lo + 1 + lo) in
      let n : ℕ = hi - lo + 1 in
      let l : n + lo ≤ 32 = leb-true _ _ h in
      let whole : 32 ≡ k + n + lo = omega arith in
      ap (λ x. w % 2 ^ x / 2 ^ lo % 2 ^ n) whole ∙ ap (λ x. x % 2 ^ n) (pow.field w (k + n) lo)
      ∙ mod-mod-pow (w / 2 ^ lo) k n

  -- the operation's place, in each table
  in-low : (b : Block) → place_in b low ≡ place_in b w
  in-low block.i8 = simp (field 5 0, field 25 24)
  in-low block.shf = refl
  in-low block.minor = simp (field 5 0, field 25 23)
  in-low block.elm = simp (field 25 22)
  in-low block.elm62 = simp (field 25 22)
  in-low block.vec = simp (field 25 21)
  in-low block.float = simp (field 5 0, field 25 22)
  in-low block.two = simp (field 20 18)
  in-low block.mi10 = simp (field 5 2)
  in-low block.branch = simp (field 25 23)
  in-low block.special = simp (field 5 0)
  in-low block.other = refl

  block-low : block_of low ≡ block_of w
  block-low = simp (field 31 26, field 5 0, field 21 16, field 25 21)

  place-low : place_of low ≡ place_of w
  unfolding place_of
  place-low = ap (λ b. place_in b low) block-low ∙ in-low (block_of w)

  -- the operands of each class
  class_low : (c : Class) (f : Formats) (k : ℕ) → read_class c f k low ≡ read_class c f k w
  class_low class.Reserved f k = simp (field 31 26)
  class_low class.Three f k = simp (field 31 26, field 22 21, field 10 6, field 15 11, field 20 16)
  class_low class.Indexed f k = simp (field 31 26, field 22 21, field 10 6, field 15 11, field 20 16)
  class_low class.Imm5U f k = simp (field 31 26, field 22 21, field 10 6, field 15 11, field 20 16)
  class_low class.Imm5S f k = simp (field 31 26, field 22 21, field 10 6, field 15 11, field 20 16)
  class_low class.Ldi f k = simp (field 31 26, field 22 21, field 10 6, field 20 11)
  class_low class.Bit f k = simp (field 31 26, field 22 16, field 10 6, field 15 11)
  class_low class.Imm8 f k = simp (field 10 6, field 15 11, field 23 16)
  class_low class.Shf f k = simp (field 31 26, field 25 24, field 10 6, field 15 11, field 23 16)
  class_low class.Element f k = simp (field 31 26, field 21 16, field 10 6, field 15 11)
  class_low class.Insve f k = simp (field 31 26, field 21 16, field 10 6, field 15 11)
  class_low class.Copy f k = simp (field 31 26, field 21 16, field 10 6, field 15 11)
  class_low class.Insert f k = simp (field 31 26, field 21 16, field 10 6, field 15 11)
  class_low class.Move f k = simp (field 10 6, field 15 11)
  class_low class.Cfcmsa f k = simp (field 10 6, field 15 11)
  class_low class.Ctcmsa f k = simp (field 10 6, field 15 11)
  class_low class.Vec f k = simp (field 10 6, field 15 11, field 20 16)
  class_low class.Fill f k = simp (field 31 26, field 17 16, field 10 6, field 15 11)
  class_low class.Count f k = simp (field 31 26, field 17 16, field 10 6, field 15 11)
  class_low class.Memory f k = simp (field 31 26, field 1 0, field 10 6, field 25 16, field 15 11)
  class_low class.Branch f k = simp (field 31 26, field 22 21, field 20 16, field 15 0)
  class_low class.BranchV f k = simp (field 31 26, field 22 21, field 20 16, field 15 0)
  class_low class.Scaled f k =
      simp (field 31 26, field 10 8, field 15 11, field 25 21, field 20 16, field 7 6)
  class_low class.LeftOut f k = refl
  class_low class.Fixed f k = simp (field 31 26, field 21 21, field 10 6, field 15 11, field 20 16)

  pub read_low : read_of low ≡ read_of w
  unfolding read_of
  read_low =
      ap (λ k. read_class (class_at k) (formats_at k) k low) place-low
      ∙ class_low (class_at (place_of w)) (formats_at (place_of w)) (place_of w)
