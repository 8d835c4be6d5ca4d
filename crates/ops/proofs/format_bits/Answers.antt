-- `ops::format_bits` meets its contract: an arm for each choice of formats that has some.
use mathlib.Core.Bool.{Bool, false}
use mathlib.Core.Path.{◌≡◌, refl, sym, ◌∙◌}
use Prim.Native.Nat.{ℕ, ◌/◌, ◌%◌, ◌^◌}
use lib.Dec.{eqb}
use Rattle.isa.specs.declared.Width.{Width}
use Rattle.isa.specs.declared.Width.TheVariants.{B, H, W, D}
use Rattle.isa.specs.Widths.{width_code}
use Rattle.ops.specs.Formats.{Formats, has}
use Rattle.ops.specs.Formats as formats
use Rattle.ops.proofs.Packed.{no-form}
use Rattle.ops.proofs.format_bits.Goals as goal

-- by the four formats
of_four : (r : ℕ) (f : Width → Bool)
    → eqb (r / 1 % 2) 1 ≡ f B → eqb (r / 2 % 2) 1 ≡ f H → eqb (r / 4 % 2) 1 ≡ f W → eqb (r / 8 % 2) 1 ≡ f D
    → (df : Width) → eqb (r / 2 ^ width_code df % 2) 1 ≡ f df
of_four r f b h w d B = b
of_four r f b h w d H = h
of_four r f b h w d W = w
of_four r f b h w d D = d

pub returns-in-0 : goal.returns-in-0
returns-in-0 c = rw c.in-0.is (of_four 15 (has formats.bhwd) refl refl refl refl)

pub returns-in-1 : goal.returns-in-1
returns-in-1 c = rw c.in-1.is (of_four 14 (has formats.hwd) refl refl refl refl)

pub returns-in-2 : goal.returns-in-2
returns-in-2 c = rw c.in-2.is (of_four 7 (has formats.bhw) refl refl refl refl)

pub returns-in-3 : goal.returns-in-3
returns-in-3 c = rw c.in-3.is (of_four 1 (has formats.b) refl refl refl refl)

pub returns-in-6 : goal.returns-in-6
returns-in-6 c = rw c.in-6.is (of_four 6 (has formats.hw) refl refl refl refl)

pub returns-in_default : goal.returns-in_default
returns-in_default c df = of_four 0 (λ x. false) refl refl refl refl df ∙ sym (no-form c.args.n df c.in_default.in_default-own.rest)
