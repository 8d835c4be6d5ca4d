-- The parts of an entry, cut out again: each is what was put there, modulo its size. Assumes nothing.
use Rattle.std.proofs.Common.{◌≡◌, ℕ, ◌+◌, ◌*◌, ◌/◌, ◌%◌, ◌<◌, eqb, refl, ap, ◌∙◌, mod-eq_of_lt, arith}
use Rattle.isa.specs.declared.Width.{Width}
use Rattle.isa.specs.declared.Width.TheVariants.{B, H, W, D}
use Rattle.isa.specs.Widths.{width_at, width_code}
use Rattle.entries.specs.Cut.{code_of, width_of, flag_of, dest_of, source_of, third_of, imm_of}
use Rattle.entries.specs.Entry.{packed}

-- a format by its two bits
width_back : (df : Width) → width_at (width_code df % 4) ≡ df
width_back B = refl
width_back H = refl
width_back W = refl
width_back D = refl

-- what is cut from the entry of a format and of registers below 32
pub record Parts (x c : ℕ) (df : Width) (g d s t i : ℕ) : Type 0 where
  pub code : code_of x ≡ c % 256
  pub format : x / 256 % 4 ≡ width_code df % 4
  pub width : width_of x ≡ df
  pub flag : flag_of x ≡ eqb (g % 2) 1
  pub dest : dest_of x ≡ d
  pub source : source_of x ≡ s
  pub third : third_of x ≡ t
  pub imm : imm_of x ≡ i % 4294967296

-- seven numbers below their sizes, put side by side
module _ (c w g d s t i : ℕ) (hc : c < 256) (hw : w < 4) (hg : g < 2) (hd : d < 32) (hs : s < 32) (ht : t < 32)
    (hi : i < 4294967296) where
  abbrev total : ℕ
  total = c + w * 256 + g * 1024 + d * 2048 + s * 65536 + t * 2097152 + i * 4294967296

  abbrev Cut : Type 0
  Cut =
      (total % 256 ≡ c) × (total / 256 % 4 ≡ w) × (total / 1024 % 2 ≡ g) × (total / 2048 % 32 ≡ d)
      × (total / 65536 % 32 ≡ s) × (total / 2097152 % 32 ≡ t) × (total / 4294967296 % 4294967296 ≡ i)

  cut : Cut
  cut = (omega arith, omega arith, omega arith, omega arith, omega arith, omega arith, omega arith)

pub parts : (c : ℕ) (df : Width) (g d s t i : ℕ) → d < 32 → s < 32 → t < 32
    → Parts (packed c (width_code df) g d s t i) c df g d s t i
unfolding packed code_of width_of flag_of dest_of source_of third_of imm_of
parts c df g d s t i hd hs ht =
    let p = cut (c % 256) (width_code df % 4) (g % 2) (d % 32) (s % 32) (t % 32) (i % 4294967296)
    (omega arith) (omega arith) (omega arith) (omega arith) (omega arith) (omega arith) (omega arith) in
    record {
      code = p.0;
      format = p.1;
      width = ap width_at p.1 ∙ width_back df;
      flag = ap (λ (n : ℕ). eqb n 1) p.2;
      dest = p.3 ∙ mod-eq_of_lt hd;
      source = p.4 ∙ mod-eq_of_lt hs;
      third = p.5 ∙ mod-eq_of_lt ht;
      imm = p.6;
    }
