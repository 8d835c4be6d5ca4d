-- A field with a format and an index in it: df/m of BIT, Table 3.14, and df/n of ELM, Table 3.13.
use Rattle.std.specs.Prelude.{Bool, true, false, cond, Option, Some, None, ℕ, ◌+◌, ◌-◌, leb, ltb}
use Rattle.isa.specs.declared.Width.{Width}
use Rattle.isa.specs.declared.Width.TheVariants.{B, H, W, D}
use Rattle.fields.specs.Fields.{both}
use Rattle.reading.specs.declared.index.Index as code

-- ok where the pattern is assigned to something
pub record Index : Type 0 where
  pub ok : Bool
  pub df : Width
  pub n : ℕ

abbrev pub at : Width → ℕ → Index
at df n = record { ok = true; df = df; n = n }

-- a pattern that is assigned to nothing
abbrev pub reserved : Index
reserved = record { ok = false; df = B; n = 0 }

-- the size patterns from base on are those of df, with the indices 0, 1, ..; rest says what the others are
unfoldable pub range : Width → ℕ → ℕ → ℕ → Index → Index
range df base size x rest = cond (both (leb base x) (ltb x (base + size))) (at df (x - base)) rest

-- 0mmmmmm D, 10mmmmm W, 110mmmm H, 1110mmm B
abbrev pub bit_index : ℕ → Index
bit_index x = range D 0 64 x (range W 64 32 x (range H 96 16 x (range B 112 8 x reserved)))

-- 00nnnn B, 100nnn H, 1100nn W, 11100n D
abbrev pub element_index : ℕ → Index
element_index x = range B 0 16 x (range H 32 8 x (range W 48 4 x (range D 56 2 x reserved)))

-- what the code answers for one
abbrev pub told : Index → Option code.Index
told x = cond x.ok (Some (record { df = x.df; n = x.n })) None
