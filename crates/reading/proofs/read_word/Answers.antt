-- `reading::read_word` meets its contract.
use mathlib.Core.Path.{◌≡◌, sym, ap, ◌∙◌}
use Prim.Native.Nat.{ℕ}
use Rattle.isa.specs.Numbers.{read_said}
use Rattle.ops.proofs.Packed.{class-in, formats-in}
use Rattle.ops.specs.Table.{row_at}
use Rattle.reading.specs.Reading.{place_of, vacant, read_of}
use Rattle.reading.proofs.read_word.Goals as goal

-- a word of no table
past-vacant : (w : ℕ) → place_of w ≡ 512 → vacant w ≡ read_of w
unfolding read_of row_at
past-vacant w e = rw e

pub returns-then-k-eq512 : goal.returns-then-k-eq512
returns-then-k-eq512 c =
    let w = c.args.w in
    let e : place_of w ≡ 512 = sym c.place_of-k.ensures ∙ c.if-k-eq512.true in
    record { said = ap read_said (c.vacant.ensures ∙ past-vacant w e) }

pub returns : goal.returns
unfolding read_of
returns c =
    let k = place_of c.args.w in
    record {
      said =
          ap read_said
          (rw (
            c.class_of.ensures,
            c.byte_at-byte.ensures,
            c.place_of-k.ensures,
            class-in k,
            formats-in k,
          ) at c.read_class.ensures);
    }
