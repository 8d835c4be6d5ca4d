-- `entries::words::entry_of` meets its contract.
use Rattle.std.proofs.Common.{◌≡◌, sym, ◌∙◌}
use Rattle.ops.proofs.Packed.{class-in, formats-in}
use Rattle.ops.specs.Table.{row_at}
use Rattle.reading.specs.Reading.{place_of, read_of}
use Rattle.entries.proofs.words.entry_of.Goals as goal

-- a word of no table
pub returns-then-k-eq512 : goal.returns-then-k-eq512
unfolding read_of row_at
returns-then-k-eq512 c =
    let e : place_of c.args.w ≡ 512 =
    sym c.place_of-k.ensures ∙ c.if-k-eq512.true in
    rw e c.vacant.ensures

pub returns : goal.returns
unfolding read_of
returns c =
    let k = place_of c.args.w in
    rw (
      c.class_of.ensures,
      c.byte_at-byte.ensures,
      c.place_of-k.ensures,
      class-in k,
      formats-in k,
    ) at c.class_entry.ensures
