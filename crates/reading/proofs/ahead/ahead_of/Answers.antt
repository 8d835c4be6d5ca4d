-- `reading::ahead::ahead_of` meets its contract.
use Rattle.ops.proofs.Packed.{class-in, formats-in}
use Rattle.reading.specs.Reading.{place_of, read_of}
use Rattle.reading.proofs.ahead.ahead_of.Goals as goal

pub returns : goal.returns
unfolding read_of
returns c =
    let k = place_of c.args.w in
    rw (
      c.class_of.ensures,
      c.byte_beside-byte.ensures,
      c.place-k.ensures.0,
      class-in k,
      formats-in k,
    ) at c.class_ahead.ensures
