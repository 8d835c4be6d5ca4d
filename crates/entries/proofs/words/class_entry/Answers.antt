-- `entries::words::class_entry` meets its contract: the classes with an index in their word.
use Rattle.entries.proofs.Given.{entry-given}
use Rattle.entries.proofs.words.class_entry.Goals as goal

pub returns-in-Bit : goal.returns-in-Bit
returns-in-Bit c =
    rw (c.in-Bit.is, entry-given)
    (rw (c.bit_code.ensures, c.bit_at.ensures) at (c.indexed.ensures _ c.bit_index.ensures))

pub returns-in-Element : goal.returns-in-Element
returns-in-Element c =
    rw (c.in-Element.is, entry-given)
    (rw (c.indexed_code-in-Element.ensures, c.indexed_at-in-Element.ensures) at c.element.ensures)

pub returns-in-Insve : goal.returns-in-Insve
returns-in-Insve c = rw (c.in-Insve.is, entry-given) c.element-in-Insve.ensures

pub returns-in-Copy : goal.returns-in-Copy
returns-in-Copy c =
    rw (c.in-Copy.is, entry-given)
    (rw (c.copied_code.ensures, c.copied_at.ensures) at c.element-in-Copy.ensures)

pub returns-in-Insert : goal.returns-in-Insert
returns-in-Insert c = rw (c.in-Insert.is, entry-given) c.element-in-Insert.ensures
