-- What a writer is once a part of a line is put.
use Rattle.std.specs.Prelude.{List, ℕ, ◌+◌, length}
use Rattle.std.proofs.lemmas.List.Edits.{sets}
use denote.Ref.{at_last}
use Rattle.listing.specs.declared.Part.{Part}
use Rattle.listing.specs.Listing.{part_text}
use Rattle.line_writer.specs.declared.LineWriter.{LineWriter}

-- the same borrow, with a text in the line from the writer's place on, and the place behind the text
abbrev pub after : LineWriter → List ℕ → LineWriter
after w text = record { line = at_last w.line (sets w.line.now w.at text); at = w.at + length text }

abbrev pub moved : LineWriter → Part → LineWriter
moved w p = after w (part_text w.line.now w.at p)
