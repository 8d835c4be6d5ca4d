-- `reading::ahead::place` meets its contract.
use Rattle.reading.specs.Reading.{place_of}
use borrow.Author.Tests.{eq-eqb, ne_eqb}
use borrow.Author.Rules.{rules}
use Rattle.reading.proofs.ahead.place.Goals as goal

pub msa_place-requires : goal.msa_place-requires
unfolding place_of
msa_place-requires c = search rules

pub other_place-requires : goal.other_place-requires
unfolding place_of
other_place-requires c = search rules

pub returns-then-w-eq30 : goal.returns-then-w-eq30
unfolding place_of
returns-then-w-eq30 c = (rw (eq-eqb _ _ c.if-w-eq30.true) c.msa_place.ensures.0, c.msa_place.ensures.1)

pub returns-else-w-eq30 : goal.returns-else-w-eq30
unfolding place_of
returns-else-w-eq30 c = (rw (ne_eqb _ _ c.if-w-eq30.false) c.other_place.ensures.0, c.other_place.ensures.1)
