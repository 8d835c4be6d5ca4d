-- `reading::place::place_of` meets its contract.
use Rattle.reading.specs.Reading.{place_of}
use borrow.Author.Tests.{eq-eqb, ne_eqb}
use native.Mathlib.Omega.{arith}
use borrow.Author.Rules.{rules}
use Rattle.reading.proofs.place.place_of.Goals as goal

pub msa_place-requires : goal.msa_place-requires
unfolding place_of
msa_place-requires c = search rules

pub overflow_cast-result : goal.overflow_cast-result
unfolding place_of
overflow_cast-result c = omega (arith, c.msa_place.ensures.1)

pub returns-then-w-eq30 : goal.returns-then-w-eq30
unfolding place_of
returns-then-w-eq30 c = rw (eq-eqb _ _ c.if-w-eq30.true) c.msa_place.ensures.0

pub other_place-requires : goal.other_place-requires
unfolding place_of
other_place-requires c = search rules

pub overflow_cast-result-2 : goal.overflow_cast-result-2
unfolding place_of
overflow_cast-result-2 c = omega (arith, c.other_place.ensures.1)

pub returns : goal.returns
unfolding place_of
returns c = rw (ne_eqb _ _ c.if-w-eq30.false) c.other_place.ensures.0
