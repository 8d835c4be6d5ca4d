-- `permute::packs::narrow` meets its contract. Each arm is its row of the definition, in both words.
use borrow.Author.Rules.{rules}
use mathlib.Core.Path.{refl}
use native.Mathlib.Omega.{arith}
use lib.Dec.{lit≤}
use Rattle.isa.specs.declared.Pack.TheVariants.{Pckev, Pckod, Ilvl, Ilvr, Ilvev, Ilvod}
use Rattle.parallel_pack.proofs.Places.{doubles}
use Rattle.permute.proofs.PackLaws.{seconds-packed, low_halves, high-halves, seconds-turned}
use Rattle.permute.proofs.packs.narrow.Goals as goal

pub returns-in-Pckev : goal.returns-in-Pckev
returns-in-Pckev c = let a = c.args in
    rw c.in-Pckev.is
    (seconds-packed (doubles a.w c.requires) Pckev a.s a.t 0 (lit≤ tt) (λ i. omega arith)
    c.every_second.ensures c.every_second-in-Pckev.ensures)

pub returns-in-Pckod : goal.returns-in-Pckod
returns-in-Pckod c = let a = c.args in
    rw c.in-Pckod.is
    (seconds-packed (doubles a.w c.requires) Pckod a.s a.t 1 (lit≤ tt) (λ i. refl)
    c.every_second-in-Pckod.ensures c.every_second-in-Pckod-2.ensures)

pub returns-in-Ilvl : goal.returns-in-Ilvl
returns-in-Ilvl c = let a = c.args in
    rw c.in-Ilvl.is
    (high-halves (doubles a.w c.requires) Ilvl a.s a.t (search rules) (search rules) (λ i. refl)
    c.half_in_turns.ensures c.half_in_turns-in-Ilvl.ensures)

pub returns-in-Ilvr : goal.returns-in-Ilvr
returns-in-Ilvr c = let a = c.args in
    rw c.in-Ilvr.is
    (low_halves (doubles a.w c.requires) Ilvr a.s a.t (search rules) (search rules) (λ i. omega arith)
    c.half_in_turns-in-Ilvr.ensures c.half_in_turns-in-Ilvr-2.ensures)

pub returns-in-Ilvev : goal.returns-in-Ilvev
returns-in-Ilvev c = let a = c.args in
    rw c.in-Ilvev.is
    (seconds-turned (doubles a.w c.requires) Ilvev a.s a.t (search rules) (search rules) 0 (lit≤ tt) (λ i. omega arith)
    c.second_in_turns.ensures c.second_in_turns-in-Ilvev.ensures)

pub returns-in-Ilvod : goal.returns-in-Ilvod
returns-in-Ilvod c = let a = c.args in
    rw c.in-Ilvod.is
    (seconds-turned (doubles a.w c.requires) Ilvod a.s a.t (search rules) (search rules) 1 (lit≤ tt) (λ i. refl)
    c.second_in_turns-in-Ilvod.ensures c.second_in_turns-in-Ilvod-2.ensures)
