-- `permute::filed::item` meets its contract. Each arm knows how many bytes there are.
use borrow.Author.Rules.{rules}
use mathlib.Core.Path.{◌≡◌, sym, ap, ◌∙◌}
use mathlib.Core.List.{List}
use Prim.Native.Nat.{ℕ, ◌+◌, ◌≤◌}
use lib.ListN.{length}
use native.Mathlib.Omega.{arith}
use Rattle.isa.specs.declared.Width.{Width}
use Rattle.isa.specs.Widths.{bytes}
use Rattle.memory.specs.Bytes.{number, part}
use Rattle.memory.proofs.Numbers.{number-one}
use Rattle.permute.proofs.filed.item.Goals as goal

at_width : {v w : Width} {r : ℕ} (s : List ℕ) (at : ℕ) → w ≡ v → r ≡ number (part s at (bytes v))
    → r ≡ number (part s at (bytes w))
at_width s at e h = rw e h

pub two-requires : goal.two-requires
two-requires c = omega (arith, ap bytes c.in-H.is, c.requires)

pub four-requires : goal.four-requires
four-requires c = omega (arith, ap bytes c.in-W.is, c.requires)

pub eight-requires : goal.eight-requires
eight-requires c = omega (arith, ap bytes c.in-D.is, c.requires)

pub returns-in-B : goal.returns-in-B
returns-in-B c =
    let fits : c.args.at + 1 ≤ length c.args.s.now = omega (arith, ap bytes c.in-B.is, c.requires) in
    at_width c.args.s.now c.args.at c.in-B.is (c.from.ensures ∙ sym (number-one c.args.s.now c.args.at (omega arith)))

pub returns-in-H : goal.returns-in-H
returns-in-H c = at_width c.args.s.now c.args.at c.in-H.is (c.from-in-H.ensures ∙ c.two.ensures)

pub returns-in-W : goal.returns-in-W
returns-in-W c = at_width c.args.s.now c.args.at c.in-W.is (c.from-in-W.ensures ∙ c.four.ensures)

pub returns-in-D : goal.returns-in-D
returns-in-D c = search (rules, at_width)
