-- `vectors::element_at` meets its contract. The element stands in one of the words, or past both.
use borrow.Author.Rules.{rules}
use mathlib.Core.Path.{◌≡◌, sym, ap, ◌∙◌}
use Prim.Native.Nat.{◌+◌, ◌-◌, ◌/◌}
use native.Mathlib.Omega.{arith}
use lib.Pow.{pow_pos}
use Rattle.isa.specs.Widths.{bits}
use Rattle.memory.specs.Value.{value}
use Rattle.vectors.specs.Register.{element}
use Rattle.vectors.proofs.Sizes.{shares}
use Rattle.vectors.proofs.Wholes.{value_low, value-high, value-beyond}
use Rattle.vectors.proofs.element_at.Goals as goal

pub returns-then-i-m : goal.returns-then-i-m
returns-then-i-m c =
    let a = c.args in
    record {
      is = c.in_word.ensures.is ∙ sym (value_low (shares a.w) (record { low = search rules; high = search rules }) a.i (omega arith));
      below = c.in_word.ensures.below;
    }

pub returns-then-i-m-2 : goal.returns-then-i-m-2
returns-then-i-m-2 c =
    let before = c in
    let a = before.args in
    let rest = a.i - before.per_word-m.result in
    let place : a.i ≡ 64 / bits a.w + rest = omega arith in
    record {
      is =
          c.in_word-then-i-m-2.ensures.is
          ∙ sym (ap (element (bits a.w) (value a.v)) place ∙ value-high (shares a.w) (record { low = search rules; high = search rules }) rest);
      below = c.in_word-then-i-m-2.ensures.below;
    }

pub returns-else-i-m-2 : goal.returns-else-i-m-2
returns-else-i-m-2 c =
    let a = c.args in
    record {
      is = sym (value-beyond (shares a.w) (record { low = search rules; high = search rules }) a.i (omega (arith, shares a.w)));
      below = pow_pos (bits a.w);
    }
