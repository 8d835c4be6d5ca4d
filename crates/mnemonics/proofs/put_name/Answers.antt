-- `mnemonics::put_name` meets its contract: the part of the text that is the name, as long as the digit before it says.
use Rattle.std.proofs.Common.{◌≡◌, ◌+◌, ◌-◌, ◌*◌, ◌/◌, ◌%◌, ◌<◌, ◌≤◌, ℕ, arith, rules, get_or, length, take, drop, sym}
use Rattle.std.proofs.Common.{ap, ◌∙◌}
use Rattle.text.proofs.Puts.{puts_none, puts-as, room_as}
use Rattle.ops.specs.Table.{row_at, mnemonic}
use Rattle.ops.proofs.Names.{name-short}
use Rattle.mnemonics.specs.Lines.{line_of}
use Rattle.mnemonics.proofs.Names.{stored, digit, part, no_name}
use Rattle.mnemonics.proofs.put_name.Goals as goal

-- the digit before the name, and the name
module _ (k row : ℕ) (l : row ≡ line_of (k / 8)) (h : row < 27) where
  abbrev byte : ℕ
  byte = get_or stored (9 * (8 * row + k % 8)) 0

  at_least : 48 ≤ byte
  at_least = omega (arith, digit k row l h)

  module _ {n : ℕ} (e : n ≡ byte - 48) where
    long : n ≡ length (mnemonic k)
    long = omega (arith, e, digit k row l h)

    named : take n (drop (9 * (8 * row + k % 8) + 1) stored) ≡ mnemonic k
    named = ap (λ (m : ℕ). take m (drop (9 * (8 * row + k % 8) + 1) stored)) long ∙ part k row l h

    inside : 9 * (8 * row + k % 8) + 1 + n ≤ 1944
    inside = omega (arith, long, name-short k)

pub returns-in_default : goal.returns-in_default
returns-in_default c = puts-as (no_name c.args.k 27 (sym (search rules)) (omega arith)) (puts_none _ _)

pub overflow_sub-text : goal.overflow_sub-text
unfolding row_at
overflow_sub-text c = at_least c.args.k c.in-Some.row c.in-Some.ensures.0 c.in-Some.ensures.1

pub put_part-requires : goal.put_part-requires
unfolding row_at
put_part-requires c =
    let l = c.in-Some.ensures.0 in
    let h = c.in-Some.ensures.1 in (
      inside c.args.k c.in-Some.row l h c.from-n.ensures,
      room_as (sym (named c.args.k c.in-Some.row l h c.from-n.ensures)) c.requires,
    )

pub returns : goal.returns
unfolding row_at
returns c = puts-as (named c.args.k c.in-Some.row c.in-Some.ensures.0 c.in-Some.ensures.1 c.from-n.ensures)
    c.put_part.ensures
