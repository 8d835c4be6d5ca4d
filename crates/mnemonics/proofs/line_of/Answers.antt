-- `mnemonics::line_of` meets its contract: a letter a row.
use Rattle.std.proofs.Common.{◌≡◌, ◌+◌, ◌<◌, ◌≤◌, ℕ, rules, arith, get_or, sym, ◌∙◌}
use Rattle.mnemonics.specs.Lines.{line_of}
use Rattle.mnemonics.proofs.Names.{letters, letter_at, no_line, line_within}
use Rattle.mnemonics.proofs.line_of.Goals as goal

pub returns-in_err-letter : goal.returns-in_err-letter
returns-in_err-letter c = let past : 64 ≤ c.args.m = search rules in rw c.from_residual.ensures (no_line c.args.m past)

letter : (m : ℕ) {b : ℕ} → m < 64 → get_or letters m 0 ≡ b → b ≡ 97 + line_of m
letter m h e = sym e ∙ letter_at m h

pub returns-then-letter-eq124 : goal.returns-then-letter-eq124
returns-then-letter-eq124 c =
    let e : c.in_ok-letter.field-0.now ≡ 97 + line_of c.args.m = letter c.args.m (search rules) (search rules) in
    omega (arith, e, c.if-letter-eq124.true)

pub overflow_sub-letter : goal.overflow_sub-letter
overflow_sub-letter c =
    let e : c.in_ok-letter.field-0.now ≡ 97 + line_of c.args.m = letter c.args.m (search rules) (search rules) in
    omega (arith, e)

pub returns : goal.returns
returns c =
    let e : c.in_ok-letter.field-0.now ≡ 97 + line_of c.args.m = letter c.args.m (search rules) (search rules) in
    let most = line_within c.args.m in
    (omega (arith, e, c.from.ensures), (omega (arith, e, most, c.from.ensures, c.if-letter-eq124.false)))
