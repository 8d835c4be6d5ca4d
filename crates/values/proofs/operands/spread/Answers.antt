-- `values::operands::spread` meets its contract. Both words are the same, and each of their elements is x cut to the
-- width.
use borrow.Author.Rules.{rules}
use mathlib.Core.Path.{◌≡◌, ap, ◌∙◌}
use Prim.Native.Nat.{ℕ, ◌-◌, ◌%◌, ◌^◌, ◌<◌}
use native.Mathlib.Nat.{mod-lt}
use lib.Bits.{bit_and, and_mask}
use lib.Pow.{pow_pos}
use Rattle.isa.specs.declared.Width.{Width}
use Rattle.isa.specs.Widths.{bits}
use Rattle.memory.proofs.Values.{is-register}
use Rattle.parallel.proofs.Words.{built}
use Rattle.vectors.specs.Register.{filled}
use Rattle.vectors.proofs.Sizes.{shares}
use Rattle.vectors.proofs.Wholes.{whole_words}
use Rattle.values.proofs.operands.spread.Goals as goal

module _ (w : Width) (x : ℕ) {m : ℕ} (ones : m ≡ 2 ^ bits w - 1) where
  masked : bit_and x m ≡ x % 2 ^ bits w
  masked = ap (bit_and x) ones ∙ and_mask x (bits w)

  masked_below : bit_and x m < 2 ^ bits w
  masked_below = rw masked (mod-lt x (pow_pos (bits w)))

pub spread_word-word-requires : goal.spread_word-word-requires
unfolding filled
spread_word-word-requires c = masked_below c.args.w c.args.x c.ones_of.ensures

pub returns : goal.returns
unfolding filled
returns c = let a = c.args in
    let word =
    rw (masked a.w a.x c.ones_of.ensures) at (built (shares a.w) c.spread_word-word.ensures) in
    is-register (search rules) (whole_words (shares a.w) _ _ _ word word)
