-- `permute::slides::rows` meets its contract. No row is in two words.
use borrow.Author.Rules.{rules}
use Prim.Native.Nat.{ℕ, ◌/◌}
use Rattle.isa.specs.declared.Width.TheVariants.{B}
use Rattle.isa.specs.Widths.{bits}
use Rattle.memory.specs.Value.{value}
use Rattle.memory.proofs.Values.{Words, is-register}
use Rattle.vectors.proofs.Sizes.{shares}
use Rattle.vectors.proofs.Wholes.{whole_words}
use Rattle.parallel.proofs.Words.{built, same-lanes}
use Rattle.permute.specs.Permute.{slid_byte}
use Rattle.permute.proofs.SlideLaws.{bytes_of, row_low, row-high}
use Rattle.permute.proofs.slides.rows.Goals as goal

pub returns : goal.returns
returns c =
    let top = c in
    let a = top.args in
    let b = bytes_of a.v in
    let hd : Words a.d = (record { low = search rules; high = search rules }) in
    let hs : Words a.s = (record { low = search rules; high = search rules }) in
    let f : ℕ → ℕ = slid_byte (bits a.v / 8) a.by (value a.d) (value a.s) in
    is-register (record { low = search rules; high = search rules })
    (whole_words (shares B) f _ _
    (built (shares B) (same-lanes (shares B) c.funnel.ensures (row_low b hd hs a.by top.requires)))
    (built (shares B) (same-lanes (shares B) c.funnel-2.ensures (row-high b hd hs a.by top.requires))))
