-- `permute::slides::one_row` meets its contract. Four words in a row.
use borrow.Author.Rules.{rules}
use mathlib.Core.Path.{◌≡◌, ap, ap₂, ◌∙◌}
use Prim.Native.Nat.{ℕ, ◌+◌, ◌*◌, ◌/◌, ◌%◌}
use native.Mathlib.Omega.{arith}
use Rattle.isa.specs.declared.Width.TheVariants.{B}
use Rattle.memory.specs.Value.{value}
use Rattle.memory.proofs.Values.{is-register}
use Rattle.vectors.proofs.Sizes.{shares}
use Rattle.vectors.proofs.Wholes.{whole_words}
use Rattle.parallel.proofs.Words.{built, same-lanes}
use Rattle.permute.specs.Permute.{both, slid_byte}
use Rattle.permute.proofs.SlideLaws.{row_at, slid-row}
use Rattle.permute.proofs.slides.one_row.Goals as goal

pub returns : goal.returns
returns c =
    let first = c in
    let a = first.args in
    let d = value a.d in
    let s = value a.s in
    let q = a.by / 8 in
    let k = a.by % 8 in
    let f : ℕ → ℕ = slid_byte 16 a.by d s in
    let middle = first.word_of-middle.ensures in
    let on : q + 2 ≡ q + 1 + 1 = omega arith in
    is-register (record { low = search rules; high = search rules })
    (whole_words (shares B) f _ _
    (built (shares B) (same-lanes (shares B) c.funnel.ensures
    (λ i l. ap₂ (λ y x. slid_byte 8 k y x i) middle first.word_of.ensures ∙ row_at d s q k i (omega arith) l
    ∙ ap (both 8 d s) (let e : i + k + 8 * q ≡ i + a.by = omega arith in e) ∙ slid-row d s a.by i (omega arith))))
    (built (shares B) (same-lanes (shares B) c.funnel-2.ensures
    (λ i l. ap₂ (λ y x. slid_byte 8 k y x i) (c.word_of-2.ensures ∙ ap (both 64 d s) on) middle
    ∙ row_at d s (q + 1) k i (omega arith) l
    ∙ ap (both 8 d s) (let e : i + k + 8 * (q + 1) ≡ 8 + i + a.by = omega arith in e)
    ∙ slid-row d s a.by (8 + i) (omega arith)))))
