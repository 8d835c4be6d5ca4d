-- `permute::packs::wide` meets its contract. A word is an element.
use Prim.Native.Nat.{ℕ, ◌+◌, ◌<◌}
use borrow.Author.Rules.{rules}
use mathlib.Core.Logic.{◌⊎◌, ⊎_elim}
use mathlib.Core.Path.{◌≡◌}
use native.Mathlib.Omega.{arith}
use Rattle.isa.specs.declared.Pack.{Pack}
use Rattle.isa.specs.declared.Pack.TheVariants.{Pckev, Pckod, Ilvl, Ilvr, Ilvev, Ilvod}
use Rattle.permute.specs.Permute.{pack_place}
use Rattle.permute.proofs.PackLaws.{lows-packed, highs-packed}
use Rattle.permute.proofs.packs.wide.Goals as goal

-- the result's two elements are these of wt and ws side by side
abbrev Takes : Pack → ℕ → Type 0
Takes op k = ((i : ℕ) → i < 1 → k + i ≡ pack_place op 1 i) × ((i : ℕ) → i < 1 → pack_place op 1 (1 + i) ≡ 2 + k + i)

lows : (op : Pack) → (op ≡ Pckev) ⊎ ((op ≡ Ilvr) ⊎ (op ≡ Ilvev)) → Takes op 0
lows op h =
    ⊎_elim (λ e. rw e (λ i l. omega arith, λ i l. omega arith))
    (⊎_elim (λ e. rw e (λ i l. omega arith, λ i l. omega arith)) (λ e. rw e (λ i l. omega arith, λ i l. omega arith))) h

highs : (op : Pack) → (op ≡ Pckod) ⊎ ((op ≡ Ilvl) ⊎ (op ≡ Ilvod)) → Takes op 1
highs op h =
    ⊎_elim (λ e. rw e (λ i l. omega arith, λ i l. omega arith))
    (⊎_elim (λ e. rw e (λ i l. omega arith, λ i l. omega arith)) (λ e. rw e (λ i l. omega arith, λ i l. omega arith))) h

pub returns-in-Pckev : goal.returns-in-Pckev
returns-in-Pckev c =
    let p = lows c.args.op c.in-Pckev.is in
    rw c.requires (lows-packed c.args.op c.args.s c.args.t (search rules) (search rules) p.0 p.1)

pub returns-in-Pckod : goal.returns-in-Pckod
returns-in-Pckod c =
    let p = highs c.args.op c.in-Pckod.is in
    rw c.requires (highs-packed c.args.op c.args.s c.args.t (search rules) (search rules) p.0 p.1)
