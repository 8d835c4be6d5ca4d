-- `order::turned_by`: an exchange more for each size.
use mathlib.Core.Path.{◌≡◌, refl}
use Prim.Native.Nat.{ℕ}
use native.Mathlib.Omega.{arith}
use Rattle.vectors.specs.Register.{element}
use Rattle.order.specs.declared.Order.TheVariants.{Big}
use Rattle.order.specs.Moved.{neighbour, Moved, Size, one, two, four, eight}
use Rattle.order.specs.Order.{place}
use Rattle.order.proofs.MovedLaws.{lower_by, moved_by, moved_on}
use Rattle.order.proofs.turned_by.Goals as goal

-- no other size is left
last : {n : ℕ} → Size n → (n ≡ 1 → ⊥) → (n ≡ 2 → ⊥) → (n ≡ 4 → ⊥) → n ≡ 8
last one a b c = absurd (a refl)
last two a b c = absurd (b refl)
last four a b c = absurd (c refl)
last eight a b c = refl

twos : {x y : ℕ} → Moved x (neighbour 1) y → Moved x (place Big 2) y
twos = moved_by (neighbour 1) (place Big 2) refl

fours : {x y z : ℕ} → Moved x (place Big 2) y → Moved y (neighbour 2) z → Moved x (place Big 4) z
fours = moved_on (place Big 2) (neighbour 2) (place Big 4) refl refl

eights : {x y z : ℕ} → Moved x (place Big 4) y → Moved y (neighbour 4) z → Moved x (place Big 8) z
eights = moved_on (place Big 4) (neighbour 4) (place Big 8) refl refl

pub exchanged-twos-requires : goal.exchanged-twos-requires
unfolding element
exchanged-twos-requires c = (omega arith, omega arith, lower_by 1 0x00FF00FF00FF00FF refl)

pub returns-then-n-eq2 : goal.returns-then-n-eq2
returns-then-n-eq2 c = rw c.if-n-eq2.true (twos c.exchanged-twos.ensures)

pub exchanged-fours-requires : goal.exchanged-fours-requires
unfolding element
exchanged-fours-requires c = (omega arith, omega arith, lower_by 2 0x0000FFFF0000FFFF refl)

pub returns-then-n-eq4 : goal.returns-then-n-eq4
returns-then-n-eq4 c = rw c.if-n-eq4.true (fours (twos c.exchanged-twos.ensures) c.exchanged-fours.ensures)

pub exchanged-requires : goal.exchanged-requires
unfolding element
exchanged-requires c = (omega arith, omega arith, lower_by 4 0x00000000FFFFFFFF refl)

pub returns : goal.returns
returns c =
    rw (last c.requires c.if-n-eq1.false c.if-n-eq2.false c.if-n-eq4.false)
    (eights (fours (twos c.exchanged-twos.ensures) c.exchanged-fours.ensures) c.exchanged.ensures)
