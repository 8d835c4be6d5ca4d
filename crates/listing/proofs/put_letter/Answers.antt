-- `listing::put_letter` meets its contract.
use Prim.Native.Nat.{ℕ}
use Rattle.text.proofs.Puts.{puts-as, puts_then}
use mathlib.Core.List.{[], ◌∷◌}
use mathlib.Core.Path.{ap}
use Rattle.listing.proofs.put_letter.Goals as goal

pub returns : goal.returns
returns c = puts_then c.put_byte-next.ensures (puts-as (ap (λ (x : ℕ). x ∷ []) c.letter.ensures) c.put_byte.ensures)
