-- The window has its length.
use Rattle.std.proofs.Common.{◌≡◌, ℕ, zero, suc, length, replicate, refl, ap}
use Rattle.machine_test.proofs.window.Goals as goal

length-zeros : (n x : ℕ) → n ≡ length (replicate n x)
length-zeros zero x = refl
length-zeros (suc n) x = ap suc (length-zeros n x)

pub returns : goal.returns
returns c = length-zeros 1048577 0
