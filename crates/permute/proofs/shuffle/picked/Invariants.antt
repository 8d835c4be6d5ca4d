-- `permute::shuffle::picked` meets its contract. The loop goes from the lowest element up (Turn).
use Prim.Native.Nat.{◌*◌}
use Rattle.permute.proofs.ControlLaws.{Held}
use Rattle.permute.proofs.shuffle.picked.Given as goal

abbrev pub invariant-loop-i : goal.invariant-loop-i
invariant-loop-i l = Held l.d l.words l.n l.mask l.last l.out (l.n * l.i)
