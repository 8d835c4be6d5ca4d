-- `permute::filed::picked` meets its contract. The loop goes from the lowest element up (Turn).
use Prim.Native.Nat.{◌-◌, ◌*◌, ◌/◌, ◌^◌}
use Rattle.memory.specs.File.{register_at}
use Rattle.permute.proofs.ControlLaws.{Turn}
use Rattle.permute.proofs.filed.picked.Given as goal

abbrev pub invariant-loop-i : goal.invariant-loop-i
invariant-loop-i l =
    Turn l.d (register_at l.file (record { 0 = l.s })) (register_at l.file (record { 0 = l.t }))
    l.n (2 ^ l.n - 1) (256 / l.n - 1)
    l.out (l.n * l.i)
