-- The elements from i on are made, and stand in out.
use Rattle.std.proofs.Common.{ℕ, ◌+◌, ◌-◌, ◌*◌, ◌/◌, ◌^◌, ◌<◌}
use Rattle.isa.specs.Widths.{bits}
use Rattle.vectors.specs.Register.{element}
use Rattle.vectors.proofs.in_turn.Given as goal

abbrev pub invariant-loop-i : goal.invariant-loop-i
invariant-loop-i g l = record {
  room : l.out < 2 ^ (bits l.w * (64 / bits l.w - l.i));
  made : (j : ℕ) → j < 64 / bits l.w - l.i → goal.F-post g l.f l.w (l.i + j) (element (bits l.w) l.out j);
}
