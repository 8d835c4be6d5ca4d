-- `permute::shuffle::picked` meets its contract. The loop goes from the lowest element up (Turn).
use borrow.Author.Rules.{rules}
use mathlib.Core.Path.{refl}
use native.Mathlib.Omega.{arith}
use Rattle.permute.proofs.ControlLaws.{held_word, grown-none, turn-inside, turn-left, turn-fits, turn-taken, place-next}
use Rattle.permute.proofs.shuffle.picked.Goals as goal
use Rattle.permute.proofs.shuffle.picked.Goals.{then-c-eq0, else-c-eq0}

pub loop-i-init : goal.loop-i-init
loop-i-init c = record {
  t = record { low = search rules; high = search rules };
  s = record { low = search rules; high = search rules };
  turn = record {
    w = c.args.w;
    size = c.requires.0;
    ones = c.requires.1.0;
    reach = c.requires.1.1;
    grown = grown-none _ _;
  };
}

pub overflow_add-out : goal.overflow_add-out
overflow_add-out c =
    let inv = c.loop-i.invariant in
    let room = turn-inside inv.turn refl c.loop-i-test.true in
    omega (arith, turn-fits inv.turn room c.if-c-eq0.true (held_word inv))

pub loop-i-preserved : goal.loop-i-preserved
loop-i-preserved c =
    let inv = c.loop-i.invariant in
    let room = turn-inside inv.turn refl c.loop-i-test.true in
    record {
      t = inv.t;
      s = inv.s;
      turn = rw (← place-next c.args.n c.loop-i.i) (elim c.if-c-eq0.branch [
        | then-c-eq0 w ↦ rw w.out-is (turn-taken inv.turn room w.if-c-eq0.true (held_word inv))
        | else-c-eq0 w ↦ rw w.out-is (turn-left inv.turn room w.if-c-eq0.false)
      ]);
    }
