-- `vectors::in_turn` meets its contract. Each turn puts one more element below those that are made.
use Rattle.std.proofs.Common.{◌-◌, ◌*◌, ◌/◌, ◌≤◌, arith}
use native.Mathlib.Nat.{mul-le-mul_left}
use lib.Pow.{pow_mono}
use Rattle.isa.specs.Widths.{bits}
use Rattle.vectors.proofs.ElementLaws.{room-more, elements-more}
use Rattle.vectors.proofs.Sizes.{shares}
use Rattle.vectors.proofs.in_turn.Goals as goal

pub joined-out-requires : goal.joined-out-requires
joined-out-requires g c =
    let n = bits c.args.w in
    let i = c.loop-i.i in
    let all = 64 / n in
    let fits = c.requires.fits (i - 1) c.f.result (omega arith) c.f.ensures in
    let part : n * (all - (i - 1)) ≤ 64 =
    omega (arith, (shares c.args.w).word, mul-le-mul_left {m = all - (i - 1)} {n = all} n (omega arith)) in
    omega (
      arith,
      pow_mono part,
      room-more n c.loop-i.out fits {m = all} {i = i} c.loop-i-test.true (omega arith) c.loop-i.invariant.room,
    )

pub loop-i-preserved : goal.loop-i-preserved
loop-i-preserved g c =
    let n = bits c.args.w in
    let i = c.loop-i.i in
    let all = 64 / n in
    let fits = c.requires.fits (i - 1) c.f.result (omega arith) c.f.ensures in
    let within : i ≤ all = omega arith in
    rw c.joined-out.ensures (record {
      room = room-more n c.loop-i.out fits {m = all} {i = i} c.loop-i-test.true within c.loop-i.invariant.room;
      made =
          elements-more n c.loop-i.out fits {m = all} {i = i} c.loop-i-test.true within
          (goal.F-post g c.args.f c.args.w) c.f.ensures c.loop-i.invariant.made;
    })
