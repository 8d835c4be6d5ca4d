-- `memory::put_sixteen` meets its contract: the bytes of one word beside those of the other.
use borrow.Author.Rules.{rules}
use native.Mathlib.Omega.{arith}
use Rattle.memory.proofs.Numbers.{replaced-two}
use Rattle.memory.proofs.put_sixteen.Goals as goal

pub returns : goal.returns
returns c =
    let s = c in
    rw (c.put_eight-2.ensures, c.put_eight.ensures)
    (replaced-two s.args.d.now s.args.at 8 8 s.args.v.low s.args.v.high (omega (arith, s.requires)) (search rules))
