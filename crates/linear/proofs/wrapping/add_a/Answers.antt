-- `linear::wrapping::add_a` meets its contract. The sum of two absolute values, wrapped.
use Rattle.linear.specs.Sums.{add_a, addv}
use Rattle.linear.proofs.wrapping.add_a.Goals as goal

pub returns : goal.returns
unfolding add_a addv
returns c = rw (c.addv.ensures, c.magnitude.ensures.is, c.magnitude-2.ensures.is)
