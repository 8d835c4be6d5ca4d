-- `parallel_pack::lower` meets its contract. At each width the literal is the number built of the elements.
use mathlib.Core.Path.{refl}
use lib.Dec.{lit<}
use Rattle.vectors.proofs.Sizes.{shares}
use Rattle.parallel.proofs.Words.{made}
use Rattle.isa.specs.declared.Width.TheVariants.{H, W, D}
use Rattle.vectors.specs.Register.{build}
use Rattle.parallel_pack.proofs.lower.Goals as goal

pub returns-in-B : goal.returns-in-B
unfolding build
returns-in-B c = rw c.in-B.is (made (shares H) _ refl (λ i l. lit< tt))

pub returns-in-H : goal.returns-in-H
unfolding build
returns-in-H c = rw c.in-H.is (made (shares W) _ refl (λ i l. lit< tt))

pub returns-in-W : goal.returns-in-W
unfolding build
returns-in-W c = rw c.in-W.is (made (shares D) _ refl (λ i l. lit< tt))
