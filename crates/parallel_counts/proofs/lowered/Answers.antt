-- `parallel_counts::lowered` meets its contract. Element by element.
use Rattle.std.proofs.Common.{rules}
use Rattle.vectors.proofs.Sizes.{shares}
use Rattle.parallel.proofs.Words.{own, or-lanes}
use Rattle.parallel_counts.proofs.lowered.Goals as goal

pub returns : goal.returns
returns c = let share = shares c.args.w in or-lanes share (own share c.args.x (search rules)) c.shr.ensures
