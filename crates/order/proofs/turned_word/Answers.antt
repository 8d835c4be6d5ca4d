-- `order::turned_word`: by the width.
use Rattle.order.specs.Moved.{one, two, four, eight}
use Rattle.order.proofs.turned_word.Goals as goal

pub turned_by-requires : goal.turned_by-requires
turned_by-requires c = one

pub turned_by-requires-in-H : goal.turned_by-requires-in-H
turned_by-requires-in-H c = two

pub turned_by-requires-in-W : goal.turned_by-requires-in-W
turned_by-requires-in-W c = four

pub turned_by-requires-in-D : goal.turned_by-requires-in-D
turned_by-requires-in-D c = eight
