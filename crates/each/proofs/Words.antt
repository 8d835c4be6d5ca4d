-- A register whose words have the elements that an operation makes is what the operation makes of registers.
use mathlib.Core.Path.{◌≡◌}
use Rattle.isa.specs.declared.Width.{Width}
use Rattle.isa.specs.Widths.{bits}
use Rattle.lanes.specs.declared.Lane.{Lane}
use Rattle.lanes.specs.Lane.{lane_of}
use Rattle.memory.specs.declared.Register.{Register}
use Rattle.memory.specs.Value.{value, register}
use Rattle.memory.proofs.Values.{Words, is-register}
use Rattle.vectors.proofs.Sizes.{shares}
use Rattle.vectors.proofs.Wholes.{together-words}
use Rattle.parallel.specs.Lanes.{Each3}
use Rattle.parallel.proofs.Words.{built}
use Rattle.each.specs.Lanes.{each_lane}

pub both_words : (op : Lane) (w : Width) (d s t r : Register) → Words d → Words s → Words t
    → Each3 (bits w) r.low (lane_of op (bits w)) d.low s.low t.low
    → Each3 (bits w) r.high (lane_of op (bits w)) d.high s.high t.high
    → r ≡ register (each_lane op (bits w) (value d) (value s) (value t))
unfolding each_lane
both_words op w d s t r hd hs ht low high =
    is-register (record { low = low.below; high = high.below })
    (together-words (bits w) (lane_of op (bits w)) (shares w) d s t hd hs ht
    r.low r.high (built (shares w) low) (built (shares w) high))
