-- `memory::two` meets its contract: std reads the number that the bytes spell.
use Rattle.std.specs.Int.{w16}
use Rattle.memory.proofs.Numbers.{number_read}
use Rattle.memory.proofs.two.Goals as goal

pub returns : goal.returns
returns c = number_read w16 c.args.s.now c.args.at c.from_le_bytes.ensures c.bytes_at.ensures c.requires
