-- `memory::four` meets its contract: std reads the number that the bytes spell.
use Rattle.std.specs.Int.{w32}
use Rattle.memory.proofs.Numbers.{number_read}
use Rattle.memory.proofs.four.Goals as goal

pub returns : goal.returns
returns c = number_read w32 c.args.s.now c.args.at c.from_le_bytes.ensures c.bytes_at.ensures c.requires
