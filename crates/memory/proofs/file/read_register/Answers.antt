-- `memory::file::read_register` meets its contract: sixteen bytes at the register's place, and none past the last.
use Rattle.std.proofs.Common.{arith}
use Rattle.memory.proofs.Files.{no_register}
use Rattle.memory.proofs.file.read_register.Goals as goal

pub returns-then-r-gt31 : goal.returns-then-r-gt31
returns-then-r-gt31 c = no_register _ c.args.r (omega arith) c.if-r-gt31.true
