-- Document 01's number and values for each case of what reading and writing a word answer. (Those of refusals and
-- stops: `state` Numbers.) The promises are stated through these: an answer is what it says in that paper's terms, and
-- nothing else.
use Rattle.std.specs.Prelude.{ℕ, Ok, Result, Option, Err, Some, None}
use Rattle.isa.specs.declared.Unread.{Unread}
use Rattle.isa.specs.declared.Unread.TheVariants.{Unassigned, LeftOut, Other}
use Rattle.isa.specs.declared.Instr.{Instr}

abbrev pub unread_number : Unread → ℕ
unread_number Unassigned = 12
unread_number LeftOut = 13
unread_number Other = 14

-- an answer in that paper's terms: a number of its tables, or the values that were asked for
pub data Said (A : Type 0) : Type 0 where
  number : ℕ → Said A
  values : A → Said A

-- the number alone, 0 where there are values
abbrev pub number_in : {A : Type 0} → Said A → ℕ
number_in (number n) = n
number_in (values a) = 0

abbrev pub read_said : Result Instr Unread → Said Instr
read_said (Err u) = number (unread_number u)
read_said (Ok i) = values i

abbrev pub written_said : Option ℕ → Said ℕ
written_said None = number 6
written_said (Some w) = values w
