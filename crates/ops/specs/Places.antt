-- The places of the table of operations: a place is a number, eight to a row. Rows 0 to 39 are the minor opcodes of
-- the major opcode 011110, and stand for the words whose operation is told by bits 25..23 or fewer. The tables that
-- go by more bits, or that stand under another opcode, have the rows from 40 on, where no minor opcode is assigned;
-- each begins at a multiple of its size.
use Rattle.std.specs.Prelude.{ℕ, ◌+◌, ◌*◌, ◌-◌}

abbrev pub minor : ℕ → ℕ → ℕ
minor m column = m * 8 + column

-- ELM by bits 25..22, with a format and an index, and with 111110
abbrev pub elm : ℕ → ℕ
elm n = 320 + n

abbrev pub elm62 : ℕ → ℕ
elm62 n = 336 + n

-- VEC by bits 25..21
abbrev pub vec : ℕ → ℕ
vec n = 352 + n

-- 3RF by bits 25..22, the minor opcodes 26 to 28
abbrev pub float : ℕ → ℕ → ℕ
float m n = 384 + (m - 26) * 16 + n

-- 2R by bits 20..18
abbrev pub two : ℕ → ℕ
two n = 432 + n

-- the major opcode 010001 by bits 25..23, and 000000 by bits 5..0
abbrev pub branch : ℕ → ℕ
branch n = 440 + n

abbrev pub special : ℕ → ℕ
special n = 448 + n

-- the words that the table says nothing of
abbrev pub past : ℕ
past = 512

-- ---- the operations that are alone in their class

abbrev pub ldi : ℕ
ldi = minor 7 6

abbrev pub shf : ℕ
shf = minor 2 0

abbrev pub insert : ℕ
insert = elm 4

abbrev pub insve : ℕ
insve = elm 5

abbrev pub ctcmsa : ℕ
ctcmsa = elm62 0

abbrev pub cfcmsa : ℕ
cfcmsa = elm62 1

abbrev pub move : ℕ
move = elm62 2

abbrev pub fill : ℕ
fill = two 0
