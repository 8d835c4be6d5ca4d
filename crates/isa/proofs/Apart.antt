-- Answers that say the same are the same: what an answer says tells its cases apart. Assumes nothing.
use mathlib.Core.Path.{◌≡◌, refl, sym, ap, ◌∙◌}
use mathlib.Core.Bool.{cond}
use Prim.Native.Nat.{ℕ}
use lib.Dec.{eqb}
use Rattle.isa.specs.declared.Instr.{Instr}
use Rattle.std.specs.Prelude.{Ok, Err, Some, None, Result, Option}
use Rattle.isa.specs.declared.Unread.{Unread}
use Rattle.isa.specs.declared.Unread.TheVariants as unread
use Rattle.isa.specs.Numbers.{Said, number, values, read_said, written_said}

-- a function that another one undoes tells its arguments apart
pub apart : {A B : Type 0} (f : A → B) (g : B → A) → ((a : A) → g (f a) ≡ a) → (a b : A) → f a ≡ f b → a ≡ b
apart f g back a b e = sym (back a) ∙ ap g e ∙ back b

-- the answer that says this
abbrev unread_from : ℕ → Unread
unread_from n = cond (eqb n 12) unread.Unassigned (cond (eqb n 13) unread.LeftOut unread.Other)

abbrev read_from : Said Instr → Result Instr Unread
read_from (number n) = Err (unread_from n)
read_from (values i) = Ok i

read_back : (r : Result Instr Unread) → read_from (read_said r) ≡ r
read_back (Err unread.Unassigned) = refl
read_back (Err unread.LeftOut) = refl
read_back (Err unread.Other) = refl
read_back (Ok i) = refl

pub read-apart : (r s : Result Instr Unread) → read_said r ≡ read_said s → r ≡ s
read-apart = apart read_said read_from read_back

abbrev written_from : Said ℕ → Option ℕ
written_from (number n) = None
written_from (values w) = Some w

written_back : (r : Option ℕ) → written_from (written_said r) ≡ r
written_back None = refl
written_back (Some w) = refl

pub written_apart : (r s : Option ℕ) → written_said r ≡ written_said s → r ≡ s
written_apart = apart written_said written_from written_back
