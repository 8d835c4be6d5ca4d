-- The listing's text, without the address and the word before it, tells readable words apart.
use Rattle.std.specs.Prelude.{◌≡◌, ℕ, ◌<◌, ◌^◌, Ok}
use Rattle.isa.specs.declared.Instr.{Instr}
use Rattle.reading.specs.Reading.{read_of}
use Rattle.listing.specs.Listing.{text_of}

abbrev pub SameText : Type 0
SameText =
    (w w' : ℕ) (i i' : Instr) → w < 2 ^ 32 → w' < 2 ^ 32 → read_of w ≡ Ok i → read_of w' ≡ Ok i'
    → text_of w ≡ text_of w' → w ≡ w'
