-- The writers of one line: as made, and after each part. There is room for each part where there is room for the
-- line, and the last leaves the line and then blanks. Assumes nothing.
use mathlib.Core.Path.{◌≡◌, refl, sym, ap, ◌∙◌}
use mathlib.Core.List.{List, ◌++◌}
use Prim.Native.Nat.{ℕ, ◌-◌}
use native.Mathlib.Nat.{zero-add}
use native.Mathlib.Omega.{arith}
use lib.ListN.{length, replicate, length-append, length-replicate}
use denote.MutBor.{MutBor}
use Rattle.text.specs.Text.{bytes, Room, Puts, padded}
use Rattle.text.specs.Numerals.{hex}
use Rattle.text.proofs.Puts.{puts-as, puts_then, puts_whole, kept, room_as, room-left, room-right}
use Rattle.listing.specs.declared.Part.{Part}
use Rattle.listing.specs.declared.Part.TheVariants.{Address, Word, Text, Blanks}
use Rattle.listing.specs.Listing.{part_text, text_of, line_of}
use Rattle.listing.proofs.Lines.{line-parts}
use Rattle.line_writer.specs.declared.LineWriter.{LineWriter}
use Rattle.line_writer.specs.Moved.{moved}

abbrev pub RoomFor : LineWriter → Part → Type 0
RoomFor h p = Room h.line.now h.at (part_text h.line.now h.at p)

-- what `moved` says, as what is put
puts : (h : LineWriter) (p : Part)
    → Puts h.line.now h.at (part_text h.line.now h.at p) (moved h p).line.now (moved h p).at
puts h p = record { place = refl; line = refl }

module _ (x : MutBor (List ℕ)) (a w : ℕ) where
  abbrev pub made : LineWriter
  made = record { line = x; at = 0 }

  abbrev pub addressed : LineWriter
  addressed = moved made (Address a)

  abbrev pub worded : LineWriter
  worded = moved addressed (Word w)

  abbrev pub texted : LineWriter
  texted = moved worded (Text w)

  abbrev pub blanked : LineWriter
  blanked = moved texted Blanks

  both : Puts x.now 0 (hex a ++ bytes ": " ++ (hex w ++ bytes " ")) worded.line.now worded.at
  both = puts_then (puts made (Address a)) (puts addressed (Word w))

  line : Puts x.now 0 (line_of a w) texted.line.now texted.at
  line = puts-as (line-parts x.now 0 a w) (puts_then both (puts worded (Text w)))

  pub length-is : texted.at ≡ length (line_of a w)
  length-is = line.place ∙ zero-add (length (line_of a w))

  module _ (within : Room x.now 0 (line_of a w)) where
    all : Room x.now 0 (hex a ++ bytes ": " ++ (hex w ++ bytes " ") ++ text_of w)
    all = room_as (sym (line-parts x.now 0 a w)) within

    pub for-address : RoomFor made (Address a)
    for-address = room-left (hex w ++ bytes " ") (room-left (text_of w) all)

    pub for-word : RoomFor addressed (Word w)
    for-word = room-right (puts made (Address a)) (room-left (text_of w) all)

    pub for-text : RoomFor worded (Text w)
    for-text = room-right both all

    -- what is left of the line
    left : length texted.line.now - texted.at ≡ length x.now - length (line_of a w)
    left = rw (kept line, length-is)

    pub for-blanks : RoomFor texted Blanks
    for-blanks = record { fits = simp length-replicate (omega (arith, kept line, length-is, within.fits)) }

    pub filled : blanked.line.now ≡ padded (length x.now) (line_of a w)
    filled = puts_whole long (puts_then line (puts-as (ap (λ (n : ℕ). replicate n 32) left) (puts texted Blanks)))
      where
        long : length (padded (length x.now) (line_of a w)) ≡ length x.now
        long = simp (length-append, length-replicate) (omega (arith, within.fits))

    pub same_length : length blanked.line.now ≡ length x.now
    same_length = kept (puts texted Blanks) ∙ kept line
