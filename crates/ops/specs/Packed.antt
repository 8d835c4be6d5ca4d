-- How the code holds the table: a byte a place, with the class and, 32 times, the formats; eight places in one number.
use Rattle.std.specs.Prelude.{List, [], ◌∷◌, ℕ, ◌+◌, ◌*◌, get_or}
use Rattle.ops.specs.declared.Class.{Class}
use Rattle.ops.specs.declared.Class.TheVariants as class
use Rattle.ops.specs.Formats.{Formats, bhwd, hwd, bhw, b, v, bare, hw}
use Rattle.ops.specs.Table.{Row, row_at}

abbrev pub class_code : Class → ℕ
class_code class.Reserved = 0
class_code class.Three = 1
class_code class.Indexed = 2
class_code class.Imm5U = 3
class_code class.Imm5S = 4
class_code class.Ldi = 5
class_code class.Bit = 6
class_code class.Imm8 = 7
class_code class.Shf = 8
class_code class.Element = 9
class_code class.Insve = 10
class_code class.Copy = 11
class_code class.Insert = 12
class_code class.Move = 13
class_code class.Cfcmsa = 14
class_code class.Ctcmsa = 15
class_code class.Vec = 16
class_code class.Fill = 17
class_code class.Count = 18
class_code class.Memory = 19
class_code class.Branch = 20
class_code class.BranchV = 21
class_code class.Scaled = 22
class_code class.LeftOut = 23
class_code class.Fixed = 24

-- the class of a number
abbrev pub classes : List Class
classes =
    class.Reserved ∷ class.Three ∷ class.Indexed ∷ class.Imm5U ∷ class.Imm5S ∷ class.Ldi ∷ class.Bit ∷ class.Imm8
    ∷ class.Shf ∷ class.Element ∷ class.Insve ∷ class.Copy ∷ class.Insert ∷ class.Move ∷ class.Cfcmsa ∷ class.Ctcmsa
    ∷ class.Vec ∷ class.Fill ∷ class.Count ∷ class.Memory ∷ class.Branch ∷ class.BranchV ∷ class.Scaled
    ∷ class.LeftOut ∷ class.Fixed ∷ []

abbrev pub class_of : ℕ → Class
class_of n = get_or classes n class.Reserved

abbrev pub formats_code : Formats → ℕ
formats_code bhwd = 0
formats_code hwd = 1
formats_code bhw = 2
formats_code b = 3
formats_code v = 4
formats_code bare = 5
formats_code hw = 6

abbrev pub formats_of : ℕ → Formats
formats_of n = get_or (bhwd ∷ hwd ∷ bhw ∷ b ∷ v ∷ bare ∷ hw ∷ []) n bare

abbrev pub byte_of : Row → ℕ
byte_of r = class_code r.class + 32 * formats_code r.formats

unfoldable pub byte_at : ℕ → ℕ
byte_at k = byte_of (row_at k)

abbrev pub eight : (ℕ → ℕ) → ℕ
eight d =
    d 0 + 256 * (d 1 + 256 * (d 2 + 256 * (d 3 + 256 * (d 4 + 256 * (d 5 + 256 * (d 6 + 256 * d 7))))))

unfoldable pub row_word : ℕ → ℕ
row_word m = eight (λ c. byte_at (m * 8 + c))
