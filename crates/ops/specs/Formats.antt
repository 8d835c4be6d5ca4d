-- The data formats that an operation has: which of B, H, W and D; the whole register, .V; or none.
use Rattle.std.specs.Prelude.{Bool, true, false}
use Rattle.isa.specs.declared.Width.{Width}
use Rattle.isa.specs.declared.Width.TheVariants.{B, H, W, D}

pub data Formats : Type 0 where
  bhwd hwd bhw b v bare hw : Formats

abbrev pub has : Formats → Width → Bool
has bhwd df = true
has hwd B = false
has hwd H = true
has hwd W = true
has hwd D = true
has bhw B = true
has bhw H = true
has bhw W = true
has bhw D = false
has b B = true
has b H = false
has b W = false
has b D = false
has v df = false
has bare df = false
has hw B = false
has hw H = true
has hw W = true
has hw D = false
