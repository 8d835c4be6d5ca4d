-- Equal registers give equal results of the bitwise forms.
-- Assumes nothing.
use mathlib.Core.Path.{◌≡◌, ap, ap₂, ◌∙◌}
use Prim.Native.Nat.{ℕ}
use Rattle.isa.specs.declared.Logic.{Logic}
use Rattle.logic.specs.Logic.{logic_bit}
use Rattle.vectors.specs.Register.{together}

pub same-together : (op : Logic) {d s t d' s' t' : ℕ} → d ≡ d' → s ≡ s' → t ≡ t' → together 1 (logic_bit op) d s t ≡ together 1 (logic_bit op) d' s' t'
same-together op {t = t} {d' = d'} {s' = s'} p q r = ap₂ (λ d s. together 1 (logic_bit op) d s t) p q ∙ ap (λ t. together 1 (logic_bit op) d' s' t) r
