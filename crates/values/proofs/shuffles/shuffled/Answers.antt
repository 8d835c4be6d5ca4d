-- `values::shuffles::shuffled` meets its contract: the two words are the register's.
use borrow.Author.Rules.{rules}
use mathlib.Core.Path.{◌≡◌, sym, ap, ◌∙◌}
use mathlib.Core.Bool.{false}
use Prim.Native.Nat.{ℕ}
use Rattle.isa.specs.declared.Width.{Width}
use Rattle.isa.specs.Widths.{bits}
use Rattle.memory.specs.declared.Register.{Register}
use Rattle.memory.specs.File.{register_at}
use Rattle.memory.specs.Value.{register}
use Rattle.permute.specs.Permute.{chosen_by_control}
use Rattle.permute.proofs.ControlLaws.{both-chosen}
use Rattle.vectors.specs.Register.{whole}
use Rattle.entries.specs.Cut.{flag_of}
use Rattle.acts.specs.Act.{vreg}
use Rattle.values.proofs.Arms.{words_of}
use Rattle.values.proofs.shuffles.shuffled.Goals as goal

-- what is said of the width and the values that the code has is said of the entry's
said_of : {r : Register} {v w : Width} {d d' s s' t t' : ℕ} → w ≡ v → d ≡ d' → s ≡ s' → t ≡ t'
    → r ≡ register (whole (bits w) (chosen_by_control (bits w) d s t))
    → r ≡ register (whole (bits v) (chosen_by_control (bits v) d' s' t'))
said_of ew ed es et h = rw (← ew, ← ed, ← es, ← et) h

pub returns-then-flag_of : goal.returns-then-flag_of
returns-then-flag_of c =
    said_of c.width_of-w.ensures c.dest-d.ensures.exact c.source.ensures.exact c.third.ensures.exact c.vshf.ensures

pub returns : goal.returns
returns c =
    let held = c.dest-d.ensures in
    let at : ℕ → ℕ = λ n. register_at c.args.vectors.now (vreg n) in
    let off : flag_of c.args.e ≡ false = sym c.flag_of.ensures ∙ c.if-flag_of.false in
    let s = c.source_of in
    let t = c.third_of in
    said_of {t = at t.result} c.width_of-w.ensures held.exact (ap at s.ensures.0) (rw off (ap at t.ensures.0))
    (both-chosen c.width_of-w.result _ _ (at s.result) (at t.result) (words_of held) (search rules) (search rules)
    (search rules))
