-- `listing::put_blanks` meets its contract.
use Prim.Native.Nat.{ℕ, ◌+◌, ◌-◌, ◌≤◌}
use mathlib.Core.List.{List, ◌++◌, append_assoc}
use mathlib.Core.Path.{◌≡◌, sym, ap, ◌∙◌}
use native.Mathlib.Omega.{arith}
use lib.ListN.{length, length-replicate, take, drop, replicate}
use lib.Seq.{sets-eq}
use borrow.Rule.Slice.PartMut.{put_mid, Post-is, mid_len, same_len_mid}
use Rattle.text.proofs.Puts.{puts-as}
use Rattle.text.specs.Text.{Puts}
use Rattle.listing.proofs.put_blanks.Goals as goal

-- a text in the place of the rest of a line, as long as that
puts-rest : (l : List ℕ) (k : ℕ) → k ≤ length l → (t : List ℕ) → length t ≡ length l - k
    → Puts l k t (put_mid k (length l - k) l t) (length (put_mid k (length l - k) l t))
puts-rest l k h t e =
    let end : k + length t ≡ length l = omega arith in
    record {
      place = same_len_mid k (length l - k) l t (e ∙ sym (mid_len k (length l) l (omega arith))) ∙ sym end;
      line =
          sym (append_assoc (take k l) t (drop (length l - k) (drop k l)))
          ∙ ap (λ (s : List ℕ). take k l ++ t ++ s) (Post-is k (length l) l h ∙ ap (λ (n : ℕ). drop n l) (sym end))
          ∙ sym (sets-eq t l k (omega arith));
    }

pub returns : goal.returns
returns c =
    let l : List ℕ = c.args.line.now in
    let k : ℕ = c.args.at in
    let rest : length (replicate {A = ℕ} (length l - k) 32) ≡ length l - k = length-replicate (length l - k) 32 in
    let h : k ≤ length l = omega (arith, c.requires.fits) in
    let e : c.blank.new.line ≡ replicate (length l - k) 32 =
    c.blank.ensures ∙ ap (λ (n : ℕ). replicate n 32) (mid_len k (length l) l (omega arith)) in
    puts-as e (puts-rest l k h c.blank.new.line (ap length e ∙ rest))
