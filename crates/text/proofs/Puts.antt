-- Texts put one after the other are one text put, and room for both is room for each. Assumes nothing.
use mathlib.Core.Path.{◌≡◌, refl, sym, ap, ap₂, ◌∙◌, subst}
use mathlib.Core.List.{List, [], ◌∷◌, ◌++◌, append-nil, append_assoc}
use Prim.Native.Nat.{ℕ, suc, ◌+◌}
use native.Mathlib.Nat.{add-zero, zero-add, add-suc, suc-add, add_assoc}
use native.Mathlib.Omega.{arith}
use borrow.Rule.Slice.PartMut.{put_mid}
use lib.ListN.{length, take, drop, length-append}
use lib.Seq.{sets, length-sets, sets-eq, drop-drop, drop-length}
use Rattle.text.specs.Text.{Room, Puts}

sets-append : (l : List ℕ) (k : ℕ) (s t : List ℕ) → sets l k (s ++ t) ≡ sets (sets l k s) (k + length s) t
sets-append l k [] t = ap (λ (n : ℕ). sets l n t) (sym (add-zero k))
sets-append l k (x ∷ s) t = sets-append _ (suc k) s t
    ∙ ap (λ (n : ℕ). sets (sets l k (x ∷ s)) n t) (suc-add k (length s) ∙ sym (add-suc k (length s)))

pub puts_none : (l : List ℕ) (k : ℕ) → Puts l k [] l k
puts_none l k = record { place = sym (add-zero k); line = refl }

-- a text copied into its part of the line
pub puts_part : (l : List ℕ) (at : ℕ) {k : ℕ} {s t : List ℕ} → s ≡ t → k ≡ length t → Room l at t
    → Puts l at t (put_mid at k l s) (at + length t)
puts_part l at {t = t} e n room = record {
  place = refl;
  line =
      ap₂ (λ k s. take at l ++ (s ++ drop k (drop at l))) n e
      ∙ ap (λ r. take at l ++ (t ++ r)) (drop-drop (length t) at l)
      ∙ sym (append_assoc (take at l) t (drop (at + length t) l))
      ∙ sym (sets-eq t l at room.fits);
}

pub puts-as : {l m s t : List ℕ} {k p : ℕ} → s ≡ t → Puts l k s m p → Puts l k t m p
puts-as {l} {m} {s} {t} {k} {p} e h = subst (λ (x : List ℕ). Puts l k x m p) e h

pub puts_then : {l m n s t : List ℕ} {k p q : ℕ} → Puts l k s m p → Puts m p t n q → Puts l k (s ++ t) n q
puts_then {l} {m} {n} {s} {t} {k} {p} {q} f g = record {
  place = g.place ∙ ap (λ (x : ℕ). x + length t) f.place ∙ add_assoc k (length s) (length t)
      ∙ ap (λ (x : ℕ). k + x) (sym (length-append s t));
  line = g.line ∙ ap (λ (x : List ℕ). sets x p t) f.line ∙ ap (λ (x : ℕ). sets (sets l k s) x t) f.place
      ∙ sym (sets-append l k s t);
}

pub puts_four : {l m₁ m₂ m₃ n s t u v : List ℕ} {k p₁ p₂ p₃ q : ℕ} → Puts l k s m₁ p₁ → Puts m₁ p₁ t m₂ p₂
    → Puts m₂ p₂ u m₃ p₃ → Puts m₃ p₃ v n q
    → Puts l k (s ++ t ++ u ++ v) n q
puts_four f g h i = puts_then (puts_then (puts_then f g) h) i

pub kept : {l m s : List ℕ} {k p : ℕ} → Puts l k s m p → length m ≡ length l
kept {l} {m} {s} {k} f = ap length f.line ∙ length-sets l k s

pub room_as : {l s t : List ℕ} {k : ℕ} → s ≡ t → Room l k s → Room l k t
room_as {l} {s} {t} {k} e h = subst (Room l k) e h

pub room-left : {l s : List ℕ} {k : ℕ} (t : List ℕ) → Room l k (s ++ t) → Room l k s
room-left {l} {s} t h = record { fits = omega (arith, length-append s t) }

pub room-right : {l m s t : List ℕ} {k p : ℕ} → Puts l k s m p → Room l k (s ++ t) → Room m p t
room-right {l} {m} {s} {t} {k} {p} f h =
    let e : length m ≡ length l = kept f in
    let q : p ≡ k + length s = f.place in
    record { fits = omega (arith, length-append s t) }

-- a text as long as the line
pub puts_whole : {l t m : List ℕ} {p : ℕ} → length t ≡ length l → Puts l 0 t m p → m ≡ t
puts_whole {l} {t} {m} {p} e f =
    f.line ∙ sets-eq t l 0 (omega arith) ∙ ap (λ (n : ℕ). t ++ drop n l) (zero-add (length t) ∙ e)
    ∙ ap (λ (s : List ℕ). t ++ s) (drop-length l) ∙ append-nil t
