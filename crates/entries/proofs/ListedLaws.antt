-- Laws of the read list: what it holds at each place, as its entries are written one by one. Assumes nothing.
use Rattle.std.proofs.Common.{◌≡◌, ℕ, zero, suc, ◌+◌, ◌^◌, ◌<◌, ◌≤◌, List, length, get_or, set, refl, ◌∙◌, ⊎_elim, eq-or-lt_of_le, arith, length-set, get_or-set_other, get_or-set_same}
use Rattle.entries.specs.Listed.{word_at, entry_at, listed, AreWords}

-- one entry after the other
pub none : (p l : List ℕ) → l ≡ listed p l 0
unfolding listed
none p l = refl

pub more : (p l m : List ℕ) (n e : ℕ) → m ≡ listed p l n → e ≡ entry_at p n → set m n e ≡ listed p l (n + 1)
unfolding listed
more p l m n e h g = let s : n + 1 ≡ suc n = omega arith in rw (s, h, g)

pub long : (p l : List ℕ) (n : ℕ) → length (listed p l n) ≡ length l
unfolding listed
long p l zero = refl
long p l (suc n) = length-set (listed p l n) n (entry_at p n) ∙ long p l n

-- an entry below n is that of its word
pub held : (p l : List ℕ) (n i : ℕ) → i < n → n ≤ length l → get_or (listed p l n) i 0 ≡ entry_at p i
unfolding listed
held p l zero i h g = absurd (omega arith)
held p l (suc n) i h g =
    let long-enough : n < length (listed p l n) = rw (long p l n) (omega arith) in
    ⊎_elim (λ (e : i ≡ n). rw e (get_or-set_same (listed p l n) n (entry_at p n) 0 long-enough))
    (λ (b : i < n). get_or-set_other (listed p l n) n i (entry_at p n) 0 (λ e. absurd (omega arith))
    ∙ held p l n i b (omega arith))
    (eq-or-lt_of_le (omega arith))

-- what the list holds past the program stays
pub kept : (p l : List ℕ) (n i : ℕ) → n ≤ i → get_or (listed p l n) i 0 ≡ get_or l i 0
unfolding listed
kept p l zero i h = refl
kept p l (suc n) i h =
    get_or-set_other (listed p l n) n i (entry_at p n) 0 (λ e. absurd (omega arith)) ∙ kept p l n i (omega arith)

pub no_words : (p : List ℕ) → AreWords p 0
no_words p i h = absurd (omega arith)

pub more-words : (p : List ℕ) (n : ℕ) → AreWords p n → word_at p n < 2 ^ 32 → AreWords p (n + 1)
more-words p n a h i b = ⊎_elim (λ (e : i ≡ n). rw e h) (λ (l : i < n). a i l) (eq-or-lt_of_le (omega arith))
