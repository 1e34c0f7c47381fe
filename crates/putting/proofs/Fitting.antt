-- Where each word of a list fits, past whose end there is 0, so does each of its first ones, and each of the array that holds them.
use Rattle.whole.proofs.Basics.{◌≡◌, refl, sym, subst, List, [], ◌∷◌, ◌++◌, ℕ, suc, zero, ◌-◌, arith, length, take, get_or, ℤ, pos, w32, SFits}
use lib.ListN.{replicate}
use Rattle.layout.specs.Fields.{padded}

pub each_first : (m : ℕ) (ws : List ℤ) → ((k : ℕ) → SFits w32 (get_or ws k (pos 0))) → (k : ℕ) → SFits w32 (get_or (take m ws) k (pos 0))
each_first zero ws h k = record { sfits = omega arith }
each_first (suc m) [] h k = h k
each_first (suc m) (z ∷ zs) h zero = h 0
each_first (suc m) (z ∷ zs) h (suc k) = each_first m zs (λ i. h (suc i)) k

zeros : (n k : ℕ) → get_or (replicate n (pos 0)) k (pos 0) ≡ pos 0
zeros zero k = refl
zeros (suc n) zero = refl
zeros (suc n) (suc k) = zeros n k

behind : (l : List ℤ) (n k : ℕ) → get_or (l ++ replicate n (pos 0)) k (pos 0) ≡ get_or l k (pos 0)
behind [] n k = zeros n k
behind (z ∷ l) n zero = refl
behind (z ∷ l) n (suc k) = behind l n k

pub each_padded : (l : List ℤ) → ((k : ℕ) → SFits w32 (get_or l k (pos 0))) → (k : ℕ) → SFits w32 (get_or (padded l) k (pos 0))
unfolding padded
each_padded l h k = subst (SFits w32) (sym (behind l (32 - length l) k)) (h k)
