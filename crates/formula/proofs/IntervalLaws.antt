-- An argument in lo..hi is no larger than the larger of |lo| and |hi|, and that is a word's size.
use Rattle.whole.proofs.Basics.{◌≡◌, refl, sym, ap, Bool, true, false, cond, ℕ, ◌≤◌, ◌<◌, arith, ltb, ℤ, nat_abs, ◌≤ℤ◌, ltb-true, ltb-false, lt-ltb, le-ltb}
use Rattle.whole.proofs.Diff.{v, abs_is, size, parts_le_out}
use Rattle.word.specs.Words.{Word}
use Rattle.formula.specs.Formula.{most_of}

pub most_high : (lo hi : ℤ) → nat_abs lo < nat_abs hi → nat_abs hi ≡ most_of lo hi
most_high lo hi h = sym (ap (λ (b : Bool). cond b (nat_abs hi) (nat_abs lo)) (lt-ltb (nat_abs lo) (nat_abs hi) h))

pub most_low : (lo hi : ℤ) → nat_abs hi ≤ nat_abs lo → nat_abs lo ≡ most_of lo hi
most_low lo hi h = sym (ap (λ (b : Bool). cond b (nat_abs hi) (nat_abs lo)) (le-ltb (nat_abs lo) (nat_abs hi) h))

-- both ends are within it
ends : (b : Bool) (l h : ℕ) → ltb l h ≡ b → (l ≤ cond b h l) × (h ≤ cond b h l)
ends true l h e = (omega (arith, ltb-true l h e), omega arith)
ends false l h e = (omega arith, ltb-false l h e)

pub most_bounds : (lo hi x : ℤ) → lo ≤ℤ x → x ≤ℤ hi → nat_abs x ≤ most_of lo hi
most_bounds lo hi x f g =
    let e = ends (ltb (nat_abs lo) (nat_abs hi)) (nat_abs lo) (nat_abs hi) refl in
    omega (arith, e, size (v x), abs_is lo, abs_is hi, parts_le_out lo x f, parts_le_out x hi g)

either : (b : Bool) (l h k : ℕ) → l ≤ k → h ≤ k → cond b h l ≤ k
either true l h k f g = g
either false l h k f g = f

pub most_word : (lo hi : ℤ) → Word lo → Word hi → most_of lo hi ≤ 2147483647
most_word lo hi f g = either (ltb (nat_abs lo) (nat_abs hi)) (nat_abs lo) (nat_abs hi) 2147483647 f g
