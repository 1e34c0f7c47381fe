-- There is no fault for sine and cosine exactly where the formula is for them, and the only fault is 15: by cases on the kind and on the two tests.
use Rattle.whole.proofs.Basics.{◌≡◌, refl, sym, subst, Bool, true, false, cond, not, ◌⊎◌, inl, inr, ℕ, arith, T, ℤ, pos, ◌≤ℤ◌, lt_z}
use lib.Signed.{lt_z_yes, lt_z_no, clash_ℤ}
use Rattle.word.specs.Words.{unit}
use Rattle.formula.specs.declared.Formula.{Formula}
use Rattle.formula.specs.declared.Kind.{Kind}
use Rattle.formula.specs.declared.Kind.TheVariants.{Polynomial, Rational, Fraction, Root, Odd, Even, NoFormula}
use Rattle.faults.proofs.Chain.{passed, neither}
use Rattle.turn.specs.Sine.{odd_fault, span_fault, sine_fault, ForSine}

odd_or_not : (k : Kind) → (k ≡ Odd) ⊎ (odd_fault k ≡ 15)
odd_or_not Polynomial = inr refl
odd_or_not Rational = inr refl
odd_or_not Fraction = inr refl
odd_or_not Root = inr refl
odd_or_not Odd = inl refl
odd_or_not Even = inr refl
odd_or_not NoFormula = inr refl

is_odd : (k : Kind) → odd_fault k ≡ 0 → (k ≡ Odd) ⊎ (odd_fault k ≡ 15) → k ≡ Odd
is_odd k e (inl o) = o
is_odd k e (inr z) = absurd (omega arith)

-- a test of two numbers, and what it says
not_below : (x y : ℤ) → lt_z x y ≡ false → y ≤ℤ x
not_below x y e = lt_z_no (subst (λ (t : Bool). T (not t)) (sym e) tt)

at_least : (x y : ℤ) → y ≤ℤ x → lt_z x y ≡ false
at_least x y h = at (lt_z x y) refl
  where
    at : (t : Bool) → lt_z x y ≡ t → t ≡ false
    at true e = clash_ℤ (lt_z_yes (subst T (sym e) tt)) h
    at false e = refl

tests : (b c : Bool) → (cond {A = ℕ} b 15 (cond c 15 0) ≡ 0) ⊎ (cond {A = ℕ} b 15 (cond c 15 0) ≡ 15)
tests true c = inr refl
tests false true = inr refl
tests false false = inl refl

module _ (s : ℕ) (f : Formula) where
  pub or_fifteen : (sine_fault s f ≡ 0) ⊎ (sine_fault s f ≡ 15)
  unfolding span_fault
  or_fifteen = at (odd_or_not f.shape.kind)
    where
      at : (f.shape.kind ≡ Odd) ⊎ (odd_fault f.shape.kind ≡ 15) → (sine_fault s f ≡ 0) ⊎ (sine_fault s f ≡ 15)
      at (inl o) = rw o (tests (lt_z (pos 0) f.lo) (lt_z f.hi (pos (unit s))))
      at (inr z) = inr (rw z)

  pub sine_needs : sine_fault s f ≡ 0 → ForSine s f
  unfolding span_fault
  sine_needs e =
      let k = neither (odd_fault f.shape.kind) _ e in
      let l = passed (lt_z (pos 0) f.lo) 15 _ (λ q. omega arith) k.1 in
      let h = passed (lt_z f.hi (pos (unit s))) 15 0 (λ q. omega arith) l.1 in
      record { odd = is_odd _ k.0 (odd_or_not f.shape.kind); low = not_below (pos 0) f.lo l.0; high = not_below f.hi (pos (unit s)) h.0 }

  pub sine_enough : ForSine s f → sine_fault s f ≡ 0
  unfolding span_fault
  sine_enough k = rw (k.odd, at_least (pos 0) f.lo k.low, at_least f.hi (pos (unit s)) k.high)
