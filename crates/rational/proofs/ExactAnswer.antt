-- A rational's answer a that is marked exact is 2^s·N/D, for the exact polynomial values N and D: a·D = 2^s·N, both times 2^(s·n)·2^(s·m) for n + 1 over
-- m + 1 coefficients, and D is not 0. Both polynomials are exact, and so is the quotient of their words.
use Rattle.whole.proofs.Basics.{◌≡◌, ◌∙◌, sym, ap, subst, true, List, [], ◌∷◌, ℕ, suc, ◌*◌, ◌^◌, length, ℤ, pos, ◌*ℤ◌}
use mathlib.Core.Bool.{◌&&◌}
use lib.Pow.{pow_pos}
use Rattle.whole.proofs.Ring.{ring, var, ◌:*◌}
use Rattle.word.specs.Words.{NotZero, unit}
use Rattle.word.specs.Exact.{exact_quotient}
use Rattle.word.proofs.WordLaws.{not_zero_times}
use Rattle.word.proofs.ExactLaws.{quotient_exact, both}
use Rattle.polynomial.specs.Polynomial.{horner}
use Rattle.polynomial.specs.Distance.{exact_sum}
use Rattle.polynomial.specs.Exact.{polynomial_exact}
use Rattle.polynomial.proofs.ExactAnswer.{exact_answer_written_out}
use Rattle.rational.specs.Rational.{rational_of}
use Rattle.rational.specs.Exact.{rational_exact}

-- ---- from a·d = h·u, h·o = N and d·p = D
before : (a d : ℤ) (o p : ℕ) → a *ℤ (d *ℤ pos p) *ℤ pos o ≡ a *ℤ d *ℤ pos o *ℤ pos p
before a d o p =
    let A = var 0 in
    let D = var 1 in
    let O = var 2 in
    let Q = var 3 in
    ring (a ∷ d ∷ pos o ∷ pos p ∷ []) (A :* (D :* Q) :* O) (A :* D :* O :* Q) tt

after : (h : ℤ) (u o p : ℕ) → h *ℤ pos u *ℤ pos o *ℤ pos p ≡ pos u *ℤ (h *ℤ pos o) *ℤ pos p
after h u o p =
    let H = var 0 in
    let U = var 1 in
    let O = var 2 in
    let Q = var 3 in
    ring (h ∷ pos u ∷ pos o ∷ pos p ∷ []) (H :* U :* O :* Q) (U :* (H :* O) :* Q) tt

ratio_exact : (a h d N D : ℤ) (u o p : ℕ) → a *ℤ d ≡ h *ℤ pos u → h *ℤ pos o ≡ N → d *ℤ pos p ≡ D → a *ℤ D *ℤ pos o ≡ pos u *ℤ N *ℤ pos p
ratio_exact a h d N D u o p e f g =
    ap (λ (z : ℤ). a *ℤ z *ℤ pos o) (sym g)
    ∙ before a d o p
    ∙ ap (λ (z : ℤ). z *ℤ pos o *ℤ pos p) e
    ∙ after h u o p
    ∙ ap (λ (z : ℤ). pos u *ℤ z *ℤ pos p) f

module _ (s n m : ℕ) (num den : List ℤ) (x : ℤ) (f : length num ≡ suc n) (g : length den ≡ suc m) (apart : NotZero (horner s den x)) (t : rational_exact s num den x ≡ true) where
  abbrev N : ℤ
  N = horner s num x

  abbrev D : ℤ
  D = horner s den x

  marks : (polynomial_exact s num x ≡ true) × (polynomial_exact s den x ≡ true) × (exact_quotient s N D ≡ true)
  marks =
      let b = both (polynomial_exact s num x && polynomial_exact s den x) (exact_quotient s N D) t in
      let c = both (polynomial_exact s num x) (polynomial_exact s den x) b.0 in
      (c.0, c.1, b.1)

  top : N *ℤ pos (2 ^ (s * n)) ≡ exact_sum s num n x
  top = exact_answer_written_out s num n x f marks.0

  bottom : D *ℤ pos (2 ^ (s * m)) ≡ exact_sum s den m x
  bottom = exact_answer_written_out s den m x g marks.1

  pub rational_exact_lem : (rational_of s num den x *ℤ exact_sum s den m x *ℤ pos (2 ^ (s * n)) ≡ pos (2 ^ s) *ℤ exact_sum s num n x *ℤ pos (2 ^ (s * m))) × NotZero (exact_sum s den m x)
  rational_exact_lem = (
    ratio_exact (rational_of s num den x) N D (exact_sum s num n x) (exact_sum s den m x) (unit s) (2 ^ (s * n)) (2 ^ (s * m)) (quotient_exact s N D apart marks.2) top bottom,
    subst NotZero bottom (not_zero_times D (pos (2 ^ (s * m))) apart (pow_pos (s * m))),
  )
