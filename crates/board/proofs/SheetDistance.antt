-- Demand 3: the distance of an accepted sheet's answers, at every argument in the formula's interval, said over whole numbers for n + 1 coefficients.
-- A polynomial answers within half of 1 + |x| + .. + |x|^(n-1) steps of the exact value; an even formula the same, of the polynomial's exact value at the
-- rounded square and with the square for x; an odd one within |x| times that, plus one half, of x times that exact value.
use Rattle.whole.proofs.Basics.{◌≡◌, ◌∙◌, ap, subst, List, ℕ, suc, ◌*◌, ◌^◌, ◌≤◌, take, ℤ, pos, nat_abs, ◌-ℤ◌, ◌*ℤ◌, ◌≤ℤ◌}
use Rattle.polynomial.specs.Distance.{exact_sum, spread_sum}
use Rattle.odd_even.specs.OddEven.{square_of}
use Rattle.odd_even.specs.Distance.{odd_exact_sum, odd_spread_sum}
use Rattle.formula.specs.declared.Formula.{Formula}
use Rattle.formula.specs.declared.Kind.TheVariants.{Polynomial, Odd, Even}
use Rattle.formula.specs.declared.Shape.{Shape}
use Rattle.formula.specs.Formula.{Sound, answer_of}
use Rattle.formula.proofs.Distance.{of_degree, polynomial_distance, even_distance, odd_distance}
use Rattle.layout.specs.Fields.{words_in}
use Rattle.sheet.specs.Reader.{HasFormula}
use Rattle.sheet.proofs.FormulasGiven.{given_fits}
use Rattle.answering.specs.Answering.{evaluation_word}
use Rattle.board.specs.Board.{evaluated}
use Rattle.board.proofs.AnswersInside.{formula_given, answers_inside}

-- the formula k of an accepted sheet that has it, at an argument in its interval
module _ (s : ℕ) (bytes : List ℕ) (k : ℕ) (given : HasFormula s bytes k) (n q mode : ℕ) (x : ℤ) (l : (formula_given s bytes k).lo ≤ℤ x) (h : x ≤ℤ (formula_given s bytes k).hi) where
  abbrev f : Formula
  f = formula_given s bytes k

  abbrev terms : List ℤ
  terms = take (suc n) (words_in f)

  abbrev answer : ℤ
  answer = evaluation_word (evaluated s bytes k x)

  -- for the shape that the formula is known to have
  sound : (shape : Shape) → f.shape ≡ shape → Sound shape f.lo f.hi (words_in f)
  sound shape e = subst (λ (i : Shape). Sound i f.lo f.hi (words_in f)) e (given_fits s bytes k given).0.sound

  answer_is : (shape : Shape) → f.shape ≡ shape → answer ≡ answer_of s shape (words_in f) x
  answer_is shape e = ap evaluation_word (answers_inside s bytes k given x l h) ∙ ap (λ (j : Shape). answer_of s j (words_in f) x) e

  pub sheet_distance : f.shape ≡ of_degree Polynomial n q mode → 2 * nat_abs (answer *ℤ pos (2 ^ (s * n)) -ℤ exact_sum s terms n x) ≤ spread_sum s n x
  sheet_distance e = rw (answer_is _ e) (polynomial_distance s n q mode f.lo f.hi (words_in f) x (sound _ e))

  pub sheet_even_distance : f.shape ≡ of_degree Even n q mode → 2 * nat_abs (answer *ℤ pos (2 ^ (s * n)) -ℤ exact_sum s terms n (square_of s x)) ≤ spread_sum s n (square_of s x)
  sheet_even_distance e = rw (answer_is _ e) (even_distance s n q mode f.lo f.hi (words_in f) x (sound _ e))

  pub sheet_odd_distance : f.shape ≡ of_degree Odd n q mode → 2 * nat_abs (answer *ℤ pos (2 ^ (s * suc n)) -ℤ odd_exact_sum s terms n x) ≤ odd_spread_sum s n x
  sheet_odd_distance e = rw (answer_is _ e) (odd_distance s n q mode f.lo f.hi (words_in f) x (sound _ e))
