-- From the place that the reader answers to what the board answers, and from a record's own fields to those of the formula in it.
use Rattle.whole.proofs.Basics.{◌≡◌, refl, sym, ap, List, ℕ}
use Rattle.formula.specs.declared.Formula.{Formula}
use Rattle.layout.specs.Fields.{row_for, lo_of, hi_of, shape_of, formula_of}
use Rattle.refusal.specs.declared.Refusal.{Refusal}
use Rattle.sheet.specs.Reader.{formula_place, formula_in, formula_at, read_at, formula_read, HasFormula, Place, Reading, formula_given}
use Rattle.board.specs.Board.{when_given}
use Rattle.answering.specs.Answering.{Evaluation}
use Rattle.refusal.specs.Guard.{refused_number}
use Rattle.std.specs.Prelude.{Err, Ok}

module _ (s : ℕ) (bytes : List ℕ) (n : ℕ) where
  module _ (answer : Formula → Evaluation) where
    by_place : (p q : Place) → p ≡ q → when_given (read_at bytes p) (answer (formula_given (read_at bytes p))) ≡ when_given (read_at bytes q) (answer (formula_given (read_at bytes q)))
    by_place p q e = ap (λ (r : Place). when_given (read_at bytes r) (answer (formula_given (read_at bytes r)))) e

    pub when_at : (k : ℕ) → formula_place s bytes n ≡ Ok k → answer (formula_at bytes k) ≡ when_given (formula_read s bytes n) (answer (formula_given (formula_read s bytes n)))
    unfolding formula_read
    when_at k e = by_place (Ok k) (formula_place s bytes n) (sym e)

    pub when_refused : (q : Refusal) → formula_place s bytes n ≡ Err q → Err q ≡ when_given (formula_read s bytes n) (answer (formula_given (formula_read s bytes n)))
    unfolding formula_read
    when_refused q e = by_place (Err q) (formula_place s bytes n) (sym e)

-- ---- what holds of the reader's refusals, and of an answer where the sheet has the formula, holds of what the board answers
pub given_or_refused : (P : Evaluation → Type 0) (s : ℕ) (bytes : List ℕ) (n : ℕ) (e : Evaluation) → ((r : Refusal) → P (Err r)) → (HasFormula s bytes n → P e) → P (when_given (formula_read s bytes n) e)
given_or_refused P s bytes n e withheld own = at (formula_read s bytes n) refl
  where
    at : (a : Reading) → formula_read s bytes n ≡ a → P (when_given a e)
    at (Ok f) q = own (ap refused_number q)
    at (Err r) q = withheld r

-- ---- a record's own fields
module _ (b : List ℕ) where
  pub kind_in : (formula_in b).shape.kind ≡ (row_for b).kind
  unfolding formula_of shape_of
  kind_in = refl

  pub lo_in : (formula_in b).lo ≡ lo_of b
  unfolding formula_of
  lo_in = refl

  pub hi_in : (formula_in b).hi ≡ hi_of b
  unfolding formula_of
  hi_in = refl
