-- Demand 3: a formula in an accepted sheet answers every argument in its own interval, by its kind's rule and with its steps and mark, and
-- refuses every other by 10.
-- `HasFormula s bytes n` says that the sheet is accepted and has a formula numbered n (`found_exactly` of the reader's promises).
use Rattle.whole.proofs.Basics.{◌≡◌, ◌∙◌, refl, sym, ap, subst, ◌⊎◌, inl, inr, List, ℕ, ℤ, ◌≤ℤ◌, ◌<ℤ◌}
use Rattle.word.specs.Words.{Word, NotZero}
use Rattle.word.specs.Lists.{All}
use Rattle.formula.specs.declared.Formula.{Formula}
use Rattle.formula.specs.declared.Kind.{Kind}
use Rattle.formula.specs.declared.Kind.TheVariants.{Odd}
use Rattle.formula.specs.Formula.{answer_of, answer_by, worked_of, numbers_of, numbers_by, divisors_of, Answerable}
use Rattle.formula.proofs.StaysInRange.{formula_stays}
use Rattle.layout.specs.Fields.{words_in}
use Rattle.sheet.specs.Reader as reader
use Rattle.sheet.specs.Reader.{formula_read, HasFormula, Reading}
use Rattle.sheet.proofs.FormulasGiven.{given_scale, given_fits, given_found}
use Rattle.answering.specs.Answering.{refused, answer_at, Evaluation}
use Rattle.answering.proofs.IntervalLaws.{below_low, above_high, inside, answerable}
use Rattle.board.specs.Board.{when_given, evaluated}
use Rattle.refusal.specs.Guard.{refused_number, refused_place}
use Rattle.std.specs.Prelude.{Ok}

abbrev pub formula_given : ℕ → List ℕ → ℕ → Formula
formula_given s bytes n = reader.formula_given (formula_read s bytes n)

-- the formula n of an accepted sheet that has it
module _ (s : ℕ) (bytes : List ℕ) (n : ℕ) (given : HasFormula s bytes n) where
  abbrev f : Formula
  f = formula_given s bytes n

  -- the board's answer is then the formula's
  pub by_formula : (e : Evaluation) → when_given (formula_read s bytes n) e ≡ e
  by_formula e = ap (λ (a : Reading). when_given a e) (given_found s bytes n given)

  pub refuses_below : (x : ℤ) → x <ℤ f.lo → evaluated s bytes n x ≡ refused 10
  refuses_below x h = by_formula (answer_at s f x) ∙ sym (below_low s f x h)

  pub refuses_above : (x : ℤ) → f.hi <ℤ x → evaluated s bytes n x ≡ refused 10
  refuses_above x h = by_formula (answer_at s f x) ∙ sym (above_high s f x h)

  -- by the paper's number and place: every argument outside gets 10 and nothing else
  pub refuses_outside : (x : ℤ) → (x <ℤ f.lo) ⊎ (f.hi <ℤ x) → (refused_number (evaluated s bytes n x) ≡ 10) × (refused_place (evaluated s bytes n x) ≡ 0)
  refuses_outside x (inl h) = rw (refuses_below x h) (refl, refl)
  refuses_outside x (inr h) = rw (refuses_above x h) (refl, refl)

  module _ (x : ℤ) (l : f.lo ≤ℤ x) (h : x ≤ℤ f.hi) where
    pub answers_inside : evaluated s bytes n x ≡ Ok (worked_of s f.shape (words_in f) x)
    answers_inside = by_formula (answer_at s f x) ∙ sym (inside s f x l h)

    -- and no rounded product, quotient or sum on the way leaves the word range, nor is a divisor 0
    pub sheet_stays : All Word (numbers_of s f.shape (words_in f) x) × All NotZero (divisors_of s f.shape (words_in f) x)
    sheet_stays = formula_stays s f.shape (words_in f) x (answerable s f x l h (given_scale s bytes n given) (given_fits s bytes n given).0)

-- ---- an odd formula's answer is a word: it is the first of its numbers on the way
pub odd_word : (s : ℕ) (f : Formula) (x : ℤ) → f.shape.kind ≡ Odd → Answerable s f.shape (words_in f) x → Word (answer_of s f.shape (words_in f) x)
odd_word s f x e a =
    let h = f.shape in
    subst (λ (k : Kind). All Word (numbers_by k s h.p h.q h.mode (words_in f) x) → Word (answer_by k s h.p h.q h.mode (words_in f) x)) (sym e) (λ n. n.0)
    (formula_stays s h (words_in f) x a).0
