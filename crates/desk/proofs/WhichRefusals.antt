-- Promise: which refusals the door and the interval can give. The door has evaluation's and 13, the interval the reader's; where there is
-- none of them, there is an answer.
use Rattle.whole.proofs.Basics.{◌≡◌, refl, ap, Bool, true, false, cond, leb, nat_abs, ℤ, ◌⊎◌, inl, inr, List, ℕ, arith}
use lib.Ieee.{Float, nan, inf, fin}
use Rattle.word.specs.Words.{largest}
use Rattle.formula.specs.declared.Formula.{Formula}
use Rattle.door.specs.Taken.{argument_of, argument_exact, taken_of, took}
use Rattle.door.specs.declared.answer.Ends.{Ends}
use Rattle.faults.specs.Refusals.{OneOf}
use Rattle.faults.proofs.FaultSets.{one_of}
use Rattle.sheet.specs.Reader.{reader_refusals, formula_read, formula_given, Reading, Given}
use Rattle.sheet.proofs.WhichRefusals.{read_or_eleven}
use Rattle.answering.specs.Answering.{with_mark, answer_at, Evaluation}
use Rattle.answering.proofs.MarkLaws.{marked_number}
use Rattle.board.proofs.WhichRefusals.{AnswerOr, given_or, at_argument}
use Rattle.desk.specs.Desk.{door_refusals, taken_by, taken_at, evaluated_double, ShownAs, showing, IntervalAs, Showing, Interval}
use Rattle.refusal.specs.declared.Fault.TheVariants.{Outside}
use Rattle.refusal.specs.Guard.{refused_number}
use Rattle.std.specs.Prelude.{Err, Ok}

marked_or : (l : List ℕ) (t : Bool) (e : Evaluation) → AnswerOr l e → AnswerOr l (with_mark t e)
marked_or l t e (inl (w, q)) = inl (_, ap (with_mark t) q)
marked_or l t e (inr h) = inr (rw (marked_number t e) h)

-- of a double the door takes a word, or refuses it by 13 or 10
at_door : (s : ℕ) (f : Formula) (x : Float) → AnswerOr door_refusals (taken_at s f x)
unfolding taken_of
at_door s f nan = inr (one_of door_refusals 13 tt)
at_door s f (inf t) = inr (one_of door_refusals 13 tt)
at_door s f (fin t m e) = at (leb (nat_abs (argument_of s t m e)) largest)
  where
    z : ℤ
    z = argument_of s t m e

    at : (b : Bool) → AnswerOr door_refusals (taken_by s f (cond b (took z (argument_exact s t m e)) (Err Outside)))
    at true = marked_or door_refusals (argument_exact s t m e) (answer_at s f z) (at_argument door_refusals (one_of door_refusals 10 tt) s f z)
    at false = inr (one_of door_refusals 10 tt)

module _ (s : ℕ) (bytes : List ℕ) (n : ℕ) where
  abbrev f : Formula
  f = (formula_given (formula_read s bytes n))

  pub door_refusals_lem : (x : Float) (y : Showing) → ShownAs s (evaluated_double s bytes n x) y → ((v : Float) × (k : ℕ) × (t : Bool) × (y ≡ showing v k t)) ⊎ OneOf door_refusals (refused_number y)
  door_refusals_lem x y p = at (evaluated_double s bytes n x) y p (given_or door_refusals (formula_read s bytes n) _ (read_or_eleven s bytes n) (λ k h. inr (inr h)) (at_door s f x))
    where
      at : (e : Evaluation) (y : Showing) → ShownAs s e y → AnswerOr door_refusals e → ((v : Float) × (k : ℕ) × (t : Bool) × (y ≡ showing v k t)) ⊎ OneOf door_refusals (refused_number y)
      at e (Ok a) p h = inl (a.value, a.steps, a.exact, refl)
      at (Ok w) (Err r) p h = absurd p
      at (Err q) (Err r) p (inl h) = absurd (let z : ◌≡◌ {A = ℕ} 0 1 = cc in omega arith)
      at (Err q) (Err r) p (inr h) = inr (rw p h)

  pub interval_refusals : (i : Interval) → IntervalAs s (formula_read s bytes n) i → ((e : Ends) × (i ≡ Ok e)) ⊎ OneOf reader_refusals (refused_number i)
  interval_refusals i p = at (formula_read s bytes n) i p (read_or_eleven s bytes n)
    where
      at : (a : Reading) (i : Interval) → IntervalAs s a i → Given a ⊎ OneOf reader_refusals (refused_number a) → ((e : Ends) × (i ≡ Ok e)) ⊎ OneOf reader_refusals (refused_number i)
      at a (Ok e) p h = inl (e, refl)
      at (Ok g) (Err r) p h = absurd p
      at (Err q) (Err r) p (inl h) = absurd (let z : ◌≡◌ {A = ℕ} 0 1 = cc in omega arith)
      at (Err q) (Err r) p (inr h) = inr (rw p h)
