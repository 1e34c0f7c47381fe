-- What an argument's own rounding changes of an answer, which is the mark alone: an argument that is exact leaves it as it is, and an answer that is exact
-- has an exact argument and is exact itself. Case by case.
use Rattle.whole.proofs.Basics.{◌≡◌, refl, Bool, true, false}
use mathlib.Core.Bool.{◌&&◌, false≢true}
use Rattle.word.proofs.ExactLaws.{both}
use Rattle.answering.specs.Answering.{evaluation_word, evaluation_steps, evaluation_exact, with_mark, Evaluation}
use Rattle.refusal.specs.Guard.{refused_number, refused_place}
use Rattle.std.specs.Prelude.{Err, Ok}

pub marked_number : (t : Bool) (e : Evaluation) → refused_number (with_mark t e) ≡ refused_number e
marked_number t (Ok w) = refl
marked_number t (Err r) = refl

pub marked_place : (t : Bool) (e : Evaluation) → refused_place (with_mark t e) ≡ refused_place e
marked_place t (Ok w) = refl
marked_place t (Err r) = refl

pub marked_word : (t : Bool) (e : Evaluation) → evaluation_word (with_mark t e) ≡ evaluation_word e
marked_word t (Ok w) = refl
marked_word t (Err r) = refl

pub marked_steps : (t : Bool) (e : Evaluation) → evaluation_steps (with_mark t e) ≡ evaluation_steps e
marked_steps t (Ok w) = refl
marked_steps t (Err r) = refl

pub marked_mark : (t : Bool) (e : Evaluation) → evaluation_exact (with_mark t e) ≡ (t && evaluation_exact e)
marked_mark t (Ok w) = refl
marked_mark true (Err r) = refl
marked_mark false (Err r) = refl

pub marked_exact : (e : Evaluation) → with_mark true e ≡ e
marked_exact (Ok w) = refl
marked_exact (Err r) = refl

pub both_exact : (t : Bool) (e : Evaluation) → evaluation_exact (with_mark t e) ≡ true → (t ≡ true) × (evaluation_exact e ≡ true)
both_exact t (Ok w) h = both t w.exact h
both_exact t (Err r) h = absurd (false≢true h)
