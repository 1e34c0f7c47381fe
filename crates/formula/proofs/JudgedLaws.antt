-- What each kind's own admission has found, over numbers that may be no words: it admits words alone, since a bound within range shows
-- that all are words; and of words it says what admission says.
use Rattle.whole.proofs.Basics.{◌≡◌, ◌∙◌, sym, ap, ap₂, subst, List, ℕ, ℤ, ◌+◌, ◌++◌, arith, length, take, drop}
use Rattle.std.proofs.Common.{take_all}
use Rattle.std.proofs.lemmas.List.{length-drop, take-append-drop}
use Rattle.admission.specs.Admission.{Judged}
use Rattle.word.specs.Lists.{Words}
use Rattle.word.proofs.ListLaws.{words_append}
use Rattle.polynomial.specs.Polynomial.{polynomial_admission, bound_of}
use Rattle.polynomial.proofs.BoundLaws.{within_words, within_out}
use Rattle.odd_even.specs.OddEven.{even_admission, odd_admission}
use Rattle.odd_even.proofs.StaysInRange.{even_within, odd_within, square_words}
use Rattle.rational.specs.Rational.{rational_admission}
use Rattle.formula.specs.Formula.{admission_by}
use Rattle.formula.specs.declared.Kind.TheVariants.{Polynomial, Rational, Odd, Even}

all_of : (ws : List ℤ) (p : ℕ) → length ws ≡ p → take p ws ≡ ws
all_of ws p n = take_all p ws (omega arith)

module _ (s A : ℕ) (ws : List ℤ) (p q mode : ℕ) where
  pub polynomial_judged : length ws ≡ p → Judged ws (admission_by Polynomial s A p q mode ws) (polynomial_admission s A ws)
  polynomial_judged n =
      record {
        words = λ e. let w = within_out (bound_of s A ws) _ e in within_words s A ws w.0 w.1;
        same = λ h. ap (polynomial_admission s A) (sym (all_of ws p n));
      }

  pub rational_judged : length ws ≡ p + q → Judged ws (admission_by Rational s A p q mode ws) (rational_admission s A (take p ws) (drop p ws))
  rational_judged n =
      record {
        words = λ e.
            let w = within_out (bound_of s A (take p ws)) _ e in
            let v = within_out (bound_of s A (drop p ws)) _ w.2 in
            subst Words (take-append-drop p ws) (words_append (take p ws) (drop p ws) (within_words s A (take p ws) w.0 w.1) (within_words s A (drop p ws) v.0 v.1));
        same = λ h. ap (rational_admission s A (take p ws)) (sym (all_of (drop p ws) q (omega (arith, length-drop p ws))));
      }

  pub odd_judged : length ws ≡ p → Judged ws (admission_by Odd s A p q mode ws) (odd_admission s A ws)
  odd_judged n =
      record {
        words = λ e. let w = odd_within s A ws e in square_words s A ws w.0 w.1;
        same = λ h. ap (odd_admission s A) (sym (all_of ws p n));
      }

  pub even_judged : length ws ≡ p → Judged ws (admission_by Even s A p q mode ws) (even_admission s A ws)
  even_judged n =
      record {
        words = λ e. let w = even_within s A ws e in square_words s A ws w.0 w.1;
        same = λ h. ap (even_admission s A) (sym (all_of ws p n));
      }
