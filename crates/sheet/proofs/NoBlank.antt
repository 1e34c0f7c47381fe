-- Promise: no formula of an accepted sheet is blank, of its records and of what the reader gives. So each polynomial that it gives has a coefficient that is not
-- zero, and so have an odd and an even formula; a rational has one in its numerator, and a fraction has b0 or a1.
use Rattle.whole.proofs.Basics.{◌≡◌, ◌∙◌, refl, sym, ap, subst, false, List, [], ◌∷◌, ℕ, ◌≤◌, arith, take, ℤ}
use lib.Seq.{take-take}
use Rattle.formula.specs.Formula.{Counted, word_count}
use Rattle.formula.specs.Blank.{all_zero, blank_by, blank_of, SomeNotZero}
use Rattle.formula.specs.declared.Kind.{Kind}
use Rattle.formula.specs.declared.Kind.TheVariants.{Polynomial, Rational, Fraction, Odd, Even}
use Rattle.formula.specs.declared.Formula.{Formula}
use Rattle.formula.proofs.BlankLaws.{some_not_zero}
use Rattle.layout.specs.Fields.{row_for, shape_of, lo_of, hi_of, words_of, words_in}
use Rattle.records.specs.Sheets.{EachFormula, SheetOf}
use Rattle.records.proofs.Soundness.{not_blank}
use Rattle.sheet.specs.Reader.{formula_read, HasFormula, NoneBlank, formula_given}
use Rattle.sheet.proofs.FormulasGiven.{given_fits}

-- ---- its records
none_blank : (s : ℕ) (fs : List (List ℕ)) → EachFormula s fs → NoneBlank fs
none_blank s [] h = tt
none_blank s (b ∷ bs) h = let r = row_for b in (not_blank s r (shape_of r b) (lo_of b) (hi_of b) (words_of r b) h.0.inner, none_blank s bs h.1)

pub no_blank_record : (s c : ℕ) (bytes : List ℕ) (h : SheetOf s c bytes) → NoneBlank h.formulas
no_blank_record s c bytes h = none_blank s h.formulas h.each

-- ---- what the reader gives
module _ (s : ℕ) (bytes : List ℕ) (n : ℕ) (e : HasFormula s bytes n) where
  abbrev f : Formula
  f = (formula_given (formula_read s bytes n))

  pub no_blank : blank_of f.shape (words_in f) ≡ false
  no_blank = (given_fits s bytes n e).0.not_blank

  -- by the kind, which looks at the first words, so many
  by_kind : (k : Kind) (m : ℕ) → f.shape.kind ≡ k → ((ws : List ℤ) → blank_by k f.shape.p ws ≡ all_zero (take m ws)) → m ≤ word_count k f.shape.p f.shape.q → SomeNotZero (take m f.words)
  by_kind k m g looks h =
      let c = word_count f.shape.kind f.shape.p f.shape.q in
      let h' : m ≤ c = subst (λ (j : Kind). m ≤ word_count j f.shape.p f.shape.q) (sym g) h in
      some_not_zero (take m f.words) (ap all_zero (sym (take-take m c f.words h')) ∙ sym (looks (words_in f)) ∙ ap (λ (j : Kind). blank_by j f.shape.p (words_in f)) (sym g) ∙ no_blank)

  -- the sentence of the four hundred
  pub polynomial_not_zero : f.shape.kind ≡ Polynomial → SomeNotZero (take f.shape.p f.words)
  polynomial_not_zero g = by_kind Polynomial f.shape.p g (λ ws. refl) (omega arith)

  pub odd_not_zero : f.shape.kind ≡ Odd → SomeNotZero (take f.shape.p f.words)
  odd_not_zero g = by_kind Odd f.shape.p g (λ ws. refl) (omega arith)

  pub even_not_zero : f.shape.kind ≡ Even → SomeNotZero (take f.shape.p f.words)
  even_not_zero g = by_kind Even f.shape.p g (λ ws. refl) (omega arith)

  -- the numerator's words stand first, and so do b0 and a1
  pub numerator_not_zero : f.shape.kind ≡ Rational → SomeNotZero (take f.shape.p f.words)
  numerator_not_zero g = by_kind Rational f.shape.p g (λ ws. refl) (omega arith)

  pub b0_or_a1_not_zero : f.shape.kind ≡ Fraction → SomeNotZero (take 2 f.words)
  b0_or_a1_not_zero g =
      let c = subst (λ (k : Kind). Counted k f.shape.p f.shape.q f.shape.mode) g (given_fits s bytes n e).0.sound.counts in
      by_kind Fraction 2 g (λ ws. refl) (omega (arith, c.0))
