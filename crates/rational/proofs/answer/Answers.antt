-- `rational::answer` meets its contract: both polynomials are ready, the quotient is a word, and the three marks are joined.
use Rattle.whole.proofs.Basics.{◌≡◌, ◌∙◌, sym, ap, ap₂, subst, List, ℕ, arith, ℤ, w32, w64, SFits}
use mathlib.Core.Bool.{◌&&◌}
use lib.Bits.{bit_or}
use Rattle.whole.proofs.Fit.{fit_abs}
use Rattle.whole.proofs.Held.{back, Held, fits_code, held, arg, known, cast}
use Rattle.word.specs.Words.{Scale, Word, NotZero, quotient_of}
use Rattle.word.specs.Exact.{exact_quotient, whole_at}
use Rattle.word.proofs.LooseLaws.{or_whole}
use Rattle.stored.specs.Words.{values}
use Rattle.polynomial.specs.Polynomial.{horner, PolynomialReady}
use Rattle.polynomial.specs.Exact.{polynomial_exact}
use Rattle.polynomial.proofs.WalkLaws.{running_word}
use Rattle.rational.specs.Rational.{rational_of, RationalReady}
use Rattle.rational.specs.Exact.{rational_exact}
use Rattle.rational.proofs.StaysInRange.{RationalStays, rational_stays}
use Rattle.rational.proofs.answer.Goals as goal

-- ---- over plain numbers; x is read where a local holds it
record Ready (s : ℕ) (num den : List ℤ) (x : ℤ) : Type 0 where
  ready : RationalReady s num den x

module _ {s : ℕ} {num den : List ℤ} {x : ℤ} (r : Ready s num den x) where
  abbrev ready : RationalReady s num den x
  ready = r.ready

  stays : RationalStays s num den x
  stays = let a = ready.4 in rational_stays s a.most num den x ready.3 a.within a.admitted

  -- both polynomials are ready, and their answers words
  top_ready : PolynomialReady s num x
  top_ready = (ready.0, ready.1, ready.2, stays.top_range)

  bottom_ready : PolynomialReady s den x
  bottom_ready = (ready.0, ready.1, ready.3, stays.bottom_range)

  top_held : {n : ℤ} → n ≡ horner s num x → Held w32 n (horner s num x)
  top_held e = known e (fit_abs (omega (arith, running_word s num x stays.top_range 0)))

  bottom_held : {d : ℤ} → d ≡ horner s den x → Held w32 d (horner s den x)
  bottom_held e = known e (fit_abs (omega (arith, running_word s den x stays.bottom_range 0)))

  quotient_ready : {n d : ℤ} → n ≡ horner s num x → d ≡ horner s den x → Scale s × Word (back w32 n) × Word (back w32 d) × NotZero (back w32 d)
  quotient_ready e f =
      rw (held (top_held e), held (bottom_held f)) (ready.0, running_word s num x stays.top_range 0, running_word s den x stays.bottom_range 0, stays.apart)

  word_held : {n d q : ℤ} → n ≡ horner s num x → d ≡ horner s den x → q ≡ quotient_of s (back w32 n) (back w32 d) → Held w32 (back w64 q) (rational_of s num den x)
  word_held e f g =
      cast {w = w64} (known (g ∙ ap₂ (quotient_of s) (held (top_held e)) (held (bottom_held f))) (fit_abs (omega (arith, stays.answer)))) (fit_abs (omega (arith, stays.answer)))

  mark : {n d : ℤ} (a b c : ℕ) → n ≡ horner s num x → d ≡ horner s den x → whole_at s a ≡ polynomial_exact s num x → whole_at s b ≡ polynomial_exact s den x → whole_at s c ≡ exact_quotient s (back w32 n) (back w32 d) → whole_at s (bit_or (bit_or a b) c) ≡ rational_exact s num den x
  mark a b c e f i j k =
      or_whole s (bit_or a b) c
      ∙ ap₂ ◌&&◌ (or_whole s a b ∙ ap₂ ◌&&◌ i j) (k ∙ ap₂ (exact_quotient s) (held (top_held e)) (held (bottom_held f)))

read_back : {s : ℕ} {num den : List ℤ} {x : ℤ} → SFits w32 x → RationalReady s num den x → Ready s num den (back w32 x)
read_back {s} {num} {den} {x} f q = record { ready = subst (RationalReady s num den) (sym (held (arg f))) q }

-- ---- the goals
pub answer-n-requires : goal.answer-n-requires
answer-n-requires c = top_ready (read_back c.ranges.x c.requires)

pub answer-d-requires : goal.answer-d-requires
answer-d-requires c = bottom_ready (read_back c.ranges.x c.requires)

pub quotient-r-requires : goal.quotient-r-requires
quotient-r-requires c = quotient_ready (read_back c.ranges.x c.requires) c.answer-n.ensures.word c.answer-d.ensures.word

pub overflow_cast-word : goal.overflow_cast-word
overflow_cast-word c = fits_code (word_held (read_back c.ranges.x c.requires) c.answer-n.ensures.word c.answer-d.ensures.word c.quotient-r.ensures.value)

pub returns-clause-word : goal.returns-clause-word
returns-clause-word c =
    held (word_held (read_back c.ranges.x c.requires) c.answer-n.ensures.word c.answer-d.ensures.word c.quotient-r.ensures.value)
    ∙ ap (rational_of c.args.s (values c.args.numerator.now) (values c.args.divisor.now)) (held (arg c.ranges.x))

pub returns-clause-mark : goal.returns-clause-mark
returns-clause-mark c =
    mark (read_back c.ranges.x c.requires) c.answer-n.result.loose c.answer-d.result.loose c.quotient-r.result.loose c.answer-n.ensures.word c.answer-d.ensures.word c.answer-n.ensures.mark c.answer-d.ensures.mark c.quotient-r.ensures.mark
    ∙ ap (rational_exact c.args.s (values c.args.numerator.now) (values c.args.divisor.now)) (held (arg c.ranges.x))
