-- Promise: a negated double is taken as the negated word, with the same mark, and is refused as the double is: its exact value is negated,
-- rounding is odd, and what is rounded off has a size alone.
use Rattle.whole.proofs.Basics.{◌≡◌, ◌∙◌, refl, ap, ap₂, Bool, true, false, cond, ℕ, leb, ℤ, neg_ℤ, nat_abs}
use lib.Ieee.{Float, nan, inf, fin, down, neg}
use Rattle.whole.proofs.Order.{abs_neg}
use Rattle.word.specs.Words.{largest}
use Rattle.word.proofs.RoundedLaws.{rounded_odd}
use Rattle.word.proofs.ExactLaws.{divides_size}
use Rattle.word.proofs.SignLaws.{sign_not}
use Rattle.door.specs.Taken.{numerator, argument_of, argument_exact, as_word, taken_of, negated_taken, took}
use Rattle.door.proofs.TakenLaws.{from_ratio}
use Rattle.refusal.specs.declared.Fault.TheVariants.{Outside}
use Rattle.std.specs.Prelude.{Err}

word_negated : (z : ℤ) (exact : Bool) → as_word (neg_ℤ z) exact ≡ negated_taken (as_word z exact)
word_negated z exact = ap (λ (k : ℕ). cond (leb k largest) (took (neg_ℤ z) exact) (Err Outside)) (abs_neg z) ∙ by (leb (nat_abs z) largest)
  where
    by : (b : Bool) → cond b (took (neg_ℤ z) exact) (Err Outside) ≡ negated_taken (cond b (took z exact) (Err Outside))
    by true = refl
    by false = refl

pub taken_negated : (s : ℕ) (x : Float) → taken_of s (neg x) ≡ negated_taken (taken_of s x)
unfolding taken_of neg
taken_negated s nan = refl
taken_negated s (inf t) = refl
taken_negated s (fin t m e) =
    let z = numerator s t m e in
    ap (λ (y : ℤ). from_ratio y (down e)) (sign_not t (numerator s false m e))
    ∙ ap₂ as_word (rounded_odd z (down e)) (divides_size (down e) (neg_ℤ z) z (abs_neg z))
    ∙ word_negated (argument_of s t m e) (argument_exact s t m e)
