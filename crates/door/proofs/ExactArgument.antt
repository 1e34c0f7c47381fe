-- Promise: a word that is taken from a double is marked exact where, and only where, it is the double's own exact value times 2^s. Where it is
-- marked rounded, that value is no whole number.
use Rattle.whole.proofs.Basics.{◌≡◌, ◌∙◌, refl, sym, ap, ap₂, Bool, true, false, cond, ℕ, leb, ℤ, pos, nat_abs, ◌*ℤ◌, eqb-false}
use mathlib.Core.Bool.{true≢false}
use lib.Ieee.{Float, nan, inf, fin, down}
use lib.Ieee.Fits.{down_pos}
use Rattle.word.specs.Rounded.{rounded}
use Rattle.word.specs.Words.{Word, largest}
use Rattle.word.proofs.RoundedLaws.{rounded_exact}
use Rattle.word.proofs.ExactLaws.{rounded_divides, multiple_divides}
use Rattle.refusal.specs.declared.Fault.TheVariants.{Outside}
use Rattle.std.specs.Prelude.{Err}
use Rattle.door.specs.Taken.{took, numerator, argument_of, argument_exact, as_word, taken_of, taken_number, taken_word, taken_exact, ValueIs}
use Rattle.door.proofs.TakenLaws.{taken_nan, taken_inf, taken_fin, as_word_yes}

-- a word that is taken is the argument, with the argument's mark
word_and_mark :
    (s : ℕ) (t : Bool) (m : ℕ) (e : ℤ) (w : ℤ) (exact : Bool)
    → taken_of s (fin t m e) ≡ took w exact
    → (argument_of s t m e ≡ w) × (argument_exact s t m e ≡ exact)
word_and_mark s t m e w exact h = by (argument_of s t m e) (argument_exact s t m e) (leb (nat_abs (argument_of s t m e)) largest) (sym (taken_fin s t m e) ∙ h)
  where
    by : (z : ℤ) (mark b : Bool) → cond b (took z mark) (Err Outside) ≡ took w exact → (z ≡ w) × (mark ≡ exact)
    by z mark true k = (ap taken_word k, ap taken_exact k)
    by z mark false k = absurd (eqb-false 10 0 refl (ap taken_number k))

value_divides : (s : ℕ) (t : Bool) (m : ℕ) (e : ℤ) (z : ℤ) → ValueIs s (fin t m e) z → argument_exact s t m e ≡ true
value_divides s t m e z h = multiple_divides (down e) (numerator s t m e) z (sym h)

pub taken_exact_lem : (s : ℕ) (x : Float) (w : ℤ) → taken_of s x ≡ took w true → ValueIs s x w
taken_exact_lem s nan w h = absurd (true≢false (sym (ap taken_exact (sym (taken_nan s) ∙ h))))
taken_exact_lem s (inf t) w h = absurd (true≢false (sym (ap taken_exact (sym (taken_inf s t) ∙ h))))
taken_exact_lem s (fin t m e) w h =
    let k = word_and_mark s t m e w true h in
    ap (λ (z : ℤ). z *ℤ pos (down e)) (sym k.0) ∙ rounded_divides (numerator s t m e) (down e) (down_pos e) k.1

pub exact_taken : (s : ℕ) (x : Float) (w : ℤ) → ValueIs s x w → Word w → taken_of s x ≡ took w true
exact_taken s nan w h small = elim h [ ]
exact_taken s (inf _) w h small = elim h [ ]
exact_taken s (fin t m e) w h small =
    taken_fin s t m e
    ∙ ap₂ as_word (ap (λ (z : ℤ). rounded z (down e)) (sym h) ∙ rounded_exact w (down e) (down_pos e)) (value_divides s t m e w h)
    ∙ as_word_yes w true small

pub taken_rounded : (s : ℕ) (x : Float) (w : ℤ) → taken_of s x ≡ took w false → (z : ℤ) → ValueIs s x z → ⊥
taken_rounded s nan w h z v = elim v [ ]
taken_rounded s (inf _) w h z v = elim v [ ]
taken_rounded s (fin t m e) w h z v = true≢false (sym (value_divides s t m e z v) ∙ (word_and_mark s t m e w false h).1)
