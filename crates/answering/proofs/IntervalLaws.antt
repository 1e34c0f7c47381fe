-- When an argument is inside a formula's interval, and what is answered then; so what holds of 10 and of a formula's own answer holds of every answer.
use Rattle.whole.proofs.Basics.{◌≡◌, ◌∙◌, refl, sym, ap, Bool, true, false, cond, ℕ, T, ℤ, ◌≤ℤ◌, ◌<ℤ◌, lt_z}
use lib.Signed.{clash_ℤ, lt_z_no}
use Rattle.word.specs.Words.{Scale}
use Rattle.formula.specs.declared.Formula.{Formula}
use Rattle.formula.specs.Formula.{worked_of, Answerable}
use Rattle.layout.specs.Fields.{words_in}
use Rattle.sheet.specs.Reader.{Fit}
use Rattle.answering.specs.Answering.{refused, answer_at, Evaluation}
use Rattle.std.specs.Prelude.{Ok}

is_true : (b : Bool) → T b → b ≡ true
is_true true t = refl
is_true false t = absurd t

is_false : (b : Bool) → (T b → ⊥) → b ≡ false
is_false true f = absurd (f tt)
is_false false f = refl

below : {x y : ℤ} → x <ℤ y → lt_z x y ≡ true
below {x} {y} h = is_true (lt_z x y) h.lt

not_below : {x y : ℤ} → y ≤ℤ x → lt_z x y ≡ false
not_below {x} {y} h = is_false (lt_z x y) (λ t. clash_ℤ (record { lt = t }) h)

module _ (s : ℕ) (f : Formula) (x : ℤ) where
  abbrev within : Evaluation
  within = Ok (worked_of s f.shape (words_in f) x)

  pub below_low : x <ℤ f.lo → refused 10 ≡ answer_at s f x
  unfolding answer_at
  below_low h = sym (ap (λ (b : Bool). cond b (refused 10) (cond (lt_z f.hi x) (refused 10) within)) (below h))

  pub above_high : f.hi <ℤ x → refused 10 ≡ answer_at s f x
  unfolding answer_at
  above_high h = at (lt_z x f.lo)
    where
      at : (b : Bool) → refused 10 ≡ cond b (refused 10) (cond (lt_z f.hi x) (refused 10) within)
      at true = refl
      at false = sym (ap (λ (b : Bool). cond b (refused 10) within) (below h))

  module _ (l : f.lo ≤ℤ x) where
    past_low : answer_at s f x ≡ cond (lt_z f.hi x) (refused 10) within
    unfolding answer_at
    past_low = ap (λ (b : Bool). cond b (refused 10) (cond (lt_z f.hi x) (refused 10) within)) (not_below l)

    pub inside : x ≤ℤ f.hi → within ≡ answer_at s f x
    inside h = sym (past_low ∙ ap (λ (b : Bool). cond b (refused 10) within) (not_below h))

    pub answerable : x ≤ℤ f.hi → Scale s → Fit s f → Answerable s f.shape (words_in f) x
    answerable h b k = record { scale = b; lo = f.lo; hi = f.hi; sound = k.sound; admitted = k.admitted; above = l; below = h }

-- what holds outside the interval and inside holds of every argument
pub at_argument : (P : Evaluation → Type 0) (s : ℕ) (f : Formula) (x : ℤ) → Scale s → Fit s f → P (refused 10) → (Answerable s f.shape (words_in f) x → P (Ok (worked_of s f.shape (words_in f) x))) → P (answer_at s f x)
unfolding answer_at
at_argument P s f x scale fits outside own = at (lt_z x f.lo) (lt_z f.hi x) refl refl
  where
    at : (b c : Bool) → lt_z x f.lo ≡ b → lt_z f.hi x ≡ c → P (cond b (refused 10) (cond c (refused 10) (within s f x)))
    at true c p q = outside
    at false true p q = outside
    at false false p q = own (answerable s f x (lt_z_no (rw p tt)) (lt_z_no (rw q tt)) scale fits)
