-- `fraction_admission::admit_inner` meets its contract: one term, of the words that are read, leads from a depth to the one below it.
use Rattle.whole.proofs.Basics.{◌≡◌, ◌∙◌, sym, List, [], ℕ, ◌+◌, ◌-◌, ◌*◌, ◌/◌, ◌≤◌, ◌<◌, arith, length, get_or, ℤ, w32}
use Rattle.whole.proofs.Held.{back, held, given}
use lib.Signed.{mag}
use Rattle.word.specs.Words.{Word}
use Rattle.stored.specs.Words.{value, values}
use Rattle.admission.specs.Admission.{Judged, Admission, granted, range_left, divisor_zero}
use Rattle.admission.proofs.AdmissionLaws.{left_not, zero_not}
use Rattle.fraction.specs.Fraction.{b_at, a_after, at}
use Rattle.fraction.specs.Admission.{admit_from}
use Rattle.fraction.proofs.WalkLaws.{b_is, a_is}
use Rattle.fraction_admission.specs.Terms.{judged_term}
use Rattle.fraction_admission.proofs.AdmissionSteps.{after_term, walk_done, walk_zero, walk_step, judged_least, WordsFrom, two_more}
use Rattle.fraction_admission.proofs.admit_inner.Goals as goal
use Rattle.std.specs.Prelude.{None, Option, Some}

-- what is known at depth j, by the answer `whole` and the least size l of what stands there
record Turn (words : List (List ℕ)) (s first rest : ℕ) (whole : Admission) (j l : ℕ) : Type 0 where
  inside : j ≤ length words / 2
  same : whole ≡ admit_from s first rest (values words) j l
  behind : WordsFrom (values words) (j + j)

turn :
    (words : List (List ℕ)) {s first rest : ℕ} {whole : Admission} {j l : ℕ}
    → j ≤ length words / 2
    → whole ≡ admit_from s first rest (values words) j l
    → WordsFrom (values words) (j + j)
    → Turn words s first rest whole j l
turn words h e n = record { inside = h; same = e; behind = n }

module _ {words : List (List ℕ)} {s first rest : ℕ} {whole : Admission} {j l : ℕ} (k : Turn words s first rest whole j l) where
  abbrev ws : List ℤ
  ws = values words

  abbrev i : ℕ
  i = j - 1

  -- at depth 0 all numbers are words, and nothing is divided by what stands there
  done : j ≤ 0 → Judged ws whole granted
  done h = record { words = λ q n. k.behind n (omega arith); same = λ q. walk_done s first rest ws j l (omega arith) ∙ sym k.same }

  module _ (h : 0 < j) where
    zero : l ≡ 0 → Judged ws whole divisor_zero
    zero e = record { words = λ q. absurd (zero_not q); same = λ q. walk_zero s first rest ws j l i (omega arith) e ∙ sym k.same }

    -- the term as it is read
    a_read : {z : ℤ} → mag z < 2147483648 → z ≡ value (get_or words (2 * i + 1) []) → back w32 z ≡ a_after ws i
    a_read m e = held (given {w = w32} m) ∙ e ∙ a_is words i (omega (arith, k.inside))

    b_read : {z : ℤ} → mag z < 2147483648 → z ≡ value (get_or words (2 * i) []) → back w32 z ≡ b_at ws i
    b_read m e = held (given {w = w32} m) ∙ e ∙ b_is words i (omega (arith, k.inside))

    module _ (p : 0 < l) where
      step : Word (a_after ws i) → (r : Option ℕ) → r ≡ judged_term s (a_after ws i) (b_at ws i) (at first rest i) l → whole ≡ after_term s first rest ws i r
      step w r e = k.same ∙ walk_step s first rest ws j l i (omega arith) w p r e

      left : None ≡ judged_term s (a_after ws i) (b_at ws i) (at first rest i) l → Judged ws whole range_left
      left e = record { words = λ q. absurd (left_not q); same = λ h. sym (step (h (i + i + 1)) None e) }

      on : (least : ℕ) → Some least ≡ judged_term s (a_after ws i) (b_at ws i) (at first rest i) l → (whole ≡ admit_from s first rest ws i least) × WordsFrom ws (i + i)
      on least e =
          let both = judged_least s (a_after ws i) (b_at ws i) (at first rest i) l least (sym e) in
          (step both.0 (Some least) e, two_more ws i both.0 both.1 (λ n g. k.behind n (omega arith)))

-- ---- the goals
pub returns-then-l-eq0 : goal.returns-then-l-eq0
returns-then-l-eq0 c =
    let k = turn c.args.words.now c.loop-i.auto.i c.loop-i.invariant.same c.loop-i.invariant.words in
    zero k c.loop-i-test.true c.if-l-eq0.true

pub returns-in_default : goal.returns-in_default
returns-in_default c =
    let k = turn c.args.words.now c.loop-i.auto.i c.loop-i.invariant.same c.loop-i.invariant.words in
    let h = c.loop-i-test.true in
    let a = a_read k h c.value-a.type_inv c.value-a.ensures in
    let b = b_read k h c.value-b.type_inv c.value-b.ensures in
    left k h (omega (arith, c.if-l-eq0.false)) (rw (a, b, c.at.ensures) at c.in_default.ensures)

pub loop-i-preserved : goal.loop-i-preserved
loop-i-preserved c =
    let k = turn c.args.words.now c.loop-i.auto.i c.loop-i.invariant.same c.loop-i.invariant.words in
    let h = c.loop-i-test.true in
    let a = a_read k h c.value-a.type_inv c.value-a.ensures in
    let b = b_read k h c.value-b.type_inv c.value-b.ensures in
    let n = on k h (omega (arith, c.if-l-eq0.false)) c.in-Some.least (rw (a, b, c.at.ensures) at c.in-Some.ensures) in
    record { same = n.0; words = n.1 }

pub returns : goal.returns
returns c =
    let k = turn c.args.words.now c.loop-i.auto.i c.loop-i.invariant.same c.loop-i.invariant.words in
    done k c.loop-i-test.false
