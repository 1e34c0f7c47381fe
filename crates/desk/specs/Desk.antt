-- A double as the argument, and doubles out: the reader's refusals, then 13, 10. The binary places are s.
use Rattle.std.specs.Prelude.{◌≡◌, refl, Bool, true, false, List, ◌∷◌, ℕ, pos, negsuc, Float, Err, Ok, Result}
use Rattle.std.specs.Float.{nan, fin, binary64}
use Rattle.std.specs.Float.Ieee.{of_bits}
use Rattle.word.specs.Rounded.{rounded}
use Rattle.formula.specs.declared.Formula.{Formula}
use Rattle.door.specs.Taken.{taken_of, taken_number, taken_place, Taken}
use Rattle.door.specs.Exact.{Exactly}
use Rattle.refusal.specs.Guard.{refusal, refused_number, refused_place}
use Rattle.sheet.specs.Reader.{formula_read, Reading, formula_given}
use Rattle.answering.specs.Answering.{refused, with_mark, answer_at, constant, Evaluation}
use Rattle.board.specs.Board.{evaluation_refusals, when_given}
use Rattle.refusal.specs.declared.Fault.TheVariants.{Outside, NotFinite}
use Rattle.refusal.specs.declared.Refusal.{Refusal}
use Rattle.desk.specs.declared.answers.Shown.{Shown}
use Rattle.door.specs.declared.answer.Ends.{Ends}
use Rattle.formula.specs.declared.Worked.{Worked}

-- the double whose bits are all 0
abbrev plus_zero : Float
plus_zero = of_bits binary64 0

-- ---- what the desk answers: a double, or an interval; or a refusal. The values of each case, 0 where there is none; and whether it is exact,
-- which no refusal is
abbrev pub Showing : Type 0
Showing = Result Shown Refusal

abbrev pub showing : Float → ℕ → Bool → Showing
showing x k e = Ok (record { value = x; steps = k; exact = e })

abbrev pub Interval : Type 0
Interval = Result Ends Refusal

abbrev pub shown_value : Showing → Float
shown_value (Ok a) = a.value
shown_value (Err r) = plus_zero

abbrev pub shown_steps : Showing → ℕ
shown_steps (Ok a) = a.steps
shown_steps (Err r) = 0

abbrev pub shown_exact : Showing → Bool
shown_exact (Ok a) = a.exact
shown_exact (Err r) = false

abbrev pub interval_low : Interval → Float
interval_low (Ok e) = e.low
interval_low (Err r) = plus_zero

abbrev pub interval_high : Interval → Float
interval_high (Ok e) = e.high
interval_high (Err r) = plus_zero

-- ---- the refusals that the door can give: evaluation's and 13. The interval has the reader's
abbrev pub door_refusals : List ℕ
door_refusals = 13 ∷ evaluation_refusals

-- ---- the door for doubles. Infinite or not a number (13); the rounded value is no word, or outside the interval (10). The door's own rounding counts
abbrev not_taken : Taken → Evaluation
not_taken t = Err (refusal (taken_place t) (taken_number t))

abbrev pub taken_by : ℕ → Formula → Taken → Evaluation
taken_by s f (Ok a) = with_mark a.exact (answer_at s f a.word)
taken_by s f (Err fault) = not_taken (Err fault)

abbrev pub taken_at : ℕ → Formula → Float → Evaluation
taken_at s f x = taken_by s f (taken_of s x)

abbrev pub evaluated_double : ℕ → List ℕ → ℕ → Float → Evaluation
evaluated_double s bytes n x = when_given (formula_read s bytes n) (taken_at s (formula_given (formula_read s bytes n)) x)

-- an answer as the door gives it: the double that is exactly the answer word divided by 2^s, with the same steps and mark, or the same refusal
abbrev pub ShownOf : ℕ → Worked → Shown → Type 0
ShownOf s w a = Exactly s w.word a.value × (a.steps ≡ w.steps) × (a.exact ≡ w.exact)

abbrev pub ShownAs : ℕ → Evaluation → Showing → Type 0
ShownAs s (Ok w) (Ok a) = ShownOf s w a
ShownAs s (Ok w) (Err r) = ⊥
ShownAs s (Err q) (Ok a) = ⊥
ShownAs s (Err q) (Err r) = r ≡ q

-- ---- a formula's interval as two doubles, both exact; its refusals are the reader's
abbrev pub EndsOf : ℕ → Formula → Ends → Type 0
EndsOf s f e = Exactly s f.lo e.low × Exactly s f.hi e.high

abbrev pub IntervalAs : ℕ → Reading → Interval → Type 0
IntervalAs s (Ok f) (Ok e) = EndsOf s f e
IntervalAs s (Ok f) (Err r) = ⊥
IntervalAs s (Err q) (Ok e) = ⊥
IntervalAs s (Err q) (Err r) = r ≡ q

-- ---- worked examples: what an answer and a refusal tell
told :
    (refused_number (showing plus_zero 5 true) ≡ 0)
    × (refused_place (showing plus_zero 5 true) ≡ 0)
    × (shown_value (showing plus_zero 5 true) ≡ plus_zero)
    × (shown_steps (showing plus_zero 5 true) ≡ 5)
    × (shown_exact (showing plus_zero 5 true) ≡ true)
    × (shown_exact (showing plus_zero 5 false) ≡ false)
    × (refused_number {A = Shown} (Err (refusal 8 7)) ≡ 7)
    × (refused_place {A = Shown} (Err (refusal 8 7)) ≡ 8)
    × (shown_value (Err (refusal 8 7)) ≡ plus_zero)
    × (shown_steps (Err (refusal 8 7)) ≡ 0)
    × (shown_exact (Err (refusal 8 7)) ≡ false)
told = (refl, refl, refl, refl, refl, refl, refl, refl, refl, refl, refl)

-- 10 and 13 of the door
door_refusals_lem :
    (taken_by 24 constant (Err Outside) ≡ refused 10)
    × (taken_by 24 constant (Err NotFinite) ≡ refused 13)
    × (taken_at 24 constant nan ≡ refused 13)
    × (taken_at 24 constant (fin false 1 (pos 0)) ≡ refused 10)
unfolding taken_of rounded answer_at
door_refusals_lem = (refl, refl, refl, refl)

-- a double of one step is exact, half a step is rounded by the door, and minus zero is exact
door_marks :
    (taken_at 24 constant (fin false 1 (negsuc 23)) ≡ with_mark true (answer_at 24 constant (pos 1)))
    × (taken_at 24 constant (fin false 1 (negsuc 24)) ≡ with_mark false (answer_at 24 constant (pos 1)))
    × (taken_at 24 constant (fin true 0 (pos 0)) ≡ with_mark true (answer_at 24 constant (pos 0)))
unfolding taken_of rounded
door_marks = (refl, refl, refl)
