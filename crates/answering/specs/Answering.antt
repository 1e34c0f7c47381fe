-- One formula at one argument: 10 outside its interval, else its answer. The binary places are s.
use Rattle.std.specs.Prelude.{◌≡◌, refl, Bool, true, false, cond, ◌&&◌, [], ◌∷◌, ℕ, ℤ, pos, negsuc, Err, Ok, Result}
use Rattle.std.specs.Int.Signed.{lt_z}
use Rattle.word.specs.Rounded.{rounded}
use Rattle.formula.specs.declared.Kind.TheVariants.{Polynomial, Root}
use Rattle.formula.specs.declared.Formula.{Formula}
use Rattle.formula.specs.Formula.{answer_by, steps_by, worked, worked_of}
use Rattle.formula.specs.Exact.{exact_by}
use Rattle.polynomial.specs.Polynomial.{horner}
use Rattle.polynomial.specs.Exact.{polynomial_exact}
use Rattle.layout.specs.Fields.{shape, padded, formula, words_in}
use Rattle.refusal.specs.Guard.{refusal, refused_number, refused_place}
use Rattle.formula.specs.declared.Worked.{Worked}
use Rattle.refusal.specs.declared.Refusal.{Refusal}

-- ---- what evaluation answers; the word and the steps of each case, 0 where there is none; and whether it is exact, which no refusal is
abbrev pub Evaluation : Type 0
Evaluation = Result Worked Refusal

abbrev pub evaluation_word : Evaluation → ℤ
evaluation_word (Ok w) = w.word
evaluation_word (Err r) = pos 0

abbrev pub evaluation_steps : Evaluation → ℕ
evaluation_steps (Ok w) = w.steps
evaluation_steps (Err r) = 0

abbrev pub evaluation_exact : Evaluation → Bool
evaluation_exact (Ok w) = w.exact
evaluation_exact (Err r) = false

-- 10 to 13 give place 0
abbrev pub refused : ℕ → Evaluation
refused number = Err (refusal 0 number)

abbrev pub answered : ℤ → ℕ → Bool → Evaluation
answered w n e = Ok (worked w n e)

-- an argument that was rounded itself makes a rounded answer
abbrev pub marked : Bool → Worked → Worked
marked exact w = worked w.word w.steps (exact && w.exact)

abbrev pub with_mark : Bool → Evaluation → Evaluation
with_mark exact (Ok w) = Ok (marked exact w)
with_mark exact (Err r) = Err r

-- ---- argument outside lo..hi, both ends inside (10), else the kind's own answer, its steps and its mark
unfoldable pub answer_at : ℕ → Formula → ℤ → Evaluation
answer_at s f x =
    cond (lt_z x f.lo) (refused 10)
    (cond (lt_z f.hi x) (refused 10)
    (Ok (worked_of s f.shape (words_in f) x)))

-- ---- worked examples: what an answer and a refusal tell
told :
    (refused_number (answered (pos 3) 5 true) ≡ 0)
    × (refused_place (answered (pos 3) 5 true) ≡ 0)
    × (evaluation_word (answered (pos 3) 5 true) ≡ pos 3)
    × (evaluation_steps (answered (pos 3) 5 true) ≡ 5)
    × (evaluation_exact (answered (pos 3) 5 true) ≡ true)
    × (evaluation_exact (answered (pos 3) 5 false) ≡ false)
    × (refused_number {A = Worked} (Err (refusal 8 7)) ≡ 7)
    × (refused_place {A = Worked} (Err (refusal 8 7)) ≡ 8)
    × (evaluation_word (Err (refusal 8 7)) ≡ pos 0)
    × (evaluation_steps (Err (refusal 8 7)) ≡ 0)
    × (evaluation_exact (Err (refusal 8 7)) ≡ false)
told = (refl, refl, refl, refl, refl, refl, refl, refl, refl, refl, refl)

-- both have to be exact, the argument and the answer
joined :
    (with_mark true (answered (pos 3) 5 true) ≡ answered (pos 3) 5 true)
    × (with_mark true (answered (pos 3) 5 false) ≡ answered (pos 3) 5 false)
    × (with_mark false (answered (pos 3) 5 true) ≡ answered (pos 3) 5 false)
    × (with_mark false (answered (pos 3) 5 false) ≡ answered (pos 3) 5 false)
    × (with_mark false (refused 10) ≡ refused 10)
joined = (refl, refl, refl, refl, refl)

-- a root up to two, with the steps to it and its mark, at 24 places and at 16
abbrev square_root : Formula
square_root = formula 1 (shape Root 0 0 0) (pos 0) (pos 33554432) (padded [])

root_with_steps :
    (answer_at 24 square_root (pos 33554432) ≡ answered (answer_by Root 24 0 0 0 [] (pos 33554432)) (steps_by Root 24 (pos 33554432)) (exact_by Root 24 0 0 0 [] (pos 33554432)))
    × (answer_at 16 square_root (pos 1) ≡ answered (answer_by Root 16 0 0 0 [] (pos 1)) (steps_by Root 16 (pos 1)) (exact_by Root 16 0 0 0 [] (pos 1)))
unfolding answer_at padded
root_with_steps = (refl, refl)

-- the constant 3, over -1 step to 1 step: both ends, and one step outside each
abbrev pub constant : Formula
constant = formula 1 (shape Polynomial 1 0 0) (negsuc 0) (pos 1) (padded (pos 50331648 ∷ []))

constant_ends :
    (answer_at 24 constant (negsuc 1) ≡ refused 10)
    × (answer_at 24 constant (negsuc 0) ≡ answered (pos 50331648) 0 true)
    × (answer_at 24 constant (pos 1) ≡ answered (pos 50331648) 0 true)
    × (answer_at 24 constant (pos 2) ≡ refused 10)
unfolding answer_at horner polynomial_exact rounded padded
constant_ends = (refl, refl, refl, refl)

-- half of x, over the same: half a step is rounded; at 16 places the same word is 128
abbrev half : Formula
half = formula 1 (shape Polynomial 2 0 0) (negsuc 0) (pos 1) (padded (pos 0 ∷ pos 8388608 ∷ []))

rounded_half : (answer_at 24 half (pos 1) ≡ answered (pos 1) 0 false) × (answer_at 24 half (pos 0) ≡ answered (pos 0) 0 true) × (answer_at 16 half (pos 1) ≡ answered (pos 128) 0 true)
unfolding answer_at horner polynomial_exact rounded padded
rounded_half = (refl, refl, refl)
