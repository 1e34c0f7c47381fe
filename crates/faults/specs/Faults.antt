-- Refusals 1, 2, 4, 5, 6 and 14 by the parts of a record, as the paper's numbers; 0 where there is none. The binary places are s.
use Rattle.std.specs.Prelude.{ℕ, ◌-◌, ◌≡◌, refl, List, [], ◌∷◌, cond, ltb, eqb, length, replicate, ℤ, pos, negsuc, nat_abs, Result, Ok, Err, ⊤}
use Rattle.std.specs.Int.Signed.{lt_z}
use Rattle.word.specs.Words.{largest}
use Rattle.stored.specs.Numbers.{number2, number4}
use Rattle.formula.specs.declared.Kind.{Kind}
use Rattle.formula.specs.declared.Kind.TheVariants.{Polynomial, Rational, Fraction, Root, Odd, Even, NoFormula}
use Rattle.formula.specs.declared.Shape.{Shape}
use Rattle.formula.specs.Blank.{all_zero, blank_of}
use Rattle.table.specs.declared.Field.{Field}
use Rattle.table.specs.declared.Row.{Row}
use Rattle.table.specs.Table.{rows, first_row, row_of, pieces_by, length_by}
use Rattle.layout.specs.Fields.{first_count, field_of, shape_of, shape}
use Rattle.refusal.specs.Guard.{or_else}

-- ---- the frame: fewer than 4 bytes left (1); length outside 8..120 (2); fewer bytes than the length (1)
unfoldable pub frame_fault : List ℕ → ℕ → ℕ
frame_fault s at =
    cond (ltb (length s - at) 4) 1
    (cond (ltb (number4 s at) 8) 2
    (cond (ltb 120 (number4 s at)) 2
    (cond (ltb (length s - at) (number4 s at)) 1 0)))

-- ---- exact length. The fault k of a count or mode outside its range
unfoldable pub outside : Field → ℕ → ℕ → ℕ
outside f n k = cond (ltb n f.least) k (cond (ltb f.most n) k 0)

-- the same as a check answers it, of a fault of any type
abbrev pub outside_by : {A : Type 0} → Field → ℕ → A → Result ⊤ A
outside_by f n k = cond (ltb n f.least) (Err k) (cond (ltb f.most n) (Err k) (Ok tt))

-- a count of coefficients or depth outside its range (2)
unfoldable pub count_fault : Row → ℕ → ℕ → ℕ
count_fault r p q = or_else (outside r.p p 2) (outside r.q q 2)

-- not the length of its kind and counts (2)
unfoldable pub size_fault : Row → Shape → ℕ → ℕ
size_fault r h n = or_else (count_fault r h.p h.q) (cond (eqb (length_by r h.p h.q) n) 0 2)

-- too short for its fields, or one of these (2)
unfoldable pub length_fault : Row → List ℕ → ℕ
length_fault r b = cond (ltb (length b) r.head) 2 (size_fault r (shape_of r b) (length b))

-- ---- 4 and 5. Start count not 1 to 64 (4), by the row of the start
unfoldable pub start_fault : Row → ℕ → ℕ
start_fault r c = outside r.count c 4

-- with `seen` formulas of `count` before it, and numbers from `next` on: a formula too many (4); number not above the one before (5)
unfoldable pub order_fault : ℕ → ℕ → ℕ → ℕ → ℕ
order_fault seen count next n = cond (eqb seen count) 4 (cond (ltb n next) 5 0)

-- an end after too few or with another count (4)
unfoldable pub end_fault : ℕ → ℕ → ℕ → ℕ
end_fault seen count c = cond (eqb seen count) (cond (eqb c count) 0 4) 4

-- ---- 6. A stored value is no word
abbrev pub word_fault : ℤ → ℕ
word_fault z = cond (ltb largest (nat_abs z)) 6 0

unfoldable pub words_fault : List ℤ → ℕ
words_fault [] = 0
words_fault (z ∷ zs) = or_else (word_fault z) (words_fault zs)

-- an end that is no word, or lo above hi
unfoldable pub interval_fault : ℤ → ℤ → ℕ
interval_fault lo hi = or_else (word_fault lo) (or_else (word_fault hi) (cond (lt_z hi lo) 6 0))

-- what a kind asks of its interval besides: a root with lo below 0
abbrev pub kind_fault : Kind → ℤ → ℕ
kind_fault Polynomial lo = 0
kind_fault Rational lo = 0
kind_fault Fraction lo = 0
kind_fault Root lo = cond (lt_z lo (pos 0)) 6 0
kind_fault Odd lo = 0
kind_fault Even lo = 0
kind_fault NoFormula lo = 0

-- 6 of all but the words: the interval, mode above 2, the kind's own
unfoldable pub own_fault : Row → Shape → ℤ → ℤ → ℕ
own_fault r h lo hi =
    or_else (interval_fault lo hi)
    (or_else (outside r.mode h.mode 6)
    (kind_fault r.kind lo))

-- binary places outside 16..28
unfoldable pub scale_fault : ℕ → ℕ
scale_fault s = cond (ltb s 16) 6 (cond (ltb 28 s) 6 0)

-- ---- 14. A blank formula
abbrev pub blank_fault : Shape → List ℤ → ℕ
blank_fault h ws = cond (blank_of h ws) 14 0

-- ---- worked examples. The frame: a length of 7, 8, 120 and 121, each with as many bytes; 8 with one byte less; three bytes; 7 comes before too few bytes
abbrev says : ℕ → ℕ → List ℕ
says n more = n ∷ 0 ∷ 0 ∷ 0 ∷ replicate more 0

frame_lengths : (frame_fault (says 7 3) 0 ≡ 2) × (frame_fault (says 8 4) 0 ≡ 0) × (frame_fault (says 120 116) 0 ≡ 0) × (frame_fault (says 121 117) 0 ≡ 2)
unfolding frame_fault number4
frame_lengths = (refl, refl, refl, refl)

breaks_off : (frame_fault (replicate 3 0) 0 ≡ 1) × (frame_fault (says 8 3) 0 ≡ 1) × (frame_fault (says 7 0) 0 ≡ 2) × (frame_fault (says 121 0) 0 ≡ 2)
unfolding frame_fault number4
breaks_off = (refl, refl, refl, refl)

-- a root of 16 bytes and of 20
root-length : (length_fault (row_of 0x0013) (replicate 16 0) ≡ 0) × (length_fault (row_of 0x0013) (replicate 20 0) ≡ 2)
unfolding rows first_row row_of number2 first_count field_of shape_of pieces_by outside count_fault size_fault length_fault
root-length = (refl, refl)

-- a count or a depth outside its range gives 2: a polynomial's 1 to 16, a rational's 1 to 12 each, a fraction's 1 to 12
polynomial_counts :
    (count_fault (row_of 0x0010) 0 0 ≡ 2)
    × (count_fault (row_of 0x0010) 1 0 ≡ 0)
    × (count_fault (row_of 0x0010) 16 0 ≡ 0)
    × (count_fault (row_of 0x0010) 17 0 ≡ 2)
unfolding rows first_row row_of outside count_fault
polynomial_counts = (refl, refl, refl, refl)

numerator_counts : (count_fault (row_of 0x0011) 0 1 ≡ 2) × (count_fault (row_of 0x0011) 1 1 ≡ 0) × (count_fault (row_of 0x0011) 12 1 ≡ 0) × (count_fault (row_of 0x0011) 13 1 ≡ 2)
unfolding rows first_row row_of outside count_fault
numerator_counts = (refl, refl, refl, refl)

divisor_counts : (count_fault (row_of 0x0011) 1 0 ≡ 2) × (count_fault (row_of 0x0011) 1 12 ≡ 0) × (count_fault (row_of 0x0011) 1 13 ≡ 2)
unfolding rows first_row row_of outside count_fault
divisor_counts = (refl, refl, refl)

depths : (count_fault (row_of 0x0012) 0 0 ≡ 2) × (count_fault (row_of 0x0012) 1 0 ≡ 0) × (count_fault (row_of 0x0012) 12 0 ≡ 0) × (count_fault (row_of 0x0012) 13 0 ≡ 2)
unfolding rows first_row row_of outside count_fault
depths = (refl, refl, refl, refl)

-- a start's count, 1 to 64
none_or_too_many : (start_fault (row_of 0x0001) 0 ≡ 4) × (start_fault (row_of 0x0001) 1 ≡ 0) × (start_fault (row_of 0x0001) 64 ≡ 0) × (start_fault (row_of 0x0001) 65 ≡ 4)
unfolding rows first_row row_of outside start_fault
none_or_too_many = (refl, refl, refl, refl)

-- a formula too many, which comes before a number that is too low; behind number 4, so from 5 on, the 4 again and the 5
too_many_first : (order_fault 1 1 5 4 ≡ 4) × (order_fault 0 1 5 4 ≡ 5) × (order_fault 0 1 5 5 ≡ 0)
unfolding order_fault
too_many_first = (refl, refl, refl)

-- an end too early, in its place, and with a higher and a lower count
ends : (end_fault 0 1 1 ≡ 4) × (end_fault 1 1 1 ≡ 0) × (end_fault 1 1 2 ≡ 4) × (end_fault 2 2 1 ≡ 4)
unfolding end_fault
ends = (refl, refl, refl, refl)

-- the largest word, the least, and the one pattern that is no word, alone and behind a word
no_word : (word_fault (pos 2147483647) ≡ 0) × (word_fault (negsuc 2147483646) ≡ 0) × (word_fault (negsuc 2147483647) ≡ 6) × (words_fault (pos 0 ∷ negsuc 2147483647 ∷ []) ≡ 6)
unfolding words_fault
no_word = (refl, refl, refl, refl)

lo_above_hi : (interval_fault (pos 1) (pos 0) ≡ 6) × (interval_fault (pos 1) (pos 1) ≡ 0) × (interval_fault (negsuc 2147483647) (pos 0) ≡ 6)
unfolding interval_fault
lo_above_hi = (refl, refl, refl)

-- a root alone is not below 0; a mode of 2, and of 3, which gives 6
root_from_zero : (kind_fault Root (negsuc 0) ≡ 6) × (kind_fault Root (pos 0) ≡ 0)
root_from_zero = (refl, refl)

others_below_zero :
    (kind_fault Polynomial (negsuc 0) ≡ 0)
    × (kind_fault Rational (negsuc 0) ≡ 0)
    × (kind_fault Fraction (negsuc 0) ≡ 0)
    × (kind_fault Odd (negsuc 0) ≡ 0)
    × (kind_fault Even (negsuc 0) ≡ 0)
others_below_zero = (refl, refl, refl, refl, refl)

modes : (own_fault (row_of 0x0012) (shape Fraction 1 0 2) (pos 0) (pos 0) ≡ 0) × (own_fault (row_of 0x0012) (shape Fraction 1 0 3) (pos 0) (pos 0) ≡ 6)
unfolding rows first_row row_of outside interval_fault own_fault
modes = (refl, refl)

-- 0 + 0·x is blank, and 0 + x is not
blanks : (blank_fault (shape Polynomial 2 0 0) (pos 0 ∷ pos 0 ∷ []) ≡ 14) × (blank_fault (shape Polynomial 2 0 0) (pos 0 ∷ pos 1 ∷ []) ≡ 0)
unfolding all_zero
blanks = (refl, refl)

-- 16 to 28 places
places : (scale_fault 15 ≡ 6) × (scale_fault 16 ≡ 0) × (scale_fault 28 ≡ 0) × (scale_fault 29 ≡ 6)
unfolding scale_fault
places = (refl, refl, refl, refl)
