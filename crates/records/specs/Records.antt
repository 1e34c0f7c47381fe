-- Refusals 2 to 8 and 14 of a whole formula record, in the paper's order; 0 where there is none. The binary places are s.
use Rattle.std.specs.Prelude.{ℕ, ◌≡◌, refl, List, [], ◌∷◌, ◌++◌, length, ℤ, pos, negsuc, Err, Ok}
use Rattle.word.specs.Rounded.{rounded_up}
use Rattle.stored.specs.Numbers.{number2, number4, bytes2, bytes4}
use Rattle.stored.specs.Words.{words}
use Rattle.polynomial.specs.Polynomial.{bound, bound_of}
use Rattle.admission.specs.Admission.{admission_number, Admission, range_left, divisor_zero}
use Rattle.formula.specs.declared.Shape.{Shape}
use Rattle.formula.specs.Formula.{Counted, word_count, admission_of}
use Rattle.formula.specs.Blank.{all_zero}
use Rattle.table.specs.declared.Class.{Class}
use Rattle.table.specs.declared.Class.TheVariants.{StartRecord, FormulaRecord, EndRecord, Unknown}
use Rattle.table.specs.declared.Row.{Row}
use Rattle.table.specs.Table.{rows, first_row, row_of, pieces_by}
use Rattle.layout.specs.Fields.{formula_number, lo_of, hi_of, first_count, field_of, shape_of, words_of}
use Rattle.refusal.specs.Guard.{or_else, number_of}
use Rattle.faults.specs.Faults.{outside, count_fault, size_fault, length_fault, order_fault, words_fault, interval_fault, own_fault, blank_fault}

-- ---- 7 or 8, as Admission meets them
abbrev pub admission_fault : ℕ → Shape → ℤ → ℤ → List ℤ → ℕ
admission_fault s h lo hi ws = admission_number (admission_of s h lo hi ws)

-- 6; 14; 7 or 8, of a formula's fields and of a record's own bytes
unfoldable pub value_fault : ℕ → Row → Shape → ℤ → ℤ → List ℤ → ℕ
value_fault s r h lo hi ws =
    or_else (own_fault r h lo hi)
    (or_else (words_fault ws)
    (or_else (blank_fault h ws)
    (admission_fault s h lo hi ws)))

abbrev pub inner_fault : ℕ → Row → List ℕ → ℕ
inner_fault s r b = value_fault s r (shape_of r b) (lo_of b) (hi_of b) (words_of r b)

-- of a formula that is not blank, 6 of its words, then 7 or 8, by what admission has found: it stops at the first fault, and admits words alone
abbrev pub judged_fault : List ℤ → Admission → ℕ
judged_fault ws (Ok admitted) = 0
judged_fault ws (Err refused) = or_else (words_fault ws) (admission_number (Err refused))

-- ---- a formula record: exact length (2); 4; 5; 6; 14; 7 or 8
unfoldable pub formula_fault : ℕ → Row → List ℕ → ℕ → ℕ → ℕ → ℕ
formula_fault s r b seen count next =
    or_else (length_fault r b)
    (or_else (order_fault seen count next (formula_number b))
    (inner_fault s r b))

-- of these, all that comes before the words
unfoldable pub front_fault : Row → List ℕ → ℕ → ℕ → ℕ → ℕ
front_fault r b seen count next =
    or_else (length_fault r b)
    (or_else (order_fault seen count next (formula_number b))
    (own_fault r (shape_of r b) (lo_of b) (hi_of b)))

-- as many words as the kind and the counts ask for, and counts in their ranges
abbrev pub WordsOf : Shape → List (List ℕ) → Type 0
WordsOf h ws = (length ws ≡ word_count h.kind h.p h.q) × Counted h.kind h.p h.q h.mode

-- 3 for a record that is no formula
abbrev pub only_formula : Class → ℕ
only_formula StartRecord = 3
only_formula FormulaRecord = 0
only_formula EndRecord = 3
only_formula Unknown = 3

-- ---- worked examples: of two refusals that meet at one record, the one that the paper has first. A record with its length, code, number, lo, hi and
-- the rest, all by their bit patterns
abbrev recorded : ℕ → ℕ → ℕ → ℕ → ℕ → List ℕ → List ℕ
recorded n code number lo hi rest = bytes4 n ++ (bytes2 code ++ (bytes2 number ++ (bytes4 lo ++ (bytes4 hi ++ rest))))

-- a polynomial, number 5, of one coefficient, and one with a byte too many
abbrev constant : ℕ → ℕ → List ℕ
constant lo hi = recorded 20 0x0010 5 lo hi (bytes4 7)

abbrev overlong : List ℕ
overlong = recorded 21 0x0010 5 0 1 (bytes4 7 ++ (0 ∷ []))

-- 2 before 4; 4 before 5; 5 before 6
length_first : (formula_fault 24 (row_of 0x0010) overlong 1 1 6 ≡ 2) × (formula_fault 24 (row_of 0x0010) (constant 0 1) 1 1 6 ≡ 4)
unfolding bytes2 bytes4 number2 number4 words rows first_row row_of first_count field_of shape_of pieces_by outside count_fault size_fault length_fault order_fault interval_fault own_fault words_fault all_zero bound_of rounded_up value_fault formula_fault
length_first = (refl, refl)

number_first :
    (formula_fault 24 (row_of 0x0010) (constant 1 0) 0 1 6 ≡ 5)
    × (formula_fault 24 (row_of 0x0010) (constant 1 0) 0 1 5 ≡ 6)
    × (formula_fault 24 (row_of 0x0010) (constant 0 1) 0 1 5 ≡ 0)
unfolding bytes2 bytes4 number2 number4 words rows first_row row_of first_count field_of shape_of pieces_by outside count_fault size_fault length_fault order_fault interval_fault own_fault words_fault all_zero bound_of rounded_up value_fault formula_fault
number_first = (refl, refl, refl)

-- M + M·x leaves the range at one (7); 6 comes before, for lo above hi, and for a coefficient that is no word
abbrev steep : ℕ → ℕ → ℕ → List ℕ
steep lo hi c = recorded 24 0x0010 5 lo hi (bytes4 2147483647 ++ bytes4 c)

values_first :
    (formula_fault 24 (row_of 0x0010) (steep 0 16777216 2147483647) 0 1 5 ≡ 7)
    × (formula_fault 24 (row_of 0x0010) (steep 16777216 0 2147483647) 0 1 5 ≡ 6)
    × (formula_fault 24 (row_of 0x0010) (steep 0 16777216 2147483648) 0 1 5 ≡ 6)
unfolding bytes2 bytes4 number2 number4 words rows first_row row_of first_count field_of shape_of pieces_by outside count_fault size_fault length_fault order_fault interval_fault own_fault words_fault all_zero bound_of rounded_up value_fault formula_fault
values_first = (refl, refl, refl)

-- M over 0 (8), and M + M·x over 0: the numerator's bounds come first (7)
range_first :
    (formula_fault 24 (row_of 0x0011) (recorded 28 0x0011 5 0 16777216 (bytes2 1 ++ (bytes2 1 ++ (bytes4 2147483647 ++ bytes4 0)))) 0 1 5 ≡ 8)
    × (formula_fault 24 (row_of 0x0011) (recorded 32 0x0011 5 0 16777216 (bytes2 2 ++ (bytes2 1 ++ (bytes4 2147483647 ++ (bytes4 2147483647 ++ bytes4 0))))) 0 1 5 ≡ 7)
unfolding bytes2 bytes4 number2 number4 words rows first_row row_of first_count field_of shape_of pieces_by outside count_fault size_fault length_fault order_fault interval_fault own_fault words_fault all_zero bound bound_of rounded_up value_fault formula_fault
range_first = (refl, refl)

-- where admission has stopped at a number that is no word, 6
stopped_at_no_word :
    (judged_fault (pos 1 ∷ []) range_left ≡ 7)
    × (judged_fault (pos 1 ∷ []) divisor_zero ≡ 8)
    × (judged_fault (negsuc 2147483647 ∷ []) range_left ≡ 6)
    × (judged_fault (negsuc 2147483647 ∷ []) divisor_zero ≡ 6)
unfolding words_fault
stopped_at_no_word = (refl, refl, refl, refl)

-- odd and even, up to twelve, whose square is no word (7): 2 comes before for one byte too many, 6 for a coefficient that is no word. Up to two an
-- odd one leaves the range by its last product, which an even one has not
abbrev of_one_coefficient : ℕ → ℕ → ℕ → List ℕ
of_one_coefficient code hi c = recorded 20 code 5 0 hi (bytes4 c)

odd_and_even_records :
    (formula_fault 24 (row_of 0x0014) (of_one_coefficient 0x0014 201326592 1) 0 1 5 ≡ 7)
    × (formula_fault 24 (row_of 0x0015) (of_one_coefficient 0x0015 201326592 1) 0 1 5 ≡ 7)
    × (formula_fault 24 (row_of 0x0015) (recorded 21 0x0015 5 0 201326592 (bytes4 1 ++ (0 ∷ []))) 0 1 5 ≡ 2)
    × (formula_fault 24 (row_of 0x0015) (of_one_coefficient 0x0015 201326592 2147483648) 0 1 5 ≡ 6)
    × (formula_fault 24 (row_of 0x0014) (of_one_coefficient 0x0014 33554432 1073741823) 0 1 5 ≡ 0)
    × (formula_fault 24 (row_of 0x0014) (of_one_coefficient 0x0014 33554432 1073741824) 0 1 5 ≡ 7)
    × (formula_fault 24 (row_of 0x0015) (of_one_coefficient 0x0015 33554432 1073741824) 0 1 5 ≡ 0)
unfolding bytes2 bytes4 number2 number4 words rows first_row row_of first_count field_of shape_of pieces_by outside count_fault size_fault length_fault order_fault interval_fault own_fault words_fault all_zero bound_of rounded_up value_fault formula_fault
odd_and_even_records = (refl, refl, refl, refl, refl, refl, refl)

-- a blank formula (14): 5 comes before, and 6 for lo above hi; 7 comes behind, for a square that is no word. A root is not blank
blank_in_turn :
    (formula_fault 24 (row_of 0x0010) (recorded 24 0x0010 5 0 1 (bytes4 0 ++ bytes4 0)) 0 1 5 ≡ 14)
    × (formula_fault 24 (row_of 0x0010) (recorded 24 0x0010 5 0 1 (bytes4 0 ++ bytes4 1)) 0 1 5 ≡ 0)
    × (formula_fault 24 (row_of 0x0010) (recorded 24 0x0010 5 1 0 (bytes4 0 ++ bytes4 0)) 0 1 6 ≡ 5)
    × (formula_fault 24 (row_of 0x0010) (recorded 24 0x0010 5 1 0 (bytes4 0 ++ bytes4 0)) 0 1 5 ≡ 6)
    × (formula_fault 24 (row_of 0x0014) (of_one_coefficient 0x0014 201326592 0) 0 1 5 ≡ 14)
    × (formula_fault 24 (row_of 0x0015) (of_one_coefficient 0x0015 201326592 0) 0 1 5 ≡ 14)
    × (formula_fault 24 (row_of 0x0013) (recorded 16 0x0013 5 0 0 []) 0 1 5 ≡ 0)
unfolding bytes2 bytes4 number2 number4 words rows first_row row_of first_count field_of shape_of pieces_by outside count_fault size_fault length_fault order_fault interval_fault own_fault words_fault all_zero bound_of rounded_up value_fault formula_fault
blank_in_turn = (refl, refl, refl, refl, refl, refl, refl)

-- 0 over d0 + d1·x: 14 before 7, for M + M·x, and before 8, for 0; 6 comes before, for a number that is no word
abbrev nought : ℕ → ℕ → List ℕ
nought d0 d1 = recorded 32 0x0011 5 0 16777216 (bytes2 1 ++ (bytes2 2 ++ (bytes4 0 ++ (bytes4 d0 ++ bytes4 d1))))

nought_over :
    (formula_fault 24 (row_of 0x0011) (nought 1 0) 0 1 5 ≡ 14)
    × (formula_fault 24 (row_of 0x0011) (nought 2147483647 2147483647) 0 1 5 ≡ 14)
    × (formula_fault 24 (row_of 0x0011) (nought 0 0) 0 1 5 ≡ 14)
    × (formula_fault 24 (row_of 0x0011) (nought 0 2147483648) 0 1 5 ≡ 6)
unfolding bytes2 bytes4 number2 number4 words rows first_row row_of first_count field_of shape_of pieces_by outside count_fault size_fault length_fault order_fault interval_fault own_fault words_fault all_zero bound bound_of rounded_up value_fault formula_fault
nought_over = (refl, refl, refl, refl)

-- b0 + a1·v over b1, up to twelve, whose square is no word in mode 1 (7): 14 comes before that, and 6 for a mode of 3 or a b1 that is no word; with b0
-- or a1 it is not blank
abbrev fractional : ℕ → ℕ → ℕ → ℕ → List ℕ
fractional mode b0 a1 b1 = recorded 32 0x0012 5 0 201326592 (bytes2 mode ++ (bytes2 1 ++ (bytes4 b0 ++ (bytes4 a1 ++ bytes4 b1))))

nought_plus_nought :
    (formula_fault 24 (row_of 0x0012) (fractional 1 0 0 1) 0 1 5 ≡ 14)
    × (formula_fault 24 (row_of 0x0012) (fractional 1 0 0 0) 0 1 5 ≡ 14)
    × (formula_fault 24 (row_of 0x0012) (fractional 3 0 0 0) 0 1 5 ≡ 6)
    × (formula_fault 24 (row_of 0x0012) (fractional 1 0 0 2147483648) 0 1 5 ≡ 6)
    × (formula_fault 24 (row_of 0x0012) (fractional 1 1 0 1) 0 1 5 ≡ 7)
    × (formula_fault 24 (row_of 0x0012) (fractional 1 0 1 1) 0 1 5 ≡ 7)
unfolding bytes2 bytes4 number2 number4 words rows first_row row_of first_count field_of shape_of pieces_by outside count_fault size_fault length_fault order_fault interval_fault own_fault words_fault all_zero rounded_up value_fault formula_fault
nought_plus_nought = (refl, refl, refl, refl, refl, refl)
