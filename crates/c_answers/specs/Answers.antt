-- Each answer as C is given it: refused (0, or the paper's number), place, then the values, which are 0 when refused. They are those that
-- the answers' own crates define.
use Rattle.std.specs.Prelude.{ℕ, ◌≡◌, refl, Bool, true, false, pos, Err, Ok}
use Rattle.std.specs.Float.{binary64}
use Rattle.std.specs.Float.Ieee.{of_bits}
use Rattle.formula.specs.declared.Formula.{Formula}
use Rattle.door.specs.Exact.{Exactly}
use Rattle.refusal.specs.Guard.{refusal, refused_number, refused_place}
use Rattle.sheet.specs.Reader.{count_value, FormulaCount, Reading}
use Rattle.answering.specs.Answering.{evaluation_word, evaluation_steps, evaluation_exact, answered, Evaluation}
use Rattle.desk.specs.Desk.{shown_value, shown_steps, shown_exact, interval_low, interval_high, Interval, Showing, showing}
use Rattle.record_writer.specs.Answers.{written_length, Writing}
use Rattle.c_answers.specs.declared.answers.Fields.{Fields}
use Rattle.c_answers.specs.declared.answers.CountedFormulas.{CountedFormulas}
use Rattle.c_answers.specs.declared.answers.FoundFields.{FoundFields}
use Rattle.c_answers.specs.declared.answers.WorkedWord.{WorkedWord}
use Rattle.c_answers.specs.declared.answers.ShownValue.{ShownValue}
use Rattle.c_answers.specs.declared.answers.IntervalEnds.{IntervalEnds}
use Rattle.c_answers.specs.declared.answers.WrittenLength.{WrittenLength}
use Rattle.c_answers.specs.Fields.{fields_of, no_fields}

abbrev pub counted : FormulaCount → CountedFormulas
counted a = record { refused = refused_number a; place = refused_place a; count = count_value a }

abbrev pub fields_given : Reading → Fields
fields_given (Ok f) = fields_of f
fields_given (Err r) = no_fields

abbrev pub found : Reading → FoundFields
found a = record { refused = refused_number a; place = refused_place a; fields = fields_given a }

-- a mark as a number: 1 for exact, 0 for rounded and where there is none
abbrev pub mark_of : Bool → ℕ
mark_of true = 1
mark_of false = 0

abbrev pub worked : Evaluation → WorkedWord
worked a = record { refused = refused_number a; place = refused_place a; word = evaluation_word a; steps = evaluation_steps a; exact = mark_of (evaluation_exact a) }

abbrev pub shown : Showing → ShownValue
shown a = record { refused = refused_number a; place = refused_place a; value = shown_value a; steps = shown_steps a; exact = mark_of (shown_exact a) }

abbrev pub spanned : Interval → IntervalEnds
spanned a = record { refused = refused_number a; place = refused_place a; low = interval_low a; high = interval_high a }

abbrev pub written : Writing → WrittenLength
written a = record { refused = refused_number a; place = refused_place a; length = written_length a }

-- ---- doubles at s binary places: which double is exactly a word divided by 2^s is said by a relation
abbrev pub ShownBy : ℕ → Evaluation → ShownValue → Type 0
ShownBy s (Ok w) x = (x.refused ≡ 0) × (x.place ≡ 0) × Exactly s w.word x.value × (x.steps ≡ w.steps) × (x.exact ≡ mark_of w.exact)
ShownBy s (Err r) x = x ≡ shown (Err r)

abbrev pub SpannedBy : ℕ → Reading → IntervalEnds → Type 0
SpannedBy s (Ok f) x = (x.refused ≡ 0) × (x.place ≡ 0) × Exactly s f.lo x.low × Exactly s f.hi x.high
SpannedBy s (Err r) x = x ≡ spanned (Err r)

-- ---- worked examples: a refusal goes out as its number and place, with every value 0; a formula with its fields
refused_fields : (f : Formula) → (found (Err (refusal 8 1)) ≡ record { refused = 1; place = 8; fields = no_fields }) × (fields_given (Ok f) ≡ fields_of f)
refused_fields f = (refl, refl)

refused_count :
    (counted (Err (refusal 8 1)) ≡ record { refused = 1; place = 8; count = 0 })
    × (written (Err (refusal 8 5)) ≡ record { refused = 5; place = 8; length = 0 })
    × (spanned (Err (refusal 0 11)) ≡ record { refused = 11; place = 0; low = of_bits binary64 0; high = of_bits binary64 0 })
refused_count = (refl, refl, refl)

refused_word :
    (worked (Err (refusal 0 10)) ≡ record { refused = 10; place = 0; word = pos 0; steps = 0; exact = 0 })
    × (shown (Err (refusal 0 13)) ≡ record { refused = 13; place = 0; value = of_bits binary64 0; steps = 0; exact = 0 })
refused_word = (refl, refl)

-- an answer goes out with its steps and its mark, as a word and as a double
answered_word :
    (worked (answered (pos 23726566) 5 false) ≡ record { refused = 0; place = 0; word = pos 23726566; steps = 5; exact = 0 })
    × (worked (answered (pos 3) 0 true) ≡ record { refused = 0; place = 0; word = pos 3; steps = 0; exact = 1 })
    × (shown (showing (of_bits binary64 0) 7 true) ≡ record { refused = 0; place = 0; value = of_bits binary64 0; steps = 7; exact = 1 })
    × (shown (showing (of_bits binary64 0) 7 false) ≡ record { refused = 0; place = 0; value = of_bits binary64 0; steps = 7; exact = 0 })
answered_word = (refl, refl, refl, refl)
