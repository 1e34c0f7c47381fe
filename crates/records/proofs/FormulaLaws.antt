-- A record's check by its code, which is a formula's or none that a formula has. A root has no words and is never blank, so that its front is all.
use Rattle.whole.proofs.Basics.{◌≡◌, ◌∙◌, refl, sym, ap, List, ℕ, arith}
use Rattle.stored.specs.Words.{words}
use Rattle.formula.specs.declared.Kind.{Kind}
use Rattle.formula.specs.declared.Kind.TheVariants.{Polynomial, Rational, Fraction, Root, Odd, Even, NoFormula}
use Rattle.table.specs.Table.{rows, first_row, row_of}
use Rattle.table.specs.Codes.{code_for}
use Rattle.table.proofs.CodeLaws.{code_found, code_again, formula_kind}
use Rattle.table.specs.declared.Class.{Class}
use Rattle.table.specs.declared.Class.TheVariants.{StartRecord, FormulaRecord, EndRecord, Unknown}
use Rattle.table.specs.declared.Row.{Row}
use Rattle.layout.specs.Fields.{shape_of}
use Rattle.refusal.specs.Guard.{or_else}
use Rattle.faults.specs.Faults.{words_fault}
use Rattle.faults.proofs.Chain.{stop, or_none}
use Rattle.records.specs.Records.{formula_fault, front_fault, only_formula}
use Rattle.records.proofs.Front.{from_words, front_first}

pub no_words : (s : ℕ) (r : Row) (b : List ℕ) (seen count next : ℕ) → r.kind ≡ Root → front_fault r b seen count next ≡ formula_fault s r b seen count next
unfolding shape_of words_fault words
no_words s r b seen count next e =
    let f = front_fault r b seen count next in
    sym (or_none f) ∙ ap (or_else f) none ∙ front_first s r b seen count next
  where
    none : 0 ≡ from_words s r b
    none = rw e refl

pub no_formula_lem : (c : ℕ) → (c ≡ 0x0010 → ⊥) → (c ≡ 0x0011 → ⊥) → (c ≡ 0x0012 → ⊥) → (c ≡ 0x0013 → ⊥) → (c ≡ 0x0014 → ⊥) → (c ≡ 0x0015 → ⊥) → only_formula (row_of c).class ≡ 3
unfolding code_for first_row rows
no_formula_lem c p q f r o v = at (row_of c).class refl
  where
    -- a formula's kind names its code
    by : (k : Kind) → (row_of c).kind ≡ k → (row_of c).class ≡ FormulaRecord → code_for k ≡ c → ⊥
    by Polynomial e g n = p (sym n)
    by Rational e g n = q (sym n)
    by Fraction e g n = f (sym n)
    by Root e g n = r (sym n)
    by Odd e g n = o (sym n)
    by Even e g n = v (sym n)
    by NoFormula e g n = formula_kind c g e

    at : (k : Class) → (row_of c).class ≡ k → only_formula k ≡ 3
    at StartRecord e = refl
    at FormulaRecord e = absurd (by (row_of c).kind refl e (code_again c e ∙ code_found c e tt))
    at EndRecord e = refl
    at Unknown e = refl

pub only_formula_lem : (k : Class) → only_formula k ≡ 0 → k ≡ FormulaRecord
only_formula_lem StartRecord e = absurd (omega arith)
only_formula_lem FormulaRecord e = refl
only_formula_lem EndRecord e = absurd (omega arith)
only_formula_lem Unknown e = absurd (omega arith)

-- so that 3 comes first
pub no_formula : (c f : ℕ) → (c ≡ 0x0010 → ⊥) → (c ≡ 0x0011 → ⊥) → (c ≡ 0x0012 → ⊥) → (c ≡ 0x0013 → ⊥) → (c ≡ 0x0014 → ⊥) → (c ≡ 0x0015 → ⊥) → 3 ≡ or_else (only_formula (row_of c).class) f
no_formula c f p q g r o v = stop f (sym (no_formula_lem c p q g r o v)) (λ z. omega arith)
