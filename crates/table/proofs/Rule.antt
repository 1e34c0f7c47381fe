-- The rule of the table, each clause by a test that is computed over its rows; and what it says of every record of a row.
use Rattle.whole.proofs.Basics.{◌≡◌, ◌∙◌, sym, ap, subst, Bool, ℕ, ◌+◌, ◌≤◌, arith, T, eqb}
use mathlib.Core.Bool.{◌&&◌}
use native.Mathlib.Nat.{mul-le-mul_left, mul-zero}
use lib.Dec.{eqb→eq}
use Rattle.formula.specs.declared.Kind.{Kind}
use Rattle.formula.specs.declared.Kind.TheVariants.{Polynomial, Rational, Fraction, Root, Odd, Even, NoFormula}
use Rattle.table.specs.Table.{rows, field, none, first_row, row_of, pieces_by, length_by}
use Rattle.table.specs.Codes.{code_for, start_row, end_row}
use Rattle.table.specs.Rule.{least_head, count_field, Meets, Many, Framing, Bare, Ruled}
use Rattle.table.specs.declared.Class.{Class}
use Rattle.table.specs.declared.Class.TheVariants.{StartRecord, FormulaRecord, EndRecord}
use Rattle.table.specs.declared.Field.{Field}
use Rattle.table.specs.declared.Row.{Row}
use Rattle.table.proofs.Tested.{both, tested, at_most, of_class_lem, of_framing}
use Rattle.table.proofs.CodeLaws.{row_by_kind, start_row_lem, end_row_lem}

-- ---- two fields with the same numbers

abbrev same_field : Field → Field → Bool
same_field f g = eqb f.at g.at && (eqb f.least g.least && (eqb f.most g.most && eqb f.each g.each))

same_field_lem : (f g : Field) → T (same_field f g) → f ≡ g
same_field_lem f g t =
    let u = both (eqb f.at g.at) _ t in
    let v = both (eqb f.least g.least) _ u.1 in
    let w = both (eqb f.most g.most) _ v.1 in
    λ i. field (eqb→eq f.at g.at u.0 i) (eqb→eq f.least g.least v.0 i) (eqb→eq f.most g.most w.0 i) (eqb→eq f.each g.each w.1 i)

-- ---- the rule

-- kind by kind: a new one adds its own
met : (k : Kind) → (row_of (code_for k)).class ≡ FormulaRecord → Meets (row_of (code_for k))
unfolding row_of code_for first_row rows
met Polynomial e p q m a b d = a
met Rational e p q m a b d = (a.0, a.1, b.0, b.1)
met Fraction e p q m a b d = (a.0, a.1, d.1)
met Root e p q m a b d = tt
met Odd e p q m a b d = a
met Even e p q m a b d = a
met NoFormula e p q m a b d = absurd (let z : ◌≡◌ {A = ℕ} 0 1 = cc in omega arith)

many : (k : Kind) → Many (row_of (code_for k))
unfolding row_of code_for first_row rows pieces_by
many Polynomial p q = omega arith
many Rational p q = omega arith
many Fraction p q = omega arith
many Root p q = omega arith
many Odd p q = omega arith
many Even p q = omega arith
many NoFormula p q = omega arith

bare : (c : ℕ) → Framing (row_of c).class → Bare (row_of c)
unfolding rows
bare c h =
    record {
      base = eqb→eq _ _ (of_framing (λ r. eqb r.base 0) tt c h);
      p = same_field_lem _ _ (of_framing (λ r. same_field r.p none) tt c h);
      q = same_field_lem _ _ (of_framing (λ r. same_field r.q none) tt c h);
    }

pub ruled : (c : ℕ) → Ruled (row_of c)
unfolding rows pieces_by
ruled c =
    record {
      least = at_most (λ r. least_head r.class) (λ r. r.head) tt c;
      most = at_most (λ r. r.head) (λ r. 20) tt c;
      p = at_most (λ r. r.p.at + 2) (λ r. r.head) tt c;
      q = at_most (λ r. r.q.at + 2) (λ r. r.head) tt c;
      mode = at_most (λ r. r.mode.at + 2) (λ r. r.head) tt c;
      count = at_most (λ r. r.count.at + 2) (λ r. r.head) tt c;
      pieces = at_most (λ r. pieces_by r r.p.most r.q.most) (λ r. 32) tt c;
      longest = at_most (λ r. length_by r r.p.most r.q.most) (λ r. 120) tt c;
      counted = same_field_lem _ _ (tested (λ r. same_field r.count (count_field r.class)) tt c);
      words = λ e. eqb→eq _ _ (of_class_lem FormulaRecord (λ r. eqb r.width 4) tt c e);
      kind = λ e. let n = row_by_kind c e in subst Meets n (met (row_of c).kind (ap (λ (r : Row). r.class) n ∙ e));
      many = λ e. subst Many (row_by_kind c e) (many (row_of c).kind);
      bare = bare c;
    }

-- ---- what it says of a record with counts in their ranges: few pieces and few bytes, because a product grows with its factor

module _ (r : Row) (p q : ℕ) (u : Ruled r) (a : p ≤ r.p.most) (b : q ≤ r.q.most) where
  fewer : pieces_by r p q ≤ pieces_by r r.p.most r.q.most
  unfolding pieces_by
  fewer = omega (arith, mul-le-mul_left r.p.each a, mul-le-mul_left r.q.each b)

  pub few : pieces_by r p q ≤ 32
  few = omega (arith, fewer, u.pieces)

  pub short : length_by r p q ≤ 120
  short = omega (arith, mul-le-mul_left r.width fewer, u.longest)

-- ---- a record that is no formula is as long as its head

pub bare_by_head : (r : Row) (p q : ℕ) → Bare r → length_by r p q ≡ r.head
unfolding pieces_by
bare_by_head r p q b = rw (b.base, b.p, b.q) (omega (arith, mul-zero r.width))

framing_length : {k : Class} (w : Row) (c : ℕ) → (row_of c).class ≡ k → Framing k → row_of c ≡ w → (p q : ℕ) → length_by (row_of c) p q ≡ w.head
framing_length w c e h n p q = bare_by_head (row_of c) p q (bare c (subst Framing (sym e) h)) ∙ ap (λ (r : Row). r.head) n

pub start-length : (c : ℕ) → (row_of c).class ≡ StartRecord → (p q : ℕ) → length_by (row_of c) p q ≡ 8
unfolding start_row first_row rows
start-length c e = framing_length start_row c e tt (start_row_lem c e)

pub end_length : (c : ℕ) → (row_of c).class ≡ EndRecord → (p q : ℕ) → length_by (row_of c) p q ≡ 8
unfolding end_row first_row rows
end_length c e = framing_length end_row c e tt (end_row_lem c e)
