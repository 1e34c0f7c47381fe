-- A formula record without faults 2, 6, 14, 7 and 8 is sound, not blank and admitted: what no fault says of each field.
use Rattle.whole.proofs.Basics.{◌≡◌, refl, sym, subst, Bool, true, false, not, List, ℕ, ◌≤◌, arith, T, length, ℤ, pos, ◌≤ℤ◌, lt_z}
use lib.Signed.{lt_z_no}
use Rattle.stored.proofs.WordsLaws.{length-words}
use Rattle.admission.specs.Admission.{admission_number, Admission, granted}
use Rattle.admission.specs.declared.NotAdmitted.TheVariants.{RangeLeft, DivisorZero}
use Rattle.formula.specs.declared.Kind.{Kind}
use Rattle.formula.specs.declared.Kind.TheVariants.{Polynomial, Rational, Fraction, Root, Odd, Even, NoFormula}
use Rattle.formula.specs.declared.Shape.{Shape}
use Rattle.formula.specs.Formula.{RootInterval, Sound, word_count, admission_of}
use Rattle.formula.specs.Blank.{blank_of}
use Rattle.table.specs.declared.Class.TheVariants.{FormulaRecord}
use Rattle.table.specs.declared.Row.{Row}
use Rattle.table.specs.Table.{Within}
use Rattle.table.specs.Rule.{Ruled}
use Rattle.layout.specs.Fields.{shape_of, lo_of, hi_of, words_of, Complete}
use Rattle.faults.specs.Faults.{outside, word_fault, words_fault, interval_fault, kind_fault, own_fault, blank_fault}
use Rattle.faults.proofs.Chain.{pass, passed, neither}
use Rattle.faults.proofs.Lengths.{inside}
use Rattle.faults.proofs.Values.{word, each_word}
use Rattle.records.specs.Records.{value_fault, inner_fault}
use Rattle.std.specs.Prelude.{Err, Ok}

not_below : (a b : ℤ) → lt_z a b ≡ false → b ≤ℤ a
not_below a b e = lt_z_no (subst (λ (t : Bool). T (not t)) (sym e) tt)

rooted : (k : Kind) (lo : ℤ) → kind_fault k lo ≡ 0 → RootInterval k lo
rooted Polynomial lo e = tt
rooted Rational lo e = tt
rooted Fraction lo e = tt
rooted Root lo e = not_below lo (pos 0) (passed (lt_z lo (pos 0)) 6 0 (λ q. omega arith) e).0
rooted Odd lo e = tt
rooted Even lo e = tt
rooted NoFormula lo e = tt

-- of any fields with counts in their ranges: the record writer has them from its caller
pub sound : (s : ℕ) (r : Row) (h : Shape) (lo hi : ℤ) (ws : List ℤ) → Ruled r → r.class ≡ FormulaRecord → h.kind ≡ r.kind → Within r.p h.p → Within r.q h.q
    → word_count h.kind h.p h.q ≤ length ws → value_fault s r h lo hi ws ≡ 0 → Sound h lo hi ws
unfolding value_fault own_fault interval_fault
sound s r h lo hi ws u c k p q n e =
    let o = neither (own_fault r h lo hi) _ e in
    let a = neither (interval_fault lo hi) _ o.0 in
    let m = neither (outside r.mode h.mode 6) _ a.1 in
    let l = neither (word_fault lo) _ a.0 in
    let g = neither (word_fault hi) _ l.1 in
    record {
      counts = rw k (u.kind c h.p h.q h.mode p q (inside r.mode h.mode 6 (λ z. omega arith) m.0));
      room = n;
      words = each_word ws (neither (words_fault ws) _ o.1).0;
      low = word lo l.0;
      high = word hi g.0;
      order = not_below hi lo (passed (lt_z hi lo) 6 0 (λ z. omega arith) g.1).0;
      rooted = rw k (rooted r.kind lo m.1);
    }

-- not blank, and admitted
module _ (s : ℕ) (r : Row) (h : Shape) (lo hi : ℤ) (ws : List ℤ) (e : value_fault s r h lo hi ws ≡ 0) where
  behind_words : (blank_fault h ws ≡ 0) × (admission_number (admission_of s h lo hi ws) ≡ 0)
  unfolding value_fault
  behind_words = neither (blank_fault h ws) _ (neither (words_fault ws) _ (neither (own_fault r h lo hi) _ e).1).1

  pub not_blank : blank_of h ws ≡ false
  not_blank = (passed (blank_of h ws) 14 0 (λ z. omega arith) behind_words.0).0

  pub admitted : admission_of s h lo hi ws ≡ granted
  admitted = none (admission_of s h lo hi ws) behind_words.1
    where
      none : (a : Admission) → admission_number a ≡ 0 → a ≡ granted
      none (Ok _) z = refl
      none (Err RangeLeft) z = absurd (omega arith)
      none (Err DivisorZero) z = absurd (omega arith)

-- a blank one of which nothing else is wrong has 14
pub fourteen : (s : ℕ) (r : Row) (h : Shape) (lo hi : ℤ) (ws : List ℤ) → own_fault r h lo hi ≡ 0 → words_fault ws ≡ 0 → blank_of h ws ≡ true → value_fault s r h lo hi ws ≡ 14
unfolding value_fault
fourteen s r h lo hi ws o w b = sym (pass refl o (pass refl w (rw b refl)))

-- of a complete record's own bytes
pub sound_record : (s : ℕ) (r : Row) (b : List ℕ) → Complete r b → inner_fault s r b ≡ 0 → Sound (shape_of r b) (lo_of b) (hi_of b) (words_of r b)
unfolding shape_of
sound_record s r b d e = sound s r (shape_of r b) (lo_of b) (hi_of b) (words_of r b) d.ruled d.class refl d.laid.p d.laid.q (omega (arith, length-words b r.head (word_count r.kind (shape_of r b).p (shape_of r b).q))) e
