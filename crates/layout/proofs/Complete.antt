-- A record of a formula's row, of the length that its counts ask for, is long enough for all its fields, and its words are as many as
-- its kind and counts ask for: they end where the record does, and an array of 32 holds them.
use Rattle.whole.proofs.Basics.{◌≡◌, List, ℕ, ◌+◌, ◌-◌, ◌*◌, ◌/◌, ◌≤◌, ◌∙◌, ap, sym, arith, length, take, drop}
use lib.ListN.{length-take, length-drop}
use Rattle.stored.specs.Words.{words, values}
use Rattle.stored.proofs.WordsLaws.{length-words}
use Rattle.stored.proofs.ValuesLaws.{length-values, words_in}
use Rattle.formula.specs.Formula.{word_count, Stored}
use Rattle.table.specs.Table.{pieces_by}
use Rattle.table.specs.Rule.{Ruled}
use Rattle.table.specs.declared.Class.TheVariants.{FormulaRecord}
use Rattle.table.specs.declared.Row.{Row}
use Rattle.table.proofs.Rule.{few}
use Rattle.layout.specs.Fields.{shape_of, words_of, Laid, Complete}

pub complete : (r : Row) (b : List ℕ) → Ruled r → r.class ≡ FormulaRecord → length b ≤ 120 → Laid r b → Complete r b
complete r b u c n l =
    let h : 16 ≤ r.head = rw c at u.least in
    record { ruled = u; class = c; least = omega (arith, l.exact); most = n; laid = l }

module _ (r : Row) (b : List ℕ) (u : Ruled r) (c : r.class ≡ FormulaRecord) (l : Laid r b) where
  -- as many words as the row has pieces
  pub words_many : word_count (shape_of r b).kind (shape_of r b).p (shape_of r b).q ≡ pieces_by r (shape_of r b).p (shape_of r b).q
  unfolding shape_of
  words_many = u.many c (shape_of r b).p (shape_of r b).q

  -- the words end where the record does
  pub exactly : r.head + 4 * word_count (shape_of r b).kind (shape_of r b).p (shape_of r b).q ≡ length b
  exactly = rw (words_many, ← u.words c) l.exact

  pub reach : Stored (shape_of r b) b r.head
  reach = omega (arith, exactly)

  pub by_length_lem : (length b - r.head) / 4 ≡ word_count (shape_of r b).kind (shape_of r b).p (shape_of r b).q
  by_length_lem = omega (arith, exactly)

  pub few_words : word_count (shape_of r b).kind (shape_of r b).p (shape_of r b).q ≤ 32
  few_words = omega (arith, words_many, few r (shape_of r b).p (shape_of r b).q u l.p.1 l.q.1)

-- words whose values are the record's are as many
pub count_of_words : (r : Row) (b : List ℕ) (ws : List (List ℕ)) → values ws ≡ words_of r b → length ws ≡ word_count (shape_of r b).kind (shape_of r b).p (shape_of r b).q
count_of_words r b ws e = sym (length-values ws) ∙ ap length e ∙ length-words b r.head _

module _ (r : Row) (b : List ℕ) (d : Complete r b) where
  -- the words of the bytes behind the head are the record's
  pub words_behind : words (take (length b - r.head) (drop r.head b)) 0 (length (take (length b - r.head) (drop r.head b)) / 4) ≡ words_of r b
  words_behind =
      let e : length (take (length b - r.head) (drop r.head b)) / 4 ≡ word_count (shape_of r b).kind (shape_of r b).p (shape_of r b).q =
      simp (length-take, length-drop) (omega (arith, exactly r b d.ruled d.class d.laid)) in
      rw e (words_in b r.head (length b - r.head) _ (omega (arith, exactly r b d.ruled d.class d.laid)))

  -- no more than an array of 32 holds
  pub array_holds : (ws : List (List ℕ)) → values ws ≡ words_of r b → length ws ≤ 32
  array_holds ws e = omega (arith, count_of_words r b ws e, few_words r b d.ruled d.class d.laid)
