-- `faults::parts::all_zero` meets its contract, word by word.
use Rattle.whole.proofs.Basics.{◌≡◌, ◌∙◌, refl, sym, ap, List, ℕ, ℤ, Bool, false, cond, ◌+◌, arith, eqb, nat_abs, length, drop, get_or, [], w32, of_z, SFits, ◌<◌, eq-eqb, ne_eqb, rules}
use Rattle.std.proofs.lemmas.List.{drop_all}
use Rattle.stored.specs.Words.{value, values}
use Rattle.formula.specs.Blank.{all_zero}
use Rattle.formula.proofs.BlankLaws.{zero_pattern}
use Rattle.faults.proofs.Values.{next_zero}
use Rattle.faults.proofs.parts.all_zero.Goals as goal

-- whether the word at i is zero decides, with the words behind it
from : (ws : List (List ℕ)) (i : ℕ) (z : ℤ) → SFits w32 z → i < length ws → z ≡ value (get_or ws i [])
    → all_zero (values (drop i ws)) ≡ cond (eqb (of_z w32 z) 0) (all_zero (values (drop (i + 1) ws))) false
from ws i z f h e =
    next_zero ws i h
    ∙ ap (λ (t : Bool). cond t (all_zero (values (drop (i + 1) ws))) false) (ap (λ (y : ℤ). eqb (nat_abs y) 0) (sym e) ∙ zero_pattern z f)

pub returns-then-value-ne0 : goal.returns-then-value-ne0
returns-then-value-ne0 c =
    sym (c.loop-word.invariant ∙ rw (ne_eqb _ _ c.if-value-ne0.true) at (from c.args.words.now c.loop-word.word-index c.value.result (search rules) c.loop-word-test.true c.value.ensures))

pub loop-word-preserved : goal.loop-word-preserved
loop-word-preserved c =
    c.loop-word.invariant ∙ rw (eq-eqb _ _ c.if-value-ne0.false) at (from c.args.words.now c.loop-word.word-index c.value.result (search rules) c.loop-word-test.true c.value.ensures)

pub returns : goal.returns
unfolding all_zero
returns c = sym (c.loop-word.invariant ∙ ap (λ (l : List (List ℕ)). all_zero (values l)) (drop_all _ c.args.words.now c.loop-word-test.false))
