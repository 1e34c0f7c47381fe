-- `faults::parts::words_fault` meets its contract, word by word.
use Rattle.whole.proofs.Basics.{◌≡◌, ◌∙◌, sym, ap, List, ℕ, ◌+◌, arith, length, drop, get_or, [], rules}
use Rattle.std.proofs.lemmas.List.{drop_all}
use Rattle.std.proofs.lemmas.Result.{err_from_is_err_and}
use Rattle.stored.specs.Words.{value, values}
use Rattle.stored.proofs.Back.{back}
use Rattle.refusal.specs.Guard.{or_else}
use Rattle.faults.proofs.Chain.{err_stops, ok_passes}
use Rattle.faults.proofs.Values.{next_fault}
use Rattle.faults.specs.Faults.{word_fault, words_fault}
use Rattle.faults.proofs.parts.words_fault.Goals as goal

pub returns-in_err-word_fault : goal.returns-in_err-word_fault
returns-in_err-word_fault c =
    let p = err_from_is_err_and c.from_residual.result c.from_residual.ensures.1 in
    rw (p.1, p.2) (err_stops _ _ (c.in_err-word_fault.ensures ∙ ap word_fault (back (search rules) c.value.ensures)) ∙ sym (c.loop-word.invariant ∙ next_fault c.args.words.now c.loop-word.word-index c.loop-word-test.true))

pub loop-word-preserved : goal.loop-word-preserved
loop-word-preserved c =
    let i = c.loop-word.word-index in
    let none : 0 ≡ word_fault (value (get_or c.args.words.now i [])) = c.in_ok-word_fault.ensures ∙ ap word_fault (back (search rules) c.value.ensures) in
    c.loop-word.invariant ∙ next_fault c.args.words.now i c.loop-word-test.true ∙ ap (λ (n : ℕ). or_else n (words_fault (values (drop (i + 1) c.args.words.now)))) (sym none)

pub returns : goal.returns
unfolding words_fault
returns c = sym (c.loop-word.invariant ∙ ap (λ (l : List (List ℕ)). words_fault (values l)) (drop_all _ c.args.words.now c.loop-word-test.false))
