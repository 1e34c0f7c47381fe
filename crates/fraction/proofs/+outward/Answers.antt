-- `fraction::outward` meets its contract: one step, and the walk from there on, with the marks joined.
use Rattle.whole.proofs.Basics.{◌≡◌, ◌∙◌, refl, sym, List, ℕ, suc, ◌+◌, ◌-◌, ◌*◌, ◌≤◌, [], arith, length, get_or, ℤ, w32}
use Rattle.whole.proofs.Fit.{fit_abs}
use Rattle.whole.proofs.Held.{back, held, arg, known}
use Rattle.word.specs.Words.{Word}
use Rattle.word.proofs.LooseLaws.{or_marks}
use Rattle.stored.specs.Words.{value, values}
use Rattle.stored.proofs.ValuesLaws.{length-values}
use Rattle.fraction.specs.Fraction.{b_at, a_after, at, next_of}
use Rattle.fraction.specs.Ready.{StepReady, OutwardReady}
use Rattle.fraction.proofs.WalkLaws.{b_is, a_is, step_ready, next_ready, step_word, word_done}
use Rattle.fraction.proofs.ExactWalk.{step_mark, mark_done}
use Rattle.fraction.proofs.+outward.Goals as goal

-- a word, stored and read back
read : (z y : ℤ) → z ≡ y → Word y → back w32 z ≡ y
read z y e h = held {w = w32} (known e (fit_abs (omega (arith, h))))

-- ---- one step, from t at depth j: what is read and formed there
module _ (words : List (List ℕ)) {s : ℕ} {first rest t : ℤ} {j : ℕ} (above : j ≡ 0 → ⊥) (o : OutwardReady s first rest (values words) j t) where
  abbrev ws : List ℤ
  ws = values words

  abbrev i : ℕ
  i = j - 1

  abbrev v : ℤ
  v = at first rest i

  abbrev u : ℤ
  u = next_of s (a_after ws i) (b_at ws i) v t

  depth : j ≡ suc i
  depth = omega (arith, above)

  now : StepReady s (a_after ws i) (b_at ws i) v t
  now = step_ready s first rest ws i j t depth o

  inside : i + i + 2 ≤ length words
  inside = omega (arith, above, o.room, length-values words)

  first_read : back w32 first ≡ first
  first_read = read first first refl o.first_word

  rest_read : back w32 rest ≡ rest
  rest_read = read rest rest refl o.rest_word

  t_read : back w32 t ≡ t
  t_read = read t t refl o.t_word

  a_read : {z : ℤ} → z ≡ value (get_or words (2 * i + 1) []) → back w32 z ≡ a_after ws i
  a_read {z} e = read z _ (e ∙ a_is words i (omega (arith, inside))) now.a_word

  b_read : {z : ℤ} → z ≡ value (get_or words (2 * i) []) → back w32 z ≡ b_at ws i
  b_read {z} e = read z _ (e ∙ b_is words i (omega (arith, inside))) now.b_word

  v_read : {z : ℤ} → z ≡ at (back w32 first) (back w32 rest) i → back w32 z ≡ v
  v_read {z} e = read z _ (rw (first_read, rest_read) at e) now.v_word

  u_read : {za zb zv z : ℤ} → za ≡ value (get_or words (2 * i + 1) []) → zb ≡ value (get_or words (2 * i) []) → zv ≡ at (back w32 first) (back w32 rest) i → z ≡ next_of s (back w32 za) (back w32 zb) (back w32 zv) (back w32 t) → back w32 z ≡ u
  u_read {z = z} ea eb ev e = read z _ (rw (a_read ea, b_read eb, v_read ev, t_read) at e) now.sum

-- ---- the goals
pub returns-then-j-eq0-clause-word : goal.returns-then-j-eq0-clause-word
returns-then-j-eq0-clause-word n c = rw (held (arg c.ranges.t)) (sym (word_done _ _ _ _ _ _ c.if-j-eq0.true))

pub returns-then-j-eq0-clause-mark : goal.returns-then-j-eq0-clause-mark
returns-then-j-eq0-clause-mark n c = sym (mark_done _ _ _ _ _ _ _ c.if-j-eq0.true)

pub next-u-requires : goal.next-u-requires
next-u-requires n c =
    let b = c.args.words.now in
    let j = c.if-j-eq0.false in
    let o = c.requires in
    rw (a_read b j o c.value-a.ensures, b_read b j o c.value-b.ensures, v_read b j o c.at.ensures, t_read b j o) (now b j o)

pub outward-requires : goal.outward-requires
outward-requires n c =
    let b = c.args.words.now in
    let j = c.if-j-eq0.false in
    let o = c.requires in
    let u = u_read b j o c.value-a.ensures c.value-b.ensures c.at.ensures c.next-u.ensures.word in
    (omega (arith, c.decreases, j), rw (first_read b j o, rest_read b j o, u) (next_ready _ _ _ _ _ _ _ (depth b j o) o))

pub returns-clause-word : goal.returns-clause-word
returns-clause-word n c =
    let b = c.args.words.now in
    let j = c.if-j-eq0.false in
    let o = c.requires in
    let u = u_read b j o c.value-a.ensures c.value-b.ensures c.at.ensures c.next-u.ensures.word in
    (rw (first_read b j o, rest_read b j o, u) at c.outward.ensures.word) ∙ step_word _ _ _ _ _ _ _ (depth b j o)

pub returns-clause-mark : goal.returns-clause-mark
returns-clause-mark n c =
    let a = c.args in
    let b = a.words.now in
    let j = c.if-j-eq0.false in
    let o = c.requires in
    let u = u_read b j o c.value-a.ensures c.value-b.ensures c.at.ensures c.next-u.ensures.word in
    let m = rw (a_read b j o c.value-a.ensures, v_read b j o c.at.ensures, t_read b j o) at c.next-u.ensures.mark in
    let e = rw (or_marks a.s a.loose c.next-u.result.loose _ _ refl m, first_read b j o, rest_read b j o, u) at c.outward.ensures.mark in
    e ∙ step_mark _ _ _ _ _ _ _ _ (depth b j o)
