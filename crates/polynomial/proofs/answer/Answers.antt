-- `polynomial::answer` meets its contract: the coefficients are taken from the last one down. A signed local holds bits, so x is read there as `back w32 x`.
use Rattle.whole.proofs.Basics.{◌≡◌, ◌∙◌, sym, ap, ap₂, subst, true, List, [], ℕ, suc, ◌-◌, ◌<◌, arith, length, drop, get_or, ℤ, pos, ◌+ℤ◌, w32, w64, SFits}
use mathlib.Core.Bool.{◌&&◌}
use lib.Bits.{bit_or}
use Rattle.whole.proofs.Fit.{fit_abs}
use Rattle.whole.proofs.Held.{back, Held, fits_code, held, arg, known, cast, wider, plus}
use Rattle.word.specs.Words.{Word, product_of}
use Rattle.word.specs.Exact.{exact_product, whole_at}
use Rattle.word.proofs.LooseLaws.{or_whole, whole_none}
use Rattle.stored.specs.Words.{value, values}
use Rattle.stored.proofs.ValuesLaws.{length-values, values_at}
use Rattle.polynomial.specs.Polynomial.{horner, PolynomialReady}
use Rattle.polynomial.specs.Exact.{polynomial_exact}
use Rattle.polynomial.proofs.WalkLaws.{horner-drop, horner_last, running_word, coefficient_word, product_word}
use Rattle.polynomial.proofs.ExactWalk.{exact-drop, exact_last}
use Rattle.polynomial.proofs.answer.Goals as goal

-- ---- over plain numbers: of the coefficients, the last; one at i; and the running word at i
record Ready (s : ℕ) (words : List (List ℕ)) (x : ℤ) : Type 0 where
  ready : PolynomialReady s (values words) x

module _ {s : ℕ} {words : List (List ℕ)} {x : ℤ} (r : Ready s words x) where
  abbrev ready : PolynomialReady s (values words) x
  ready = r.ready

  abbrev ws : List ℤ
  ws = values words

  count : length ws ≡ length words
  count = length-values words

  some : 0 < length words
  some = omega (arith, ready.2, count)

  run : (k : ℕ) → Word (horner s (drop k ws) x)
  run k = running_word s ws x ready.3 k

  read_is : (i : ℕ) → i < length words → (z : ℤ) → z ≡ value (get_or words i []) → Held w32 z (get_or ws i (pos 0))
  read_is i h z e = known (e ∙ sym (values_at words i h)) (fit_abs (omega (arith, coefficient_word s ws x ready.3 i (omega (arith, count)))))

  last_word : horner s (drop (length words - 1) ws) x ≡ get_or ws (length words - 1) (pos 0)
  last_word = subst (λ (k : ℕ). horner s (drop (k - 1) ws) x ≡ get_or ws (k - 1) (pos 0)) count (horner_last s ws x ready.2)

  last_mark : whole_at s 0 ≡ polynomial_exact s (drop (length words - 1) ws) x
  last_mark = whole_none s ∙ sym (subst (λ (k : ℕ). polynomial_exact s (drop (k - 1) ws) x ≡ true) count (exact_last s ws x ready.2))

  -- what one turn, at i, makes of the running word and of the mark
  module _ (i : ℕ) (h : i < length words) (above : 0 < i) where
    abbrev next : ℤ
    next = horner s (drop (i - 1) ws) x

    back_i : suc (i - 1) ≡ i
    back_i = omega arith

    next_is : next ≡ get_or ws (i - 1) (pos 0) +ℤ product_of s (horner s (drop i ws) x) x
    next_is = subst (λ (k : ℕ). next ≡ get_or ws (i - 1) (pos 0) +ℤ product_of s (horner s (drop k ws) x) x) back_i (horner-drop s ws (i - 1) x (omega (arith, count)))

    mark_is : polynomial_exact s (drop (i - 1) ws) x ≡ (polynomial_exact s (drop i ws) x && exact_product s (horner s (drop i ws) x) x)
    mark_is = subst (λ (k : ℕ). polynomial_exact s (drop (i - 1) ws) x ≡ (polynomial_exact s (drop k ws) x && exact_product s (horner s (drop k ws) x) x)) back_i (exact-drop s ws (i - 1) x (omega (arith, count)))

    product_fits : Word (product_of s (horner s (drop i ws) x) x)
    product_fits = subst (λ (k : ℕ). Word (product_of s (horner s (drop k ws) x) x)) back_i (product_word s ws x ready.3 (i - 1) (omega (arith, count)))

    -- y is the running word, z the coefficient, p the product
    sum_held : {y z p : ℤ} → y ≡ horner s (drop i ws) x → z ≡ value (get_or words (i - 1) []) → p ≡ product_of s y x → Held w64 (back w64 (back w32 z) +ℤ back w64 p) next
    sum_held {z = z} d e f =
        let fits : SFits w64 next = fit_abs (omega (arith, run (i - 1))) in
        let q = known {w = w64} (f ∙ ap (λ (k : ℤ). product_of s k x) d) (fit_abs (omega (arith, product_fits))) in
        known ((plus (wider tt (read_is (i - 1) (omega arith) z e)) q (subst (SFits w64) next_is fits)).eq ∙ sym next_is) fits

    stored_held : {y : ℤ} → Held w64 y next → Held w32 (back w64 y) next
    stored_held k = cast {w' = w32} k (fit_abs (omega (arith, run (i - 1))))

    mark_next : (l l' : ℕ) {y : ℤ} → y ≡ horner s (drop i ws) x → whole_at s l ≡ polynomial_exact s (drop i ws) x → whole_at s l' ≡ exact_product s y x → whole_at s (bit_or l l') ≡ polynomial_exact s (drop (i - 1) ws) x
    mark_next l l' d e f = or_whole s l l' ∙ ap₂ ◌&&◌ e (f ∙ ap (λ (k : ℤ). exact_product s k x) d) ∙ sym mark_is

-- x is there what a local reads back
read_back : {s : ℕ} {words : List (List ℕ)} {x : ℤ} → SFits w32 x → PolynomialReady s (values words) x → Ready s words (back w32 x)
read_back {s} {words} {x} f q = record { ready = subst (PolynomialReady s (values words)) (sym (held (arg f))) q }

-- ---- the goals
pub loop-i-init : goal.loop-i-init
loop-i-init c =
    let r = read_back c.ranges.x c.requires in
    let h : length c.args.words.now - 1 < length c.args.words.now = omega (arith, some r) in
    record {
      some_left = h;
      word = held (read_is r (length c.args.words.now - 1) h c.value-running.result c.value-running.ensures) ∙ sym (last_word r);
      mark = last_mark r;
    }

pub product-p-requires : goal.product-p-requires
product-p-requires c =
    let r = read_back c.ranges.x c.requires in
    (r.ready.0, subst Word (sym c.loop-i.invariant.word) (run r c.loop-i.i), r.ready.1)

pub overflow_add-running : goal.overflow_add-running
overflow_add-running c =
    let k = c.loop-i.invariant in
    fits_code (sum_held (read_back c.ranges.x c.requires) c.loop-i.i k.some_left c.loop-i-test.true k.word c.value.ensures c.product-p.ensures.value)

pub overflow_cast-running-in-loop-i : goal.overflow_cast-running-in-loop-i
overflow_cast-running-in-loop-i c =
    let r = read_back c.ranges.x c.requires in
    let k = c.loop-i.invariant in
    let i = c.loop-i.i in
    let above = c.loop-i-test.true in
    fits_code (stored_held r i k.some_left above (sum_held r i k.some_left above k.word c.value.ensures c.product-p.ensures.value))

pub loop-i-preserved : goal.loop-i-preserved
loop-i-preserved c =
    let r = read_back c.ranges.x c.requires in
    let k = c.loop-i.invariant in
    let i = c.loop-i.i in
    let above = c.loop-i-test.true in
    record {
      some_left = omega arith;
      word = held (stored_held r i k.some_left above (sum_held r i k.some_left above k.word c.value.ensures c.product-p.ensures.value));
      mark = mark_next r i k.some_left above c.loop-i.loose c.product-p.result.loose k.word k.mark c.product-p.ensures.mark;
    }
