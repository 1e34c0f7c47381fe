-- `polynomial::bound` meets its contract: a turn gives the bound of the coefficients from i - 1 on.
use Rattle.whole.proofs.Basics.{◌≡◌, ◌∙◌, sym, ap, ap₂, List, [], ℕ, ◌+◌, ◌-◌, ◌*◌, ◌≤◌, ◌<◌, arith, length, drop, get_or, ℤ, nat_abs, w32}
use native.Mathlib.Nat.{mul-le-mul}
use Rattle.whole.proofs.Held.{back, held_nat, given}
use lib.Signed.{mag}
use Rattle.word.specs.Words.{bound_product}
use Rattle.stored.specs.Words.{value, values}
use Rattle.stored.proofs.ValuesLaws.{length-values, values_at}
use Rattle.polynomial.specs.Polynomial.{bound_of, bounded}
use Rattle.polynomial.proofs.BoundLaws.{bound_none, bound_turn, bounded_yes, bounded_no, beyond_first, bound_product_most}
use Rattle.polynomial.proofs.bound.Goals as goal
use Rattle.std.specs.Prelude.{Some}

module _ (s most : ℕ) (words : List (List ℕ)) (i : ℕ) (below : i ≤ length words) (above : 0 < i) where
  abbrev ws : List ℤ
  ws = values words

  -- c is the coefficient before i, a its size and p the bound product
  turned : (low a p : ℕ) (c : ℤ) → mag c < 2147483648 → c ≡ value (get_or words (i - 1) []) → a ≡ nat_abs (back w32 c) → p ≡ bound_product s low most → bound_of s most (drop i ws) ≡ Some low → bound_of s most (drop (i - 1) ws) ≡ bounded (a + p)
  turned low a p c f e g h k =
      bound_turn s most ws i (i - 1) low _ (omega arith) (omega (arith, length-values words)) k
      (ap₂ ◌+◌ (g ∙ held_nat (given {w = w32} {x = c} f) ∙ ap nat_abs (e ∙ sym (values_at words (i - 1) (omega arith)))) h)

pub loop-i-init : goal.loop-i-init
loop-i-init c =
    let ws = values c.args.words.now in
    record {
      inside = omega arith;
      word = omega arith;
      low = ap (λ (k : ℕ). bound_of c.args.s c.args.most (drop k ws)) (sym (length-values c.args.words.now)) ∙ bound_none c.args.s c.args.most ws;
    }

pub overflow_add-n : goal.overflow_add-n
overflow_add-n c =
    let low = c.loop-i.low in
    let most = c.args.most in
    let k : most ≤ 4294967295 = omega arith in
    let m : low * most ≤ 2147483647 * 4294967295 = mul-le-mul c.loop-i.invariant.word k in
    record { fits = omega (arith, c.magnitude.type_inv, c.bound_product.ensures, bound_product_most c.args.s low most) }

pub returns-then-n-gt-LARGEST : goal.returns-then-n-gt-LARGEST
returns-then-n-gt-LARGEST c =
    let k = c.loop-i.invariant in
    let words = c.args.words.now in
    let t = turned c.args.s c.args.most words c.loop-i.i k.inside c.loop-i-test.true c.loop-i.low _ _ c.value-c.result c.value-c.type_inv c.value-c.ensures c.magnitude.ensures c.bound_product.ensures k.low in
    sym (beyond_first c.args.s c.args.most (values words) (c.loop-i.i - 1) (omega (arith, length-values words)) (t ∙ bounded_yes _ c.if-n-gt-LARGEST.true))

pub loop-i-preserved : goal.loop-i-preserved
loop-i-preserved c =
    let k = c.loop-i.invariant in
    let t = turned c.args.s c.args.most c.args.words.now c.loop-i.i k.inside c.loop-i-test.true c.loop-i.low _ _ c.value-c.result c.value-c.type_inv c.value-c.ensures c.magnitude.ensures c.bound_product.ensures k.low in
    record { inside = omega arith; word = c.if-n-gt-LARGEST.false; low = t ∙ bounded_no _ c.if-n-gt-LARGEST.false }
