-- A fraction's answer that is marked exact is the fraction's exact value. Where v is y/o and t is p/q, a step whose product and quotient are exact
-- gives b + a·(y/o)/(p/q); so it goes from b_k outward.
use Rattle.whole.proofs.Basics.{◌≡◌, ◌∙◌, sym, ap, subst, true, List, [], ◌∷◌, ℕ, suc, zero, ◌<◌, arith, ltb, ℤ, pos, ◌+ℤ◌, ◌*ℤ◌, lt-ltb}
use Rattle.whole.proofs.Diff.{v, n, ◌⊗◌, same}
use Rattle.whole.proofs.Ring.{ring, var, ◌:+◌, ◌:*◌}
use Rattle.word.specs.Words.{NotZero, unit, product_of, quotient_of}
use Rattle.word.specs.Exact.{exact_product, exact_quotient, square_exact}
use Rattle.word.specs.Lists.{All}
use Rattle.word.proofs.WordLaws.{unit-pos, not_zero_times}
use Rattle.word.proofs.ExactLaws.{product_exact, quotient_exact, both}
use Rattle.fraction.specs.Fraction.{b_at, a_after, at, first_of, rest_of, next_of, outward, fraction_of, outward_divisors, fraction_divisors}
use Rattle.fraction.specs.Exact.{step_exact, outward_exact, square_used, fraction_exact, Ratio, over_one, square, next_ratio, outward_ratio, fraction_ratio, Equals}

-- ---- one step, by three identities
taken_apart : (b z o p : ℤ) → (b +ℤ z) *ℤ (o *ℤ p) ≡ b *ℤ (o *ℤ p) +ℤ z *ℤ (o *ℤ p)
taken_apart b z o p = ring (b ∷ z ∷ o ∷ p ∷ []) ((var 0 :+ var 1) :* (var 2 :* var 3)) (var 0 :* (var 2 :* var 3) :+ var 1 :* (var 2 :* var 3)) tt

turned : (z t o q : ℤ) → z *ℤ (o *ℤ (t *ℤ q)) ≡ z *ℤ t *ℤ (o *ℤ q)
turned z t o q = ring (z ∷ t ∷ o ∷ q ∷ []) (var 0 :* (var 2 :* (var 1 :* var 3))) (var 0 :* var 1 :* (var 2 :* var 3)) tt

joined : (a w o q : ℤ) → a *ℤ w *ℤ (o *ℤ q) ≡ a *ℤ (w *ℤ o *ℤ q)
joined a w o q = ring (a ∷ w ∷ o ∷ q ∷ []) (var 0 :* var 1 :* (var 2 :* var 3)) (var 0 :* (var 1 :* var 2 :* var 3)) tt

-- w is y/o, t is p/q, and the product g of a and w and the quotient z of g by t are exact
module _ (a b w t g z y o p q : ℤ) (u : ℕ) (ew : w *ℤ o ≡ y) (et : t *ℤ q ≡ p) (eg : g *ℤ pos u ≡ a *ℤ w) (ez : z *ℤ t ≡ g *ℤ pos u) where
  quotient_is : z *ℤ (o *ℤ p) ≡ a *ℤ (y *ℤ q)
  quotient_is =
      ap (λ (k : ℤ). z *ℤ (o *ℤ k)) (sym et)
      ∙ turned z t o q
      ∙ ap (λ (k : ℤ). k *ℤ (o *ℤ q)) (ez ∙ eg)
      ∙ joined a w o q
      ∙ ap (λ (k : ℤ). a *ℤ (k *ℤ q)) ew

  sum_is : (b +ℤ z) *ℤ (o *ℤ p) ≡ b *ℤ (o *ℤ p) +ℤ a *ℤ (y *ℤ q)
  sum_is = taken_apart b z o p ∙ ap (λ (k : ℤ). b *ℤ (o *ℤ p) +ℤ k) quotient_is

top_apart : (t : ℤ) (r : Ratio) → NotZero t → Equals t r → NotZero r.top
top_apart t r f e = subst NotZero e.0 (not_zero_times t r.bottom f e.1)

next_equals :
    (s : ℕ) (a b w t : ℤ) (y r : Ratio)
    → step_exact s a w t ≡ true
    → NotZero t
    → Equals w y
    → Equals t r
    → Equals (next_of s a b w t) (next_ratio a b y r)
next_equals s a b w t y r m f ew et =
    let g = product_of s a w in
    let e = both (exact_product s a w) (exact_quotient s g t) m in
    let eg = product_exact s a w e.0 in
    let ez = quotient_exact s g t f e.1 in
    let sum = sum_is a b w t g (quotient_of s g t) y.top y.bottom r.top r.bottom (unit s) ew.0 et.0 eg ez in
    (sum, not_zero_times y.bottom r.top ew.1 (top_apart t r f et))

-- ---- the walk, where each v that it uses is exact
module _ (s : ℕ) (first rest : ℤ) (First Rest : Ratio) (ws : List ℤ) where
  outward_equals :
      (j : ℕ) (t : ℤ) (r : Ratio)
      → ((i : ℕ) → i < j → Equals (at first rest i) (at First Rest i))
      → outward_exact s first rest ws j t ≡ true
      → All NotZero (outward_divisors s first rest ws j t)
      → Equals t r
      → Equals (outward s first rest ws j t) (outward_ratio First Rest ws j r)
  unfolding outward outward_exact outward_divisors outward_ratio
  outward_equals zero t r used m f e = e
  outward_equals (suc i) t r used m f e =
      let a = a_after ws i in
      let b = b_at ws i in
      let w = at first rest i in
      let W = at First Rest i in
      let k = both (step_exact s a w t) (outward_exact s first rest ws i (next_of s a b w t)) m in
      let step = next_equals s a b w t W r k.0 f.0 (used i (omega arith)) e in
      outward_equals i (next_of s a b w t) (next_ratio a b W r) (λ j h. used j (omega arith)) k.1 f.1 step

-- ---- the v's of each mode
over_one_equals : (x : ℤ) → Equals x (over_one x)
over_one_equals x = (same (v x ⊗ n 1) (v x) (omega arith), omega arith)

square_equals : (s : ℕ) (x : ℤ) → exact_product s x x ≡ true → Equals (product_of s x x) (square s x)
square_equals s x e = (product_exact s x x e, unit-pos s)

at_equals : (a b : ℤ) (A B : Ratio) (i : ℕ) → Equals a A → Equals b B → Equals (at a b i) (at A B i)
at_equals a b A B zero f g = f
at_equals a b A B (suc i) f g = g

used_equals :
    (s mode k : ℕ) (x : ℤ)
    → square_exact (square_used mode k) s x ≡ true
    → (i : ℕ)
    → i < k
    → Equals
    (at (first_of mode x (product_of s x x)) (rest_of mode x (product_of s x x)) i)
    (at (first_of mode (over_one x) (square s x)) (rest_of mode (over_one x) (square s x)) i)
used_equals s zero k x e i h = at_equals x x (over_one x) (over_one x) i (over_one_equals x) (over_one_equals x)
used_equals s (suc zero) k x e i h = let q = product_of s x x in at_equals q q (square s x) (square s x) i (square_equals s x e) (square_equals s x e)
used_equals s (suc (suc m)) zero x e i h = absurd (omega arith)
used_equals s (suc (suc m)) (suc zero) x e zero h = over_one_equals x
used_equals s (suc (suc m)) (suc zero) x e (suc i) h = absurd (omega arith)
used_equals s (suc (suc m)) (suc (suc k)) x e i h =
    let u : ltb 1 (suc (suc k)) ≡ true = lt-ltb 1 (suc (suc k)) (omega arith) in
    at_equals x (product_of s x x) (over_one x) (square s x) i (over_one_equals x) (square_equals s x (rw u at e))

pub fraction_exact_lem :
    (s mode : ℕ) (ws : List ℤ) (k : ℕ) (x : ℤ)
    → All NotZero (fraction_divisors s mode ws k x)
    → fraction_exact s mode ws k x ≡ true
    → Equals (fraction_of s mode ws k x) (fraction_ratio s mode ws k x)
fraction_exact_lem s mode ws k x f m =
    let first = first_of mode x (product_of s x x) in
    let rest = rest_of mode x (product_of s x x) in
    let First = first_of mode (over_one x) (square s x) in
    let Rest = rest_of mode (over_one x) (square s x) in
    let t = b_at ws k in
    let b = both (square_exact (square_used mode k) s x) (outward_exact s first rest ws k t) m in
    outward_equals s first rest First Rest ws k t (over_one t) (used_equals s mode k x b.0) b.1 f (over_one_equals t)
