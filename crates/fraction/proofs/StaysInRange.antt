-- Demand 3 for continued fractions: of an admitted one, at every argument of the interval, each number on the way is a word and no divisor is 0.
use Rattle.whole.proofs.Basics.{◌≡◌, List, ℕ, suc, zero, ◌+◌, ◌-◌, ◌≤◌, arith, ℤ, nat_abs}
use Rattle.whole.proofs.Order.{abs_add, abs_least}
use Rattle.word.specs.Words.{Word, NotZero, product_of, quotient_of, bound_product}
use Rattle.word.proofs.WordLaws.{product_within, square_within, quotient_within}
use Rattle.word.specs.Lists.{All}
use Rattle.admission.proofs.AdmissionLaws.{ranged_out, apart_out}
use Rattle.fraction.specs.Fraction.{b_at, a_after, at, first_of, rest_of, next_of, outward_numbers, outward_divisors, fraction_numbers, fraction_divisors}
use Rattle.fraction.specs.Admission.{g_bound, q_bound, admit_from, fraction_admission}
use Rattle.fraction.specs.Ready.{OutwardReady, FractionReady}
use Rattle.fraction.proofs.WalkLaws.{at_size}
use Rattle.admission.specs.Admission.{granted}

-- ---- the walk: first and rest are bounded by F and R, and what stands at depth j is of size L or more
module _ (s : ℕ) (first rest : ℤ) (F R : ℕ) (ws : List ℤ) (f : nat_abs first ≤ F) (g : nat_abs rest ≤ R) where
  pub outward_stays : (j L : ℕ) (t : ℤ) → L ≤ nat_abs t → admit_from s F R ws j L ≡ granted → All Word (outward_numbers s first rest ws j t) × All NotZero (outward_divisors s first rest ws j t)
  unfolding admit_from outward_numbers outward_divisors
  outward_stays zero L t h e = (tt, tt)
  outward_stays (suc i) L t h e =
      let a = a_after ws i in
      let b = b_at ws i in
      let v = at first rest i in
      let B = at F R i in
      let apart = apart_out L _ e in
      let term = ranged_out (g_bound s a B) _ apart.1 in
      let sum = ranged_out (nat_abs b + q_bound s a B L) _ term.1 in
      let p = product_within s a v (nat_abs a) B (omega arith) (at_size i first rest F R f g) in
      let q = quotient_within s (product_of s a v) t (g_bound s a B) L apart.0 p h in
      let u = next_of s a b v t in
      let onward = outward_stays i (nat_abs b - q_bound s a B L) u (omega (arith, abs_least b (quotient_of s (product_of s a v) t))) sum.1 in
      ((omega (arith, term.0), (omega (arith, sum.0), (omega (arith, sum.0, abs_add b (quotient_of s (product_of s a v) t)), onward.0))), (omega (arith, apart.0), onward.1))

-- ---- by the mode
first_size : (m s A : ℕ) (x : ℤ) → nat_abs x ≤ A → nat_abs (first_of m x (product_of s x x)) ≤ first_of m A (bound_product s A A)
first_size zero s A x h = h
first_size (suc zero) s A x h = square_within s A x h
first_size (suc (suc m)) s A x h = h

pub fraction_stays : (s A mode : ℕ) (ws : List ℤ) (k : ℕ) (x : ℤ) → nat_abs x ≤ A → fraction_admission s A mode ws k ≡ granted → All Word (fraction_numbers s mode ws k x) × All NotZero (fraction_divisors s mode ws k x)
fraction_stays s A zero ws k x h e = outward_stays s x x A A ws h h k (nat_abs (b_at ws k)) (b_at ws k) (omega arith) e
fraction_stays s A (suc m) ws k x h e =
    let S = bound_product s A A in
    let q = product_of s x x in
    let r = ranged_out S _ e in
    let z = outward_stays s (first_of (suc m) x q) q (first_of (suc m) A S) S ws (first_size (suc m) s A x h) (square_within s A x h) k (nat_abs (b_at ws k)) (b_at ws k) (omega arith) r.1 in
    ((omega (arith, square_within s A x h, r.0), z.0), z.1)

-- ---- what the code asks for: the walk from b_k is ready
pub rest_word : (s mode : ℕ) (ws : List ℤ) (k : ℕ) (x : ℤ) → FractionReady s mode ws k x → Word (rest_of mode x (product_of s x x))
rest_word s zero ws k x r = r.x_word
rest_word s (suc m) ws k x r = (fraction_stays s r.most (suc m) ws k x r.within r.admitted).0.0

first_word : (m : ℕ) (x q : ℤ) → Word x → Word (rest_of m x q) → Word (first_of m x q)
first_word zero x q f g = f
first_word (suc zero) x q f g = g
first_word (suc (suc m)) x q f g = f

walk_stays : (s mode : ℕ) (ws : List ℤ) (k : ℕ) (x : ℤ) → FractionReady s mode ws k x → All Word (outward_numbers s (first_of mode x (product_of s x x)) (rest_of mode x (product_of s x x)) ws k (b_at ws k))
walk_stays s zero ws k x r = (fraction_stays s r.most zero ws k x r.within r.admitted).0
walk_stays s (suc m) ws k x r = (fraction_stays s r.most (suc m) ws k x r.within r.admitted).0.1

pub walk_ready : (s mode : ℕ) (ws : List ℤ) (k : ℕ) (x : ℤ) → FractionReady s mode ws k x → OutwardReady s (first_of mode x (product_of s x x)) (rest_of mode x (product_of s x x)) ws k (b_at ws k)
walk_ready s mode ws k x r =
    let w = rest_word s mode ws k x r in
    record {
      scale = r.scale;
      words = r.words;
      room = omega (arith, r.room);
      first_word = first_word mode x (product_of s x x) r.x_word w;
      rest_word = w;
      t_word = r.words (k + k);
      numbers = walk_stays s mode ws k x r;
      divisors = (fraction_stays s r.most mode ws k x r.within r.admitted).1;
    }
