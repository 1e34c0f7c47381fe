-- Admission of a fraction, step by step, as the code meets it.
use Rattle.whole.proofs.Basics.{◌≡◌, refl, Bool, true, false, cond, List, ℕ, suc, zero, ◌+◌, ◌-◌, ◌*◌, ◌≤◌, ◌<◌, arith, eqb, ltb, length, get_or, ℤ, pos, nat_abs, eqb-true, eqb-false, ltb-false, le-ltb}
use native.Mathlib.Nat.{mul-le-mul, mul-le-mul_left}
use lib.ListN.{get_or-eq_default}
use lib.Pow.{pow_mono}
use Rattle.word.specs.Words.{Word, Scale, unit, bound_product, bound_quotient}
use Rattle.word.proofs.RoundedLaws.{up_least}
use Rattle.admission.specs.Admission.{Admission, granted, range_left, divisor_zero, ranged}
use Rattle.fraction.specs.Fraction.{b_at, a_after, at, first_of}
use Rattle.fraction.specs.Admission.{g_bound, q_bound, admit_from, admit_inner, fraction_admission}
use Rattle.fraction_admission.specs.Terms.{judged_term}
use Rattle.std.specs.Prelude.{None, Option, Some}

-- a bound quotient of words leaves room for a sum in 64 bits
pub quotient_most : (s a d : ℕ) → Scale s → a ≤ 2147483647 → 0 < d → bound_quotient s a d ≤ 576460752034988032
quotient_most s a d h f g =
    let u = unit s in
    let k : u ≤ 268435456 = omega (arith, pow_mono {i = s} {j = 28} h.most) in
    let m : a * u ≤ 576460752034988032 = omega (arith, mul-le-mul f k) in
    let z : a * u * 1 ≤ a * u * d = mul-le-mul_left (a * u) g in
    let c = up_least (a * u) d (a * u) g (omega arith) in
    omega arith

beyond_not : {l : ℕ} → None ≡ Some l → ⊥
beyond_not e = let z : ◌≡◌ {A = ℕ} 0 1 = cc in omega arith

-- a term that leaves something stands between words
pub judged_least : (s : ℕ) (a b : ℤ) (v L l : ℕ) → judged_term s a b v L ≡ Some l → Word a × Word b
judged_least s a b v L l e = at (ltb 2147483647 (nat_abs a)) refl (ltb 2147483647 (g_bound s a v)) (ltb 2147483647 (nat_abs b + q_bound s a v L)) refl e
  where
    at : (t : Bool) → ltb 2147483647 (nat_abs a) ≡ t → (u w : Bool) → ltb 2147483647 (nat_abs b + q_bound s a v L) ≡ w
        → cond t None (cond u None (cond w None (Some (nat_abs b - q_bound s a v L)))) ≡ Some l → Word a × Word b
    at true h u w k e = absurd (beyond_not e)
    at false h true w k e = absurd (beyond_not e)
    at false h false true k e = absurd (beyond_not e)
    at false h false false k e = (ltb-false 2147483647 (nat_abs a) h, omega (arith, ltb-false 2147483647 (nat_abs b + q_bound s a v L) k))

-- ---- the walk: what a term's bound says of it, at j = i + 1
abbrev pub after_term : ℕ → ℕ → ℕ → List ℤ → ℕ → Option ℕ → Admission
after_term s first rest ws i (Some l) = admit_from s first rest ws i l
after_term s first rest ws i None = range_left

module _ (s first rest : ℕ) (ws : List ℤ) (j L : ℕ) where
  pub walk_done : j ≡ 0 → granted ≡ admit_from s first rest ws j L
  unfolding admit_from
  walk_done e = rw e

  module _ (i : ℕ) (e : j ≡ suc i) where
    pub walk_zero : L ≡ 0 → divisor_zero ≡ admit_from s first rest ws j L
    unfolding admit_from
    walk_zero h = rw (e, h)

    pub walk_step : Word (a_after ws i) → 0 < L → (r : Option ℕ) → r ≡ judged_term s (a_after ws i) (b_at ws i) (at first rest i) L → admit_from s first rest ws j L ≡ after_term s first rest ws i r
    unfolding admit_from
    walk_step w h r f =
        let a = a_after ws i in
        let b = nat_abs (b_at ws i) in
        let v = at first rest i in
        rw (e, f, le-ltb 2147483647 (nat_abs a) w, le-ltb L 1 (omega arith))
        (joined (ltb 2147483647 (g_bound s a v)) (ltb 2147483647 (b + q_bound s a v L)) (b - q_bound s a v L))
      where
        joined : (t u : Bool) (l : ℕ) → cond t range_left (cond u range_left (admit_from s first rest ws i l)) ≡ after_term s first rest ws i (cond t None (cond u None (Some l)))
        joined true u l = refl
        joined false true l = refl
        joined false false l = refl

-- ---- every number from a place on is a word
abbrev pub WordsFrom : List ℤ → ℕ → Type 0
WordsFrom ws n = (i : ℕ) → n ≤ i → Word (get_or ws i (pos 0))

-- the last one, behind which there is none
pub none_behind : (ws : List ℤ) (n : ℕ) → length ws ≡ n + 1 → Word (get_or ws n (pos 0)) → WordsFrom ws n
none_behind ws n e h i g = at (eqb i n) refl
  where
    at : (t : Bool) → eqb i n ≡ t → Word (get_or ws i (pos 0))
    at true q = rw (eqb-true i n q) h
    at false q = rw (get_or-eq_default ws (pos 0) {n = i} (let d = eqb-false i n q in omega (arith, e))) (omega arith)

-- and two more in front: b_i and a_(i+1)
pub two_more : (ws : List ℤ) (i : ℕ) → Word (a_after ws i) → Word (b_at ws i) → WordsFrom ws (suc i + suc i) → WordsFrom ws (i + i)
two_more ws i a b h k g = at (eqb k (i + i)) refl (eqb k (i + i + 1)) refl
  where
    at : (t : Bool) → eqb k (i + i) ≡ t → (u : Bool) → eqb k (i + i + 1) ≡ u → Word (get_or ws k (pos 0))
    at true q u r = rw (eqb-true k (i + i) q) b
    at false q true r = rw (eqb-true k (i + i + 1) r) a
    at false q false r = h k (let d = eqb-false k (i + i) q in let e = eqb-false k (i + i + 1) r in omega arith)

-- ---- by the mode
pub mode_more : (s A mode : ℕ) (ws : List ℤ) (k S : ℕ) → ¬ (mode ≡ 0) → S ≡ bound_product s A A → fraction_admission s A mode ws k ≡ ranged S (admit_inner s (first_of mode A S) S ws k)
mode_more s A zero ws k S h e = absurd (h refl)
mode_more s A (suc m) ws k S h e = rw e
