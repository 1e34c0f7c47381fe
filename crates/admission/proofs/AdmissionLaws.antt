-- When a test of admission refuses, when it passes, and what an admitted chain says of each test: by the test's two cases.
use Rattle.whole.proofs.Basics.{◌≡◌, refl, ap, Bool, true, false, cond, ℕ, ◌≤◌, ◌<◌, arith, ltb, ltb-false, lt-ltb, le-ltb}
use Rattle.word.specs.Words.{largest}
use Rattle.admission.specs.Admission.{admission_number, ranged, apart, Admission, granted, range_left, divisor_zero}
use Rattle.std.specs.Prelude.{Err, Ok}

pub ranged_yes : (n : ℕ) (a : Admission) → largest < n → ranged n a ≡ range_left
ranged_yes n a h = ap (λ (b : Bool). cond b range_left a) (lt-ltb largest n h)

pub ranged_no : (n : ℕ) (a : Admission) → n ≤ largest → ranged n a ≡ a
ranged_no n a h = ap (λ (b : Bool). cond b range_left a) (le-ltb largest n h)

pub apart_yes : (l : ℕ) (a : Admission) → l < 1 → apart l a ≡ divisor_zero
apart_yes l a h = ap (λ (b : Bool). cond b divisor_zero a) (lt-ltb l 1 h)

pub apart_no : (l : ℕ) (a : Admission) → 1 ≤ l → apart l a ≡ a
apart_no l a h = ap (λ (b : Bool). cond b divisor_zero a) (le-ltb l 1 h)

-- ---- of an admitted chain: a test that refuses with any answer but `granted` was passed
passed : (b : Bool) (r a : Admission) → 0 < admission_number r → cond b r a ≡ granted → (b ≡ false) × (a ≡ granted)
passed true r a h e = absurd (omega (arith, ap admission_number e))
passed false r a h e = (refl, e)

pub ranged_out : (n : ℕ) (a : Admission) → ranged n a ≡ granted → (n ≤ largest) × (a ≡ granted)
ranged_out n a e = let r = passed (ltb largest n) range_left a (omega arith) e in (ltb-false largest n r.0, r.1)

pub apart_out : (l : ℕ) (a : Admission) → apart l a ≡ granted → (1 ≤ l) × (a ≡ granted)
apart_out l a e = let r = passed (ltb l 1) divisor_zero a (omega arith) e in (ltb-false l 1 r.0, r.1)

-- neither 7 nor 8 is an admission
pub left_not : range_left ≡ granted → ⊥
left_not e = absurd (omega (arith, ap admission_number e))

pub zero_not : divisor_zero ≡ granted → ⊥
zero_not e = absurd (omega (arith, ap admission_number e))
