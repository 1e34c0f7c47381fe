-- A chain of faults, a link at a time.
use Rattle.whole.proofs.Basics.{◌≡◌, refl, sym, Bool, true, false, cond, ℕ, arith, eqb, eqb-true, eqb-false, eq-eqb, ne_eqb}
use Rattle.refusal.specs.Guard.{number_of, guard, or_else}
use Rattle.refusal.specs.declared.Fault.{Fault}
use Rattle.refusal.specs.declared.Fault.TheVariants.{BrokenOff, Length, Kind, Count, Order, Value, RangeLeft, DivisorZero, Surplus, Outside, Absent, NoRoom, NotFinite, Blank, NoSine}

-- code that stops at a fault, and code that goes past none
pub halts : {A : Type 0} {r a : ℕ} {x : A} (bad : ℕ → A) (ok : A) → r ≡ a → (r ≡ 0 → ⊥) → x ≡ bad r → x ≡ guard a bad ok
halts {r = r} bad ok e h f = rw (← e, ne_eqb r 0 h) f

pub goes : {A : Type 0} {r a : ℕ} {x ok : A} (bad : ℕ → A) → r ≡ a → r ≡ 0 → x ≡ ok → x ≡ guard a bad ok
goes {r = r} bad e z f = rw (← e, eq-eqb r 0 z) f

pub stop : {r a : ℕ} (b : ℕ) → r ≡ a → (r ≡ 0 → ⊥) → r ≡ or_else a b
stop b e h = halts (λ (n : ℕ). n) b e h refl

pub pass : {r a s b : ℕ} → r ≡ a → r ≡ 0 → s ≡ b → s ≡ or_else a b
pass e z f = goes (λ (n : ℕ). n) e z f

-- the same of what a check answers: it stops at a fault, which is never 0, and goes past none
pub fault_some : (f : Fault) → number_of f ≡ 0 → ⊥
fault_some BrokenOff e = absurd (omega arith)
fault_some Length e = absurd (omega arith)
fault_some Kind e = absurd (omega arith)
fault_some Count e = absurd (omega arith)
fault_some Order e = absurd (omega arith)
fault_some Value e = absurd (omega arith)
fault_some RangeLeft e = absurd (omega arith)
fault_some DivisorZero e = absurd (omega arith)
fault_some Surplus e = absurd (omega arith)
fault_some Outside e = absurd (omega arith)
fault_some Absent e = absurd (omega arith)
fault_some NoRoom e = absurd (omega arith)
fault_some NotFinite e = absurd (omega arith)
fault_some Blank e = absurd (omega arith)
fault_some NoSine e = absurd (omega arith)

pub err_stops : (f : Fault) {a : ℕ} (b : ℕ) → number_of f ≡ a → number_of f ≡ or_else a b
err_stops f b e = stop b e (fault_some f)

pub ok_passes : {a n b : ℕ} → 0 ≡ a → n ≡ b → n ≡ or_else a b
ok_passes e f = pass e refl f

-- a chain may be cut anywhere
pub or_assoc : (a b c : ℕ) → or_else (or_else a b) c ≡ or_else a (or_else b c)
or_assoc a b c = at (eqb a 0) refl
  where
    at : (t : Bool) → eqb a 0 ≡ t → cond (eqb (cond t b a) 0) c (cond t b a) ≡ cond t (cond (eqb b 0) c b) a
    at true e = refl
    at false e = rw e refl

-- no fault behind the first adds nothing
pub or_none : (a : ℕ) → or_else a 0 ≡ a
or_none a = at (eqb a 0) refl
  where
    at : (t : Bool) → eqb a 0 ≡ t → cond t 0 a ≡ a
    at true e = sym (eqb-true a 0 e)
    at false e = refl

-- ---- and back: what it says that there is no fault

-- a test whose true side is a fault did not hold
pub passed : (t : Bool) (a b : ℕ) → (a ≡ 0 → ⊥) → cond t a b ≡ 0 → (t ≡ false) × (b ≡ 0)
passed true a b h e = absurd (h e)
passed false a b h e = (refl, e)

-- a test whose false side is a fault did hold
pub met : (t : Bool) (a b : ℕ) → (b ≡ 0 → ⊥) → cond t a b ≡ 0 → (t ≡ true) × (a ≡ 0)
met true a b h e = (refl, e)
met false a b h e = absurd (h e)

pub neither : (a b : ℕ) → or_else a b ≡ 0 → (a ≡ 0) × (b ≡ 0)
neither a b e = at (eqb a 0) refl e
  where
    at : (t : Bool) → eqb a 0 ≡ t → cond t b a ≡ 0 → (a ≡ 0) × (b ≡ 0)
    at true h p = (eqb-true a 0 h, p)
    at false h p = absurd (eqb-false a 0 h p)
