-- Promise: the paper's number and place are the same whichever way a refusal is shown, and the values, steps and mark those of the answer.
use Rattle.whole.proofs.Basics.{◌≡◌, refl, ap, Bool, ℕ, ℤ}
use Rattle.formula.specs.declared.Formula.{Formula}
use Rattle.door.specs.Exact.{Exactly}
use Rattle.refusal.specs.declared.Refusal.{Refusal}
use Rattle.answering.specs.Answering.{evaluation_steps, evaluation_exact, answered, Evaluation}
use Rattle.desk.specs.Desk.{shown_value, shown_steps, shown_exact, interval_low, interval_high, ShownAs, IntervalAs, Showing, Interval}
use Rattle.sheet.specs.Reader.{Reading}
use Rattle.refusal.specs.Guard.{refused_number, refused_place}
use Rattle.std.specs.Prelude.{Err, Ok}

-- the door's refusal is the evaluation's
pub shown_number_lem : (s : ℕ) (e : Evaluation) (x : Showing) → ShownAs s e x → (refused_number x ≡ refused_number e) × (refused_place x ≡ refused_place e)
shown_number_lem s (Ok w) (Ok a) p = (refl, refl)
shown_number_lem s (Ok w) (Err r) p = absurd p
shown_number_lem s (Err q) (Ok a) p = absurd p
shown_number_lem s (Err q) (Err r) p = (ap (λ (z : Refusal). z.number) p, ap (λ (z : Refusal). z.place) p)

-- so are its steps and its mark, and its value is the answer word's
pub shown_steps_lem : (s : ℕ) (e : Evaluation) (x : Showing) → ShownAs s e x → shown_steps x ≡ evaluation_steps e
shown_steps_lem s (Ok w) (Ok a) p = p.1
shown_steps_lem s (Ok w) (Err r) p = absurd p
shown_steps_lem s (Err q) (Ok a) p = absurd p
shown_steps_lem s (Err q) (Err r) p = refl

pub shown_exact_lem : (s : ℕ) (e : Evaluation) (x : Showing) → ShownAs s e x → shown_exact x ≡ evaluation_exact e
shown_exact_lem s (Ok w) (Ok a) p = p.2
shown_exact_lem s (Ok w) (Err r) p = absurd p
shown_exact_lem s (Err q) (Ok a) p = absurd p
shown_exact_lem s (Err q) (Err r) p = refl

pub shown_value_lem : (s : ℕ) (w : ℤ) (n : ℕ) (t : Bool) (x : Showing) → ShownAs s (answered w n t) x → (refused_number x ≡ 0) × (refused_place x ≡ 0) × Exactly s w (shown_value x) × (shown_steps x ≡ n) × (shown_exact x ≡ t)
shown_value_lem s w n t (Ok a) p = (refl, refl, p.0, p.1, p.2)
shown_value_lem s w n t (Err r) p = absurd p

-- the ends are those of the formula
pub interval_ends : (s : ℕ) (f : Formula) (i : Interval) → IntervalAs s (Ok f) i → (refused_number i ≡ 0) × (refused_place i ≡ 0) × Exactly s f.lo (interval_low i) × Exactly s f.hi (interval_high i)
interval_ends s f (Ok e) p = (refl, refl, p.0, p.1)
interval_ends s f (Err r) p = absurd p

-- the interval's refusal is the reader's
pub interval_number_lem : (s : ℕ) (r : Reading) (i : Interval) → IntervalAs s r i → (refused_number i ≡ refused_number r) × (refused_place i ≡ refused_place r)
interval_number_lem s (Ok f) (Ok e) p = (refl, refl)
interval_number_lem s (Ok f) (Err r) p = absurd p
interval_number_lem s (Err q) (Ok e) p = absurd p
interval_number_lem s (Err q) (Err r) p = (ap (λ (z : Refusal). z.number) p, ap (λ (z : Refusal). z.place) p)
