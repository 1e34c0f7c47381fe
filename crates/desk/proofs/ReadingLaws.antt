-- From the place that the reader answers to the interval that is given.
use Rattle.whole.proofs.Basics.{◌≡◌, refl, sym, subst, List, ℕ}
use Rattle.refusal.specs.declared.Refusal.{Refusal}
use Rattle.sheet.specs.Reader.{formula_place, formula_at, read_at, formula_read, Place}
use Rattle.desk.specs.Desk.{IntervalAs, Interval}
use Rattle.std.specs.Prelude.{Err, Ok}

module _ (s : ℕ) (bytes : List ℕ) (n : ℕ) where
  pub ends_at : (k : ℕ) (i : Interval) → formula_place s bytes n ≡ Ok k → IntervalAs s (Ok (formula_at bytes k)) i → IntervalAs s (formula_read s bytes n) i
  unfolding formula_read
  ends_at k i e h = subst (λ (p : Place). IntervalAs s (read_at bytes p) i) (sym e) h

  pub ends_refused : (q : Refusal) → formula_place s bytes n ≡ Err q → IntervalAs s (formula_read s bytes n) (Err q)
  unfolding formula_read
  ends_refused q e = subst (λ (p : Place). IntervalAs s (read_at bytes p) (Err q)) (sym e) refl
