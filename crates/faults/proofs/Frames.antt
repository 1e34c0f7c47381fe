-- What it says that a record stands in its frame.
use Rattle.whole.proofs.Basics.{◌≡◌, List, ℕ, ◌-◌, ◌≤◌, arith, ltb, length, ltb-false}
use Rattle.stored.specs.Numbers.{number4}
use Rattle.layout.specs.Fields.{Reaches}
use Rattle.faults.specs.Faults.{frame_fault}
use Rattle.faults.proofs.Chain.{passed}

pub record Framed (s : List ℕ) (at : ℕ) : Type 0 where
  pub some : 4 ≤ length s - at
  pub least : 8 ≤ number4 s at
  pub most : number4 s at ≤ 120
  pub whole : number4 s at ≤ length s - at

pub framed : (s : List ℕ) (at : ℕ) → frame_fault s at ≡ 0 → Framed s at
unfolding frame_fault
framed s at e =
    let a = passed (ltb (length s - at) 4) 1 _ (λ z. omega arith) e in
    let b = passed (ltb (number4 s at) 8) 2 _ (λ z. omega arith) a.1 in
    let c = passed (ltb 120 (number4 s at)) 2 _ (λ z. omega arith) b.1 in
    let d = passed (ltb (length s - at) (number4 s at)) 1 0 (λ z. omega arith) c.1 in
    record { some = ltb-false _ _ a.0; least = ltb-false _ _ b.0; most = ltb-false _ _ c.0; whole = ltb-false _ _ d.0 }

pub reaches : (s : List ℕ) (at : ℕ) → Framed s at → Reaches s at
reaches s at f = record { number = omega (arith, f.some); whole = omega (arith, f.some, f.whole) }
