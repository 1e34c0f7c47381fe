-- Which numbers a formula's values give: 6 of what is stored, then 14, then 7 or 8 of admission; over any set that has these.
use Rattle.whole.proofs.Basics.{List, ℕ, ℤ}
use Rattle.admission.specs.Admission.{admission_number, Admission}
use Rattle.admission.specs.declared.NotAdmitted.TheVariants.{RangeLeft, DivisorZero}
use Rattle.formula.specs.declared.Shape.{Shape}
use Rattle.formula.specs.Formula.{admission_of}
use Rattle.table.specs.declared.Row.{Row}
use Rattle.faults.proofs.FaultSets.{Fault, none, first, words-set, own-set, blank-set}
use Rattle.records.specs.Records.{value_fault}
use Rattle.std.specs.Prelude.{Err, Ok}

module _ (l : List ℕ) (six : Fault l 6) (fourteen : Fault l 14) (seven : Fault l 7) (eight : Fault l 8) where
  admission_set : (a : Admission) → Fault l (admission_number a)
  admission_set (Ok _) = none l
  admission_set (Err RangeLeft) = seven
  admission_set (Err DivisorZero) = eight

  pub value_set : (s : ℕ) (r : Row) (h : Shape) (lo hi : ℤ) (ws : List ℤ) → Fault l (value_fault s r h lo hi ws)
  unfolding value_fault
  value_set s r h lo hi ws = first l _ _ (own-set l six r h lo hi) (first l _ _ (words-set l six ws) (first l _ _ (blank-set l fourteen h ws) (admission_set (admission_of s h lo hi ws))))
