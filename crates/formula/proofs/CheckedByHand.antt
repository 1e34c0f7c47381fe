-- Every row of the table gives what the paper says.
use Rattle.whole.proofs.Basics.{◌≡◌, refl}
use mathlib.Core.List.{map}
use Rattle.word.specs.Rounded.{rounded, rounded_up}
use Rattle.root.specs.Root.{root_in}
use Rattle.polynomial.specs.Polynomial.{horner, bound, bound_of}
use Rattle.fraction.specs.Fraction.{outward}
use Rattle.fraction.specs.Admission.{admit_from}
use Rattle.formula.specs.Checked.{found, paper, table}

pub checked : map found table ≡ map paper table
unfolding rounded rounded_up horner bound bound_of outward admit_from root_in
checked = refl
