-- A record cut out of a sheet: how long it is, and the part of the slice that the code takes.
use Rattle.whole.proofs.Basics.{◌≡◌, List, ℕ, ◌+◌, ◌-◌, arith, length, take, drop}
use lib.ListN.{length-take, length-drop}
use Rattle.stored.specs.Numbers.{number4}
use Rattle.layout.specs.Fields.{bytes_at, Reaches}

pub length-bytes_at : (s : List ℕ) (at : ℕ) → Reaches s at → length (bytes_at s at) ≡ number4 s at
unfolding bytes_at
length-bytes_at s at f = simp (length-take, length-drop) (omega (arith, f.whole))

pub part_is : (s : List ℕ) (at n : ℕ) → n ≡ number4 s at → take (at + n - at) (drop at s) ≡ bytes_at s at
unfolding bytes_at
part_is s at n e =
    let f : at + n - at ≡ n = omega arith in
    rw (f, e)
