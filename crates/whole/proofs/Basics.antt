-- What nearly every proof takes from the kit, passed on under one name: equality, truth, lists, naturals and whole numbers,
-- what a local holds, and what a test tells.
pub use mathlib.Core.Path.{◌≡◌, ◌∙◌, refl, sym, ap, ap₂, subst}
pub use mathlib.Core.Bool.{Bool, true, false, cond, not}
pub use mathlib.Core.Logic.{◌⊎◌, inl, inr}
pub use mathlib.Core.List.{List, [], ◌∷◌, ◌++◌, append_assoc, append-nil}
pub use Prim.Native.Nat.{ℕ, suc, zero, ◌+◌, ◌-◌, ◌*◌, ◌/◌, ◌%◌, ◌^◌, ◌≤◌, ◌<◌}
pub use native.Mathlib.Omega.{arith}
pub use lib.Dec.{T, eqb, ltb, leb}
pub use lib.ListN.{length, take, drop, get_or, length-append}
pub use lib.IntN.{ℤ, pos, negsuc, nat_abs, neg_ℤ, ◌+ℤ◌, ◌-ℤ◌, ◌*ℤ◌}
pub use lib.Signed.{◌≤ℤ◌, ◌<ℤ◌, lt_z}
pub use mir.Syntax.{w32, w64}
pub use mir.Val.{SFits, to_z, of_z}
pub use mir.Facts.{to_z-of_z}
pub use borrow.Author.Rules.{rules}
pub use borrow.Author.Tests.{eqb-true, eqb-false, ltb-true, ltb-false, eq-eqb, ne_eqb, lt-ltb, le-ltb}
