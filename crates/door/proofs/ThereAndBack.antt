-- Theorem: a word shown as a double and taken again is itself, and marked exact: the double's value is w / 2^s.
use Rattle.whole.proofs.Basics.{◌≡◌, ◌∙◌, sym, ap, Bool, true, ℕ, ℤ, pos, nat_abs, ◌*ℤ◌}
use lib.Ieee.{Float, nan, inf, fin, down}
use lib.Ieee.Exact.{HasValue}
use Rattle.word.specs.Words.{Word, unit, below_zero, with_sign}
use Rattle.word.proofs.SignLaws.{sign_mul, sign_back}
use Rattle.door.specs.Exact.{Exactly}
use Rattle.door.specs.Taken.{took, numerator, taken_of, ValueIs}
use Rattle.door.proofs.ExactArgument.{exact_taken}

own_value : (s : ℕ) (w : ℤ) (x : Float) → HasValue x (below_zero w) (nat_abs w) (unit s) → ValueIs s x w
own_value s w nan h = elim h [ ]
own_value s w (inf _) h = elim h [ ]
own_value s w (fin t m e) h =
    ap (λ (z : ℤ). z *ℤ pos (down e)) (sym (sign_back w))
    ∙ sign_mul (below_zero w) (pos (nat_abs w)) (down e)
    ∙ ap (λ (k : ℕ). with_sign (below_zero w) (pos k)) (sym h.1)
    ∙ ap (λ (b : Bool). numerator s b m e) (sym h.0)

pub there_and_back : (s : ℕ) (w : ℤ) (x : Float) → Word w → Exactly s w x → taken_of s x ≡ took w true
there_and_back s w x small h = exact_taken s x w (own_value s w x h.value) small
