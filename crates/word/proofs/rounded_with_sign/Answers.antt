-- `word::rounded_with_sign` meets its contract: the sum with the half fits, and `half_shift` and `rounded_sign` say what is made of it.
use Rattle.whole.proofs.Basics.{◌≡◌, ◌∙◌, sym, ap, ℕ, ◌+◌, ◌-◌, ◌*◌, ◌/◌, ◌^◌, ◌<◌, arith, pos, w64}
use native.Mathlib.Nat.{pow-succ', div-le_self}
use lib.Pow.{pow_pos, pow-lt}
use Rattle.whole.proofs.Diff.{n}
use Rattle.whole.proofs.Fit.{fit}
use Rattle.whole.proofs.Held.{Held, held, arg, given}
use Rattle.word.specs.Words.{with_sign}
use Rattle.word.proofs.NearestLaws.{half_shift}
use Rattle.word.proofs.RoundedLaws.{rounded_sign}
use Rattle.word.proofs.rounded_with_sign.Goals as goal

halved : (cut : ℕ) → 0 < cut → 2 * 2 ^ (cut - 1) ≡ 2 ^ cut
halved cut h = sym (pow-succ' 2 (cut - 1)) ∙ ap (λ (k : ℕ). 2 ^ k) (omega arith)

pub returns : goal.returns
returns c =
    let t = c.args.sign in
    let size = c.args.size in
    let half = c.power_of_two-half.result in
    let d = 2 ^ c.args.cut in
    let most : size + half < 2 ^ 63 = omega (arith, c.power_of_two-half.ensures, pow-lt {i = c.args.cut - 1} {j = 62} (omega (arith, c.requires.2)), c.requires.0) in
    let shifted : Held w64 (pos ((size + half) / d)) (pos ((size + half) / d)) = arg (fit (n ((size + half) / d)) (omega (arith, div-le_self (size + half) d, most))) in
    held (given {w = w64} {x = c.with_sign.result} c.with_sign.type_inv)
    ∙ c.with_sign.ensures
    ∙ ap (with_sign t) (held shifted ∙ ap pos (half_shift size half d (pow_pos c.args.cut) (omega (arith, c.power_of_two-half.ensures, halved c.args.cut c.requires.1))))
    ∙ sym (rounded_sign t size d)
