-- `root::heron` meets its contract. The invariant, of w = less + 1: its size leaves room for the sum, and from it on the rule comes to the same end.
use Rattle.whole.proofs.Basics.{◌≡◌, ◌∙◌, sym, ap, subst, ℕ, suc, ◌+◌, ◌-◌, ◌^◌, ◌≤◌, ◌<◌, arith}
use native.Mathlib.Nat.{div-le_self}
use Rattle.root.specs.Heron.{start, next, rooted, heron_of}
use Rattle.root.proofs.HeronLaws.{next-pos, start_above, start-pos, start_most, falls}
use Rattle.root.proofs.LeftLaws.{Left, left_first, left_next, left_last, left_counted}
use Rattle.root.proofs.FewSteps.{steps_most}
use Rattle.root.proofs.heron.Statement.{statement}
use Rattle.root.proofs.heron.Tie as tie

abbrev Midst : ℕ → ℕ → ℕ → Type 0
Midst v w n = (0 < w) × (w ≤ 2 ^ 30) × Left v w n

abbrev invariant-loop : tie.invariant-loop-w
invariant-loop v less₀ steps₀ less steps = Midst v (less + 1) steps

abbrev decreases-loop : tie.decreases-loop-w
decreases-loop v less₀ steps₀ less steps = less

-- as the code has them: a number above 0 is one more than one less, and a step more is one more
as-coded : (v w n : ℕ) → Midst v w (suc n) → Midst v (w - 1 + 1) (n + 1)
as-coded v w n i = subst (λ (u : ℕ). Midst v u (n + 1)) (omega (arith, i.0)) (subst (Midst v w) (omega arith) i)

-- ---- a step, and the first, which falls since the start is above the root
onward : (v w n : ℕ) → 0 < v → Midst v w n → next v w < w → Midst v (next v w) (suc n)
onward v w n p i h = (next-pos v w p i.0, omega (arith, i.1), left_next v w n h i.2)

first : (v : ℕ) → 0 < v → v < 2 ^ 60 → Midst v (next v (start v)) 1
first v p h = onward v (start v) 0 p (start-pos v, omega (arith, start_most v h), left_first v p) (falls v (start v) (start_above v))

few : (v w n : ℕ) → v < 2 ^ 60 → Midst v w n → n ≤ 7
few v w n h i = omega (arith, left_counted v w n i.2, steps_most v h)

started : (c : tie.After-first_step-less invariant-loop decreases-loop) → Midst c.before.before.args.v c.first_step-less.result 1
started c =
    let v = c.before.before.args.v in
    subst (λ (w : ℕ). Midst v w 1) (sym c.first_step-less.ensures) (first v (omega (arith, c.before.if-v-eq0.false)) c.before.before.requires)

again : (c : tie.Else-w-q invariant-loop decreases-loop) → Midst c.before.before.before.before.args.v (next c.before.before.before.before.args.v (c.before.loop-w.less + 1)) (suc c.before.loop-w.steps)
again c =
    let l = c.before.loop-w in
    onward c.before.before.before.before.args.v (l.less + 1) l.steps (omega (arith, c.before.before.before.if-v-eq0.false)) l.invariant (omega (arith, c.if-w-q.false))

-- ---- the needs
returns : tie.Need-returns-then-v-eq0 invariant-loop decreases-loop
returns c = sym (ap heron_of c.if-v-eq0.true)

loop-holds : tie.Need-loop-w-init invariant-loop decreases-loop
loop-holds c = as-coded c.before.before.args.v _ 0 (started c)

add-steps : tie.Need-overflow_add-steps invariant-loop decreases-loop
add-steps c = let d = c.before.before.before in record { fits = omega (arith, few d.args.v (c.loop-w.less + 1) c.loop-w.steps d.requires c.loop-w.invariant) }

add-less : tie.Need-overflow_add-less invariant-loop decreases-loop
add-less c =
    let l = c.before.loop-w in
    let d = c.before.before.before.before in
    record { fits = omega (arith, l.invariant.1, d.requires, div-le_self d.args.v (l.less + 1)) }

loop-less : tie.Need-loop-w-smaller invariant-loop decreases-loop
loop-less c = omega (arith, c.if-w-q.false, (again c).0)

loop-again : tie.Need-loop-w-preserved invariant-loop decreases-loop
loop-again c = as-coded c.before.before.before.before.args.v _ _ (again c)

returns-2 : tie.Need-returns invariant-loop decreases-loop
returns-2 c =
    let v = c.before.before.before.before.args.v in
    let l = c.before.loop-w in
    let one : l.steps + 1 ≡ suc l.steps = omega arith in
    ap (rooted (l.less + 1)) one ∙ left_last v (l.less + 1) l.steps l.invariant.0 (omega (arith, c.if-w-q.true)) l.invariant.2

pub heron_spec : {M : Type 1} → statement M
heron_spec =
    tie.close
    (tie.spec
    invariant-loop
    decreases-loop
    returns
    (λ c κs. c.before.requires)
    (λ c. (started c).0)
    loop-holds
    (λ c. record { fits = omega (arith, c.loop-w.invariant.1) })
    (λ c. record { fits = omega (arith, c.loop-w.invariant.1) })
    (λ c. c.loop-w.invariant.0)
    add-steps
    add-less
    (λ c. (again c).0)
    (λ c. record { fits = omega (arith, (again c).1) })
    loop-less
    loop-again
    returns-2)
