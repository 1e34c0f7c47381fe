-- `root::root` meets its contract: the scaled word is short enough for `heron`, and what that gives is the root, whose square the mark looks at.
use Rattle.whole.proofs.Basics.{◌≡◌, ◌∙◌, ap, ap₂, ℕ, ◌*◌, ◌^◌, ◌<◌, arith, eqb, ℤ, nat_abs, w32, SFits}
use Rattle.whole.proofs.Held.{back, held_nat, arg}
use Rattle.word.specs.Words.{unit}
use Rattle.word.proofs.WordLaws.{scaled_most}
use Rattle.root.specs.Root.{Rootable, root_of}
use Rattle.root.specs.declared.Rooted.{Rooted}
use Rattle.root.proofs.RootLaws.{root_most}
use Rattle.root.proofs.HeronLaws.{heron_is}
use Rattle.root.proofs.root.Goals as goal

module _ (v s : ℕ) (x : ℤ) (f : SFits w32 x) (e : v ≡ nat_abs (back w32 x) * unit s) where
  v-is : v ≡ nat_abs x * unit s
  v-is = e ∙ ap (λ (k : ℕ). k * unit s) (held_nat (arg f))

  v-most : Rootable s x → v < 2 ^ 60
  v-most r = omega (arith, v-is, scaled_most (nat_abs x) s (omega (arith, r.1)) r.0.most)

pub heron-r-requires : goal.heron-r-requires
heron-r-requires c = v-most c.scaled-v.result c.args.s c.args.x c.ranges.x c.scaled-v.ensures c.requires

pub overflow_cast-root : goal.overflow_cast-root
overflow_cast-root c =
    let v = c.scaled-v.result in
    let e = ap (λ (r : Rooted). r.root) c.heron-r.ensures ∙ heron_is v in
    record { fits = omega (arith, e, root_most v (v-most v c.args.s c.args.x c.ranges.x c.scaled-v.ensures c.requires)) }

pub returns-clause-mark : goal.returns-clause-mark
returns-clause-mark c =
    let v = c.scaled-v.result in
    let e = v-is v c.args.s c.args.x c.ranges.x c.scaled-v.ensures in
    ap₂ eqb
    (c.long_times.ensures ∙ ap (λ (k : ℕ). k * k) (ap (λ (r : Rooted). r.root) c.heron-r.ensures ∙ heron_is v ∙ ap root_of e))
    e
