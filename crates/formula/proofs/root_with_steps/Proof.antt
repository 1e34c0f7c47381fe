-- `formula::root_with_steps` meets its contract: what Heron's rule ends with is the root, and a word, and the mark is the root's own.
use Rattle.whole.proofs.Basics.{◌≡◌, ◌∙◌, ap, ap₂, sym, subst, ℕ, ◌*◌, arith, ℤ, pos, nat_abs, w32, SFits}
use Rattle.whole.proofs.Diff.{n}
use Rattle.whole.proofs.Fit.{fit}
use Rattle.whole.proofs.Held.{back, held, arg}
use Rattle.word.specs.Words.{unit}
use Rattle.word.proofs.WordLaws.{scaled_most}
use Rattle.root.specs.Root.{Rootable, root_of, root_word, exact_root}
use Rattle.root.specs.Heron.{rooted, heron_of, rooted_by}
use Rattle.root.specs.declared.Rooted.{Rooted}
use Rattle.root.proofs.RootLaws.{root_most}
use Rattle.root.proofs.HeronLaws.{heron_is}
use Rattle.formula.specs.Formula.{worked}
use Rattle.formula.proofs.root_with_steps.Statement.{statement}
use Rattle.formula.proofs.root_with_steps.Tie as tie

x-is : (c : tie.Start) → back w32 c.args.x ≡ c.args.x
x-is c = held (arg c.ranges.x)

root-requires : tie.Need-root-r-requires
root-requires c κs = subst (Rootable c.args.s) (sym (x-is c)) c.requires

module _ (c : tie.After-root-r) where
  abbrev v : ℕ
  v = nat_abs c.args.x * unit c.args.s

  rooted-is : rooted c.root-r.result.root c.root-r.result.steps ≡ heron_of v
  rooted-is = c.root-r.ensures.0 ∙ ap (rooted_by c.args.s) (x-is c.before)

  root_is : c.root-r.result.root ≡ root_of v
  root_is = ap (λ (r : Rooted). r.root) rooted-is ∙ heron_is v

  root-fits : SFits w32 (pos c.root-r.result.root)
  root-fits = fit (n c.root-r.result.root) (omega (arith, root_is, root_most v (scaled_most (nat_abs c.args.x) c.args.s (omega (arith, c.requires.1)) c.requires.0.most)))

  answer_is : worked (back w32 (pos c.root-r.result.root)) c.root-r.result.steps c.root-r.result.exact ≡ worked (root_word c.args.s c.args.x) (rooted_by c.args.s c.args.x).steps (exact_root c.args.s c.args.x)
  answer_is =
      ap₂ (λ (w : ℤ) (k : ℕ). worked w k c.root-r.result.exact) (held (arg root-fits) ∙ ap pos root_is) (ap (λ (r : Rooted). r.steps) rooted-is)
      ∙ ap (worked (root_word c.args.s c.args.x) (rooted_by c.args.s c.args.x).steps) (c.root-r.ensures.1 ∙ ap (exact_root c.args.s) (x-is c.before))

returns : tie.Need-returns
returns c = answer_is c.before

pub root_with_steps_spec : {M : Type 1} → statement M
root_with_steps_spec = tie.close (tie.spec root-requires (λ c. root-fits c.before) returns)
