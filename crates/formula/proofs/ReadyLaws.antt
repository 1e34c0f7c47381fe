-- An answerable argument is what its kind's own function asks for.
use Rattle.whole.proofs.Basics.{◌≡◌, refl, subst, List, ℕ, ◌≤◌, ◌<◌, arith, length, take, drop, ℤ}
use lib.Seq.{length-take-le}
use Rattle.whole.proofs.Order.{≤ℤ_trans}
use Rattle.root.specs.Root.{Rootable}
use Rattle.polynomial.specs.Polynomial.{PolynomialReady}
use Rattle.polynomial.proofs.WalkLaws.{in_range_less}
use Rattle.polynomial.proofs.StaysInRange.{polynomial_in_range}
use Rattle.odd_even.specs.OddEven.{EvenReady, OddReady}
use Rattle.odd_even.proofs.StaysInRange as odd_even
use Rattle.rational.specs.Rational.{RationalReady}
use Rattle.fraction.specs.Ready.{FractionReady}
use Rattle.formula.specs.Formula.{most_of, admission_by, word_count, RootInterval, Answerable}
use Rattle.formula.specs.declared.Kind.{Kind}
use Rattle.formula.specs.declared.Kind.TheVariants.{Polynomial, Rational, Fraction, Root, Odd, Even}
use Rattle.formula.specs.declared.Shape.{Shape}
use Rattle.formula.proofs.SoundLaws.{counts_at, room_at, length_second}
use Rattle.formula.proofs.StaysInRange.{x_most, x_word}
use Rattle.admission.specs.Admission.{granted}

module _ (s : ℕ) (h : Shape) (ws : List ℤ) (x : ℤ) (a : Answerable s h ws x) where
  admitted_at : (k : Kind) → h.kind ≡ k → admission_by k s (most_of a.lo a.hi) h.p h.q h.mode ws ≡ granted
  admitted_at k e = subst (λ (j : Kind). admission_by j s (most_of a.lo a.hi) h.p h.q h.mode ws ≡ granted) e a.admitted

  -- a kind whose words are one list has one or more
  some : (k : Kind) → word_count k h.p h.q ≡ h.p → 1 ≤ h.p → h.kind ≡ k → 0 < length (take h.p ws)
  some k n c e = let room = room_at h a.lo a.hi ws a.sound k e in omega (arith, length-take-le h.p ws (omega (arith, room, n)))

  pub polynomial_ready : h.kind ≡ Polynomial → PolynomialReady s (take h.p ws) x
  polynomial_ready e =
      let ranged = polynomial_in_range s (most_of a.lo a.hi) (take h.p ws) (admitted_at Polynomial e) in
      (a.scale, x_word s h ws x a, some Polynomial refl (counts_at h a.lo a.hi ws a.sound Polynomial e).0 e, in_range_less s _ (most_of a.lo a.hi) (take h.p ws) (x_most s h ws x a) ranged)

  pub rational_ready : h.kind ≡ Rational → RationalReady s (take h.p ws) (take h.q (drop h.p ws)) x
  rational_ready e =
      let room = room_at h a.lo a.hi ws a.sound Rational e in
      let counts = counts_at h a.lo a.hi ws a.sound Rational e in
      let n = length-take-le h.p ws (omega arith) in
      let m = length_second h.p h.q ws room in
      (a.scale, x_word s h ws x a, omega (arith, n, counts), omega (arith, m, counts), record { most = most_of a.lo a.hi; within = x_most s h ws x a; admitted = admitted_at Rational e })

  pub fraction_ready : h.kind ≡ Fraction → FractionReady s h.mode ws h.p x
  fraction_ready e =
      record {
        scale = a.scale;
        words = a.sound.words;
        room = omega (arith, room_at h a.lo a.hi ws a.sound Fraction e);
        x_word = x_word s h ws x a;
        most = most_of a.lo a.hi;
        within = x_most s h ws x a;
        admitted = admitted_at Fraction e;
      }

  pub root_ready : h.kind ≡ Root → Rootable s x
  root_ready e = (a.scale, x_word s h ws x a, ≤ℤ_trans (subst (λ (j : Kind). RootInterval j a.lo) e a.sound.rooted) a.above)

  pub odd_ready : h.kind ≡ Odd → OddReady s (take h.p ws) x
  odd_ready e = odd_even.odd_ready s (most_of a.lo a.hi) (take h.p ws) x (x_most s h ws x a) a.scale (x_word s h ws x a) (some Odd refl (counts_at h a.lo a.hi ws a.sound Odd e).0 e) (admitted_at Odd e)

  pub even_ready : h.kind ≡ Even → EvenReady s (take h.p ws) x
  even_ready e = odd_even.even_ready s (most_of a.lo a.hi) (take h.p ws) x (x_most s h ws x a) a.scale (x_word s h ws x a) (some Even refl (counts_at h a.lo a.hi ws a.sound Even e).0 e) (admitted_at Even e)
