-- Identities of polynomials over ℤ, of any degree and any number of variables, by computing: both sides are written as a term `X` over numbered variables,
-- their difference is multiplied out, and `ring` asks that every coefficient is 0, which `tt` proves.
use Rattle.whole.proofs.Basics.{◌≡◌, ◌∙◌, refl, sym, ap, ap₂, Bool, true, false, List, [], ◌∷◌, ℕ, suc, zero, arith, T, eqb, ℤ, pos, negsuc, neg_ℤ, ◌+ℤ◌, ◌*ℤ◌}
use mathlib.Core.Bool.{◌&&◌}
use Prim.Native.Nat.{compare, Ordering}
use lib.Dec.{eqb→eq}
use lib.IntN.{+ℤ_idl, zero-*ℤ}
use Rattle.whole.proofs.Diff.{v, n, ◌⊕◌, ◌⊗◌, ⊖◌, same, same_out}

pub data X : Type 0 where
  var : ℕ → X
  num : ℤ → X
  add : X → X → X
  mul : X → X → X
  neg : X → X

abbrev pub nth : List ℤ → ℕ → ℤ
nth [] i = pos 0
nth (x ∷ ρ) zero = x
nth (x ∷ ρ) (suc i) = nth ρ i

abbrev pub den : X → List ℤ → ℤ
den (var i) ρ = nth ρ i
den (num k) ρ = k
den (add a b) ρ = den a ρ +ℤ den b ρ
den (mul a b) ρ = den a ρ *ℤ den b ρ
den (neg a) ρ = neg_ℤ (den a ρ)

-- ---- sums of monomials
abbrev mono : List ℕ → List ℤ → ℤ
mono [] ρ = pos 1
mono (i ∷ m) ρ = nth ρ i *ℤ mono m ρ

pub data Sum : Type 0 where
  none : Sum
  more : ℤ → List ℕ → Sum → Sum

abbrev total : Sum → List ℤ → ℤ
total none ρ = pos 0
total (more k m s) ρ = k *ℤ mono m ρ +ℤ total s ρ

abbrev pick : Ordering → List ℕ → List ℕ → List ℕ
pick Ordering.lt x y = x
pick Ordering.eq x y = x
pick Ordering.gt x y = y

abbrev ins : ℕ → List ℕ → List ℕ
ins i [] = i ∷ []
ins i (j ∷ m) = pick (compare i j) (i ∷ j ∷ m) (j ∷ ins i m)

abbrev join : List ℕ → List ℕ → List ℕ
join [] r = r
join (i ∷ m) r = ins i (join m r)

abbrev alike : List ℕ → List ℕ → Bool
alike [] [] = true
alike [] (j ∷ r) = false
alike (i ∷ m) [] = false
alike (i ∷ m) (j ∷ r) = eqb i j && alike m r

abbrev choose : Bool → Sum → Sum → Sum
choose true a b = a
choose false a b = b

abbrev put : ℤ → List ℕ → Sum → Sum
put k m none = more k m none
put k m (more j r s) = choose (alike m r) (more (k +ℤ j) r s) (more j r (put k m s))

abbrev plus : Sum → Sum → Sum
plus none t = t
plus (more k m s) t = put k m (plus s t)

abbrev scale : ℤ → List ℕ → Sum → Sum
scale k m none = none
scale k m (more j r s) = put (k *ℤ j) (join m r) (scale k m s)

abbrev times : Sum → Sum → Sum
times none t = none
times (more k m s) t = plus (scale k m t) (times s t)

abbrev flat : X → Sum
flat (var i) = more (pos 1) (i ∷ []) none
flat (num k) = more k [] none
flat (add a b) = plus (flat a) (flat b)
flat (mul a b) = times (flat a) (flat b)
flat (neg a) = scale (negsuc 0) [] (flat a)

abbrev is_zero : ℤ → Bool
is_zero (pos k) = eqb k 0
is_zero (negsuc k) = false

abbrev zeros : Sum → Bool
zeros none = true
zeros (more k m s) = is_zero k && zeros s

abbrev pub Same : X → X → Type 0
Same a b = T (zeros (plus (flat a) (scale (negsuc 0) [] (flat b))))

-- ---- what each step keeps
and_l : (b c : Bool) → T (b && c) → T b
and_l true c t = tt
and_l false c t = t

and_r : (b c : Bool) → T (b && c) → T c
and_r true c t = t
and_r false c t = absurd t

alike_eq : (m r : List ℕ) → T (alike m r) → m ≡ r
alike_eq [] [] t = refl
alike_eq [] (j ∷ r) t = absurd t
alike_eq (i ∷ m) [] t = absurd t
alike_eq (i ∷ m) (j ∷ r) t = ap₂ (λ (x : ℕ) (l : List ℕ). x ∷ l) (eqb→eq i j (and_l (eqb i j) (alike m r) t)) (alike_eq m r (and_r (eqb i j) (alike m r) t))

mono_pick : (o : Ordering) (x y : List ℕ) (ρ : List ℤ) (z : ℤ) → mono x ρ ≡ z → mono y ρ ≡ z → mono (pick o x y) ρ ≡ z
mono_pick Ordering.lt x y ρ z p q = p
mono_pick Ordering.eq x y ρ z p q = p
mono_pick Ordering.gt x y ρ z p q = q

swap : (a b c : ℤ) → a *ℤ (b *ℤ c) ≡ b *ℤ (a *ℤ c)
swap a b c = same (v a ⊗ (v b ⊗ v c)) (v b ⊗ (v a ⊗ v c)) (omega arith)

mono_ins : (i : ℕ) (m : List ℕ) (ρ : List ℤ) → mono (ins i m) ρ ≡ nth ρ i *ℤ mono m ρ
mono_ins i [] ρ = refl
mono_ins i (j ∷ m) ρ = mono_pick (compare i j) (i ∷ j ∷ m) (j ∷ ins i m) ρ (nth ρ i *ℤ (nth ρ j *ℤ mono m ρ)) refl (ap (λ (t : ℤ). nth ρ j *ℤ t) (mono_ins i m ρ) ∙ swap (nth ρ j) (nth ρ i) (mono m ρ))

one_mul : (a : ℤ) → pos 1 *ℤ a ≡ a
one_mul a = same (n 1 ⊗ v a) (v a) (omega arith)

assoc : (a b c : ℤ) → a *ℤ (b *ℤ c) ≡ a *ℤ b *ℤ c
assoc a b c = same (v a ⊗ (v b ⊗ v c)) (v a ⊗ v b ⊗ v c) (omega arith)

mono_join : (m r : List ℕ) (ρ : List ℤ) → mono (join m r) ρ ≡ mono m ρ *ℤ mono r ρ
mono_join [] r ρ = sym (one_mul (mono r ρ))
mono_join (i ∷ m) r ρ = mono_ins i (join m r) ρ ∙ ap (λ (t : ℤ). nth ρ i *ℤ t) (mono_join m r ρ) ∙ assoc (nth ρ i) (mono m ρ) (mono r ρ)

total_choose : (b : Bool) (x y : Sum) (ρ : List ℤ) (z : ℤ) → (T b → total x ρ ≡ z) → total y ρ ≡ z → total (choose b x y) ρ ≡ z
total_choose true x y ρ z p q = p tt
total_choose false x y ρ z p q = q

gather : (k j a t : ℤ) → (k +ℤ j) *ℤ a +ℤ t ≡ k *ℤ a +ℤ (j *ℤ a +ℤ t)
gather k j a t = same ((v k ⊕ v j) ⊗ v a ⊕ v t) (v k ⊗ v a ⊕ (v j ⊗ v a ⊕ v t)) (omega arith)

exchange : (a b t : ℤ) → a +ℤ (b +ℤ t) ≡ b +ℤ (a +ℤ t)
exchange a b t = same (v a ⊕ (v b ⊕ v t)) (v b ⊕ (v a ⊕ v t)) (omega arith)

total_put : (k : ℤ) (m : List ℕ) (s : Sum) (ρ : List ℤ) → total (put k m s) ρ ≡ k *ℤ mono m ρ +ℤ total s ρ
total_put k m none ρ = refl
total_put k m (more j r s) ρ =
    total_choose (alike m r) (more (k +ℤ j) r s) (more j r (put k m s)) ρ (k *ℤ mono m ρ +ℤ (j *ℤ mono r ρ +ℤ total s ρ))
    (λ t. gather k j (mono r ρ) (total s ρ) ∙ ap (λ (l : List ℕ). k *ℤ mono l ρ +ℤ (j *ℤ mono r ρ +ℤ total s ρ)) (sym (alike_eq m r t)))
    (ap (λ (t : ℤ). j *ℤ mono r ρ +ℤ t) (total_put k m s ρ) ∙ exchange (j *ℤ mono r ρ) (k *ℤ mono m ρ) (total s ρ))

add_assoc : (a b c : ℤ) → a +ℤ (b +ℤ c) ≡ a +ℤ b +ℤ c
add_assoc a b c = same (v a ⊕ (v b ⊕ v c)) (v a ⊕ v b ⊕ v c) (omega arith)

total_plus : (s t : Sum) (ρ : List ℤ) → total (plus s t) ρ ≡ total s ρ +ℤ total t ρ
total_plus none t ρ = sym (+ℤ_idl (total t ρ))
total_plus (more k m s) t ρ = total_put k m (plus s t) ρ ∙ ap (λ (z : ℤ). k *ℤ mono m ρ +ℤ z) (total_plus s t ρ) ∙ add_assoc (k *ℤ mono m ρ) (total s ρ) (total t ρ)

spread_out : (k j a b t : ℤ) → k *ℤ j *ℤ (a *ℤ b) +ℤ k *ℤ a *ℤ t ≡ k *ℤ a *ℤ (j *ℤ b +ℤ t)
spread_out k j a b t = ap (λ (z : ℤ). z +ℤ k *ℤ a *ℤ t) (four k j a b) ∙ together (k *ℤ a) (j *ℤ b) t
  where
    four : (k j a b : ℤ) → k *ℤ j *ℤ (a *ℤ b) ≡ k *ℤ a *ℤ (j *ℤ b)
    four k j a b = same (v k ⊗ v j ⊗ (v a ⊗ v b)) (v k ⊗ v a ⊗ (v j ⊗ v b)) (omega arith)

    together : (q r t : ℤ) → q *ℤ r +ℤ q *ℤ t ≡ q *ℤ (r +ℤ t)
    together q r t = same (v q ⊗ v r ⊕ v q ⊗ v t) (v q ⊗ (v r ⊕ v t)) (omega arith)

mul_zero : (a : ℤ) → pos 0 ≡ a *ℤ pos 0
mul_zero a = same (n 0) (v a ⊗ n 0) (omega arith)

total_scale : (k : ℤ) (m : List ℕ) (t : Sum) (ρ : List ℤ) → total (scale k m t) ρ ≡ k *ℤ mono m ρ *ℤ total t ρ
total_scale k m none ρ = mul_zero (k *ℤ mono m ρ)
total_scale k m (more j r s) ρ =
    total_put (k *ℤ j) (join m r) (scale k m s) ρ
    ∙ ap₂ (λ (a b : ℤ). k *ℤ j *ℤ a +ℤ b) (mono_join m r ρ) (total_scale k m s ρ)
    ∙ spread_out k j (mono m ρ) (mono r ρ) (total s ρ)

share : (a b t : ℤ) → a *ℤ t +ℤ b *ℤ t ≡ (a +ℤ b) *ℤ t
share a b t = same (v a ⊗ v t ⊕ v b ⊗ v t) ((v a ⊕ v b) ⊗ v t) (omega arith)

total_times : (s t : Sum) (ρ : List ℤ) → total (times s t) ρ ≡ total s ρ *ℤ total t ρ
total_times none t ρ = sym (zero-*ℤ (total t ρ))
total_times (more k m s) t ρ =
    total_plus (scale k m t) (times s t) ρ
    ∙ ap₂ ◌+ℤ◌ (total_scale k m t ρ) (total_times s t ρ)
    ∙ share (k *ℤ mono m ρ) (total s ρ) (total t ρ)

minus_one : (a : ℤ) → negsuc 0 *ℤ pos 1 *ℤ a ≡ neg_ℤ a
minus_one a = same (v (negsuc 0) ⊗ n 1 ⊗ v a) (⊖ v a) (omega arith)

flat_sound : (e : X) (ρ : List ℤ) → den e ρ ≡ total (flat e) ρ
flat_sound (var i) ρ = same (v (nth ρ i)) (n 1 ⊗ (v (nth ρ i) ⊗ n 1) ⊕ n 0) (omega arith)
flat_sound (num k) ρ = same (v k) (v k ⊗ n 1 ⊕ n 0) (omega arith)
flat_sound (add a b) ρ = ap₂ ◌+ℤ◌ (flat_sound a ρ) (flat_sound b ρ) ∙ sym (total_plus (flat a) (flat b) ρ)
flat_sound (mul a b) ρ = ap₂ ◌*ℤ◌ (flat_sound a ρ) (flat_sound b ρ) ∙ sym (total_times (flat a) (flat b) ρ)
flat_sound (neg a) ρ = ap neg_ℤ (flat_sound a ρ) ∙ sym (minus_one (total (flat a) ρ)) ∙ sym (total_scale (negsuc 0) [] (flat a) ρ)

zero_is : (k : ℤ) → T (is_zero k) → k ≡ pos 0
zero_is (pos k) t = ap pos (eqb→eq k 0 t)
zero_is (negsuc k) t = absurd t

zeros_is : (s : Sum) (ρ : List ℤ) → T (zeros s) → total s ρ ≡ pos 0
zeros_is none ρ t = refl
zeros_is (more k m s) ρ t =
    ap₂ (λ (a b : ℤ). a *ℤ mono m ρ +ℤ b) (zero_is k (and_l (is_zero k) (zeros s) t)) (zeros_is s ρ (and_r (is_zero k) (zeros s) t))
    ∙ ap (λ (z : ℤ). z +ℤ pos 0) (zero-*ℤ (mono m ρ))

from_difference : (a b d : ℤ) → d ≡ a +ℤ neg_ℤ b → d ≡ pos 0 → a ≡ b
from_difference a b d e z = same (v a) (v b) (omega (arith, same_out (v d) (v a ⊕ ⊖ v b) e, same_out (v d) (n 0) z))

pub ring : (ρ : List ℤ) (a b : X) → Same a b → den a ρ ≡ den b ρ
ring ρ a b t =
    from_difference (den a ρ) (den b ρ) (total (plus (flat a) (scale (negsuc 0) [] (flat b))) ρ)
    (total_plus (flat a) (scale (negsuc 0) [] (flat b)) ρ
    ∙ ap₂ ◌+ℤ◌ (sym (flat_sound a ρ)) (total_scale (negsuc 0) [] (flat b) ρ ∙ minus_one (total (flat b) ρ) ∙ ap neg_ℤ (sym (flat_sound b ρ))))
    (zeros_is (plus (flat a) (scale (negsuc 0) [] (flat b))) ρ t)

-- ---- how it is written: `var 0`, `var 1`, .. for the members of ρ, `lit 3` for a natural, `num z` for any whole number that is written out.
-- `pos a *ℤ pos b` computes to `pos (a * b)`, and so for sums: naturals stand in ρ as `pos a`
infixl 6 ◌:+◌ ◌:-◌
infixl 7 ◌:*◌
abbrev pub lit : ℕ → X
lit i = num (pos i)

abbrev pub ◌:+◌ : X → X → X
a :+ b = add a b

abbrev pub ◌:*◌ : X → X → X
a :* b = mul a b

abbrev pub ◌:-◌ : X → X → X
a :- b = add a (neg b)

-- an example
a_cube : (a b : ℤ) → (a +ℤ b) *ℤ (a +ℤ b) *ℤ (a +ℤ b) ≡ a *ℤ a *ℤ a +ℤ pos 3 *ℤ (a *ℤ a *ℤ b) +ℤ pos 3 *ℤ (a *ℤ b *ℤ b) +ℤ b *ℤ b *ℤ b
a_cube a b =
    let A = var 0 in
    let B = var 1 in
    ring (a ∷ b ∷ []) ((A :+ B) :* (A :+ B) :* (A :+ B)) (A :* A :* A :+ lit 3 :* (A :* A :* B) :+ lit 3 :* (A :* B :* B) :+ B :* B :* B) tt
