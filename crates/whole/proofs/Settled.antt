-- What a contract settles, and that it asks nothing of its caller. Both are said over the contract itself: `Asked` is what a caller owes, `Learnt` what it learns.
use Rattle.whole.proofs.Basics.{◌≡◌, List, ℕ}
use contract.Lifetimes.{Lfts}
use borrow.Fn.Kinds.{ParamKind, ResultKind, In, Out, Dens, ended_of, res_t}
use denote.Triple.Clauses.{AtExit}

abbrev pub AsksNothing : {n : ℕ} (ps : List (ParamKind n)) → In n ps → Type 0
AsksNothing {n} ps Q = (κs : Lfts n) (a : Dens κs ps) → Q κs a

-- what is settled: any reading `f` of the result and of the buffers at exit
abbrev pub SettledBy : {n : ℕ} (ps : List (ParamKind n)) (r : ResultKind n) → Out n ps r → (B : Type 0) → ((κs : Lfts n) → (res_t r κs).Denot → AtExit (ended_of n ps r) κs → B) → Type 0
SettledBy {n} ps r C B f =
    (κs : Lfts n) (a : Dens κs ps) (x y : (res_t r κs).Denot) (s t : AtExit (ended_of n ps r) κs)
    → C κs a x s → C κs a y t → f κs x s ≡ f κs y t

-- two results that satisfy the contract, for the same arguments, are equal
abbrev pub Settled : {n : ℕ} (ps : List (ParamKind n)) (r : ResultKind n) → Out n ps r → Type 0
Settled {n} ps r C =
    (κs : Lfts n) (a : Dens κs ps) (x y : (res_t r κs).Denot) (s t : AtExit (ended_of n ps r) κs)
    → C κs a x s → C κs a y t → x ≡ y
