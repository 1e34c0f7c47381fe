-- Laws of `All` and of `Words` over joined lists: by induction along the first.
use Rattle.whole.proofs.Basics.{List, [], ◌∷◌, ◌++◌, suc, zero, ℤ}
use Rattle.word.specs.Lists.{All, Words}

pub all_append : (p : ℤ → Type 0) (a b : List ℤ) → All p a → All p b → All p (a ++ b)
all_append p [] b f g = g
all_append p (z ∷ a) b f g = (f.0, all_append p a b f.1 g)

pub words_append : (a b : List ℤ) → Words a → Words b → Words (a ++ b)
words_append [] b f g i = g i
words_append (z ∷ a) b f g zero = f 0
words_append (z ∷ a) b f g (suc i) = words_append a b (λ j. f (suc j)) g i
