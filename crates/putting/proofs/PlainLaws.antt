-- The words that a formula keeps without the fields that its kind has not are its own.
use Rattle.whole.proofs.Basics.{◌≡◌, subst, ℕ, ◌≤◌, length, take}
use lib.Seq.{length-take-le}
use Rattle.formula.specs.declared.Formula.{Formula}
use Rattle.formula.specs.Formula.{word_count}
use Rattle.table.specs.declared.Row.{Row}
use Rattle.layout.specs.Fields.{padded, words_by, words_in}
use Rattle.putting.specs.Plain.{plain_shape, plain_by}
use Rattle.layout.proofs.Padded.{take-padded}

-- how many words are left
abbrev pub plain_count : Row → Formula → ℕ
plain_count r f = word_count (plain_shape r f.shape).kind (plain_shape r f.shape).p (plain_shape r f.shape).q

-- they are the formula's own
pub plain_words : (r : Row) (f : Formula) → plain_count r f ≤ length f.words → words_in (plain_by r f) ≡ words_by (plain_shape r f.shape) f.words
unfolding plain_by
plain_words r f h =
    let m = plain_count r f in
    subst (λ (k : ℕ). take k (padded (take m f.words)) ≡ take m f.words) (length-take-le m f.words h) (take-padded (take m f.words))
