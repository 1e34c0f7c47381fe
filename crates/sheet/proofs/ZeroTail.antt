-- Promise: an accepted sheet whose last bytes became zeros, two or more of them, is refused; one or none changes no byte. For the last two
-- bytes are the count, from 1 to 64, of which the second is zero and the first is not.
use Rattle.whole.proofs.Basics.{◌≡◌, ◌∙◌, sym, ap, ◌⊎◌, inl, inr, List, ◌++◌, append_assoc, ℕ, ◌+◌, ◌-◌, ◌≤◌, ◌<◌, arith, length, take, get_or, length-append}
use lib.ListN.{replicate, length-replicate, get_or-replicate, get_or-append}
use lib.Seq.{ext_get_or, get_or-take, length-take-le, get_or-append-add}
use Rattle.stored.specs.Numbers.{number2}
use Rattle.table.proofs.Rule.{end_length}
use Rattle.layout.specs.Fields.{code_of, row_for, shape_of}
use Rattle.faults.proofs.Lengths.{laid}
use Rattle.records.specs.Sheets.{in_line}
use Rattle.sheet.specs.Reader.{Accepted, NotAccepted}
use Rattle.sheet.proofs.WhichRefusals.{accepted_or_refused}
use Rattle.sheet.proofs.AcceptedShape.{accepted_shape}
use Rattle.sheet.proofs.CutShort.{before_or_not}

-- the bytes from place k on set to zero
abbrev pub zeroed : ℕ → List ℕ → List ℕ
zeroed k bytes = take k bytes ++ replicate (length bytes - k) 0

-- ---- the last two bytes of an accepted sheet are its count, which is 1 to 64

record LastBytes (bytes : List ℕ) : Type 0 where
  eight : 8 ≤ length bytes
  low : 1 ≤ get_or bytes (length bytes - 2) 0
  high : get_or bytes (length bytes - 1) 0 ≡ 0

last_bytes : (s : ℕ) (bytes : List ℕ) → Accepted s bytes → LastBytes bytes
unfolding number2
last_bytes s bytes a =
    let h = accepted_shape s bytes a in
    let pre = h.start ++ in_line h.formulas in
    let b = h.finish in
    let r = h.closes.0 in
    let e : bytes ≡ pre ++ b = h.whole ∙ sym (append_assoc h.start (in_line h.formulas) b) in
    let n : length b ≡ 8 = sym (laid (row_for b) b r.exact).exact ∙ end_length (code_of b) r.class (shape_of (row_for b) b).p (shape_of (row_for b) b).q in
    let l : length bytes ≡ length pre + 8 = ap length e ∙ length-append pre b ∙ ap (λ (x : ℕ). length pre + x) n in
    let i : length bytes - 2 ≡ length pre + 6 = omega (arith, l) in
    let j : length bytes - 1 ≡ length pre + 7 = omega (arith, l) in
    let x : get_or bytes (length bytes - 2) 0 ≡ get_or b 6 0 = ap (λ (n : ℕ). get_or bytes n 0) i ∙ ap (λ (t : List ℕ). get_or t (length pre + 6) 0) e ∙ get_or-append-add pre b 6 0 in
    let y : get_or bytes (length bytes - 1) 0 ≡ get_or b 7 0 = ap (λ (n : ℕ). get_or bytes n 0) j ∙ ap (λ (t : List ℕ). get_or t (length pre + 7) 0) e ∙ get_or-append-add pre b 7 0 in
    let c = h.closes.1 in
    record {
      eight = omega (arith, l);
      low = omega (arith, x, c, h.opens.2, h.opens.3);
      high = omega (arith, y, c, h.opens.2, h.opens.3);
    }

-- ---- what zeros do

module _ (k : ℕ) (bytes : List ℕ) (h : k ≤ length bytes) where
  length-zeroed : length (zeroed k bytes) ≡ length bytes
  length-zeroed = rw (length-append (take k bytes) (replicate (length bytes - k) 0), length-take-le k bytes h, length-replicate {A = ℕ} (length bytes - k) 0) (omega arith)

  kept : (i : ℕ) → i < k → get_or (zeroed k bytes) i 0 ≡ get_or bytes i 0
  kept i g = get_or-append (take k bytes) (replicate (length bytes - k) 0) 0 i (rw (length-take-le k bytes h) g) ∙ get_or-take k bytes i 0 g

  zero_from : (i : ℕ) → k ≤ i → i < length bytes → get_or (zeroed k bytes) i 0 ≡ 0
  zero_from i g f =
      let d : i ≡ length (take k bytes) + (i - k) = rw (length-take-le k bytes h) (omega arith) in
      ap (λ (x : ℕ). get_or (zeroed k bytes) x 0) d ∙ get_or-append-add (take k bytes) (replicate (length bytes - k) 0) (i - k) 0 ∙ get_or-replicate (length bytes - k) (i - k) 0 0 (omega arith)

  -- the byte before the last is not zero, so a tail that has it is seen; the last one is zero already
  reached : LastBytes (zeroed k bytes) → length bytes < k + 2
  reached d = at (before_or_not (length bytes) (k + 2))
    where
      at : (length bytes < k + 2) ⊎ (k + 2 ≤ length bytes) → length bytes < k + 2
      at (inl g) = g
      at (inr g) = absurd (omega (arith, rw length-zeroed at d.low, zero_from (length bytes - 2) (omega (arith, g)) (omega (arith, g))))

  same : LastBytes bytes → length bytes < k + 2 → zeroed k bytes ≡ bytes
  same b g = ext_get_or 0 (zeroed k bytes) bytes length-zeroed (λ i f. at i (rw length-zeroed at f) (before_or_not i k))
    where
      at : (i : ℕ) → i < length bytes → (i < k) ⊎ (k ≤ i) → get_or (zeroed k bytes) i 0 ≡ get_or bytes i 0
      at i f (inl l) = kept i l
      at i f (inr l) = let j : i ≡ length bytes - 1 = omega (arith, g, f, l) in zero_from i l f ∙ sym (rw j b.high)

-- two zeros or more at the end, up to the whole sheet
pub zero_tail : (s : ℕ) (bytes : List ℕ) (k : ℕ) → Accepted s bytes → k + 2 ≤ length bytes → NotAccepted s (zeroed k bytes)
zero_tail s bytes k a h = at (accepted_or_refused s (zeroed k bytes))
  where
    at : Accepted s (zeroed k bytes) ⊎ NotAccepted s (zeroed k bytes) → NotAccepted s (zeroed k bytes)
    at (inl z) = absurd (omega (arith, h, reached k bytes (omega (arith, h)) (last_bytes s (zeroed k bytes) z)))
    at (inr r) = r

-- one or none: no byte is changed
pub zero_nothing : (s : ℕ) (bytes : List ℕ) (k : ℕ) → Accepted s bytes → k ≤ length bytes → length bytes < k + 2 → zeroed k bytes ≡ bytes
zero_nothing s bytes k a h g = same k bytes h (last_bytes s bytes a) g
