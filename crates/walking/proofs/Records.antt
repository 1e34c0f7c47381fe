-- A record in the middle of other bytes: read there, and put there; its first four bytes say how long it is.
use Rattle.whole.proofs.Basics.{◌≡◌, ◌∙◌, sym, ap, List, ◌++◌, ℕ, ◌+◌, ◌-◌, arith, length, take, drop, length-append, le-ltb}
use native.Mathlib.Nat.{add-zero}
use lib.ListN.{take-append-drop}
use lib.Seq.{drop-drop, drop-append_seam, take-append_seam}
use Rattle.table.specs.declared.Class.{Class}
use Rattle.stored.specs.Numbers.{number4}
use Rattle.stored.proofs.NumberLaws.{number4_in, number4-drop, number4_more}
use Rattle.layout.specs.Fields.{bytes_at, row_for}
use Rattle.layout.proofs.Cut.{length-bytes_at}
use Rattle.faults.specs.Faults.{frame_fault, length_fault}
use Rattle.faults.proofs.Frames.{framed, reaches}
use Rattle.records.specs.Sheets.{RecordOf}

-- ---- read there

module _ (s : List ℕ) (at : ℕ) (z : frame_fault s at ≡ 0) where
  pub record_at : (k : Class) → (row_for (bytes_at s at)).class ≡ k → length_fault (row_for (bytes_at s at)) (bytes_at s at) ≡ 0 → RecordOf k (bytes_at s at)
  unfolding bytes_at
  record_at k q e =
      let f = framed s at z in
      let l = length-bytes_at s at (reaches s at f) in
      let n : number4 (take (number4 s at) (drop at s)) 0 ≡ number4 s (at + 0) = number4_in s at (number4 s at) 0 (omega (arith, f.least)) in
      record { least = omega (arith, l, f.least); most = omega (arith, l, f.most); says = rw (add-zero at) at n ∙ sym l; class = q; exact = e }

  pub split_at : drop at s ≡ bytes_at s at ++ drop (at + length (bytes_at s at)) s
  unfolding bytes_at
  split_at =
      let l = length-bytes_at s at (reaches s at (framed s at z)) in
      rw l (sym (take-append-drop (number4 s at) (drop at s)) ∙ ap (λ (t : List ℕ). take (number4 s at) (drop at s) ++ t) (drop-drop (number4 s at) at s))

-- ---- put there

module _ (before b after : List ℕ) (k : Class) (r : RecordOf k b) where
  pub there : number4 (before ++ (b ++ after)) (length before) ≡ length b
  there =
      let n = number4-drop (before ++ (b ++ after)) (length before) in
      sym n ∙ ap (λ (t : List ℕ). number4 t 0) (drop-append_seam before (b ++ after)) ∙ number4_more b after 0 (omega (arith, r.least)) ∙ r.says

  pub frame_there : frame_fault (before ++ (b ++ after)) (length before) ≡ 0
  unfolding frame_fault
  frame_there =
      let l : length (before ++ (b ++ after)) ≡ length before + (length b + length after) = length-append before (b ++ after) ∙ ap (λ (n : ℕ). length before + n) (length-append b after) in
      rw (there, l)
      (simp (
        le-ltb (length before + (length b + length after) - length before) 4 (omega (arith, r.least)),
        le-ltb (length b) 8 r.least,
        le-ltb 120 (length b) r.most,
        le-ltb (length before + (length b + length after) - length before) (length b) (omega arith),
      ))

  pub bytes_there : bytes_at (before ++ (b ++ after)) (length before) ≡ b
  unfolding bytes_at
  bytes_there = rw (there, drop-append_seam before (b ++ after)) (take-append_seam b after)
