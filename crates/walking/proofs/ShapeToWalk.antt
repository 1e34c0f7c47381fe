-- What the walk makes of the bytes of a sheet, with anything behind them, and of a run: a start, then past each formula, then the end.
use Rattle.whole.proofs.Basics.{◌≡◌, ◌∙◌, refl, sym, ap, cond, List, [], ◌++◌, append_assoc, append-nil, ℕ, suc, ◌+◌, ◌-◌, ◌≤◌, arith, ltb, length, length-append, eq-eqb, ne_eqb, le-ltb}
use Rattle.word.specs.Words.{Scale}
use Rattle.table.specs.declared.Class.TheVariants.{StartRecord, EndRecord}
use Rattle.table.proofs.Rule.{ruled}
use Rattle.layout.specs.Fields.{code_of, row_for, count_of}
use Rattle.refusal.specs.Guard.{refusal}
use Rattle.faults.specs.Faults.{outside, start_fault, end_fault}
use Rattle.faults.proofs.ScaleLaws.{no_scale_fault}
use Rattle.records.specs.Sheets.{RecordOf, in_line, SheetOf, RunOf}
use Rattle.walking.specs.Walking.{begin, after_start, ending, walk_from, walk_of, Walked, whole}
use Rattle.walking.specs.declared.Walk.{Walk}
use Rattle.walking.proofs.Clear.{walk_done}
use Rattle.walking.proofs.Going.{run_room}
use Rattle.walking.proofs.Formulas.{place_in, after_all, behind, goes_on, past_all}
use Rattle.std.specs.Prelude.{Err, Option, None}

-- what the end record gives, with n bytes in all
abbrev pub closing : ℕ → Option ℕ → ℕ → ℕ → Walked
closing c k place n = cond (ltb place n) (Err (refusal place 9)) (whole c k)

start_fine : (b : List ℕ) (c : ℕ) → (row_for b).class ≡ StartRecord → 1 ≤ c → c ≤ 64 → start_fault (row_for b) c ≡ 0
unfolding start_fault outside
start_fine b c e l m = rw ((ruled (code_of b)).counted, e) (simp (le-ltb c 1 l, le-ltb 64 c m))

module _ (s : ℕ) (bytes : List ℕ) where
  -- past the start, at 0
  pub past_start : (b after : List ℕ) (asked : Option ℕ) (k : ℕ) → bytes ≡ b ++ after → RecordOf StartRecord b → 1 ≤ count_of b → count_of b ≤ 64 → Scale s
      → walk_from (suc k) s bytes 0 (begin 0 asked) ≡ walk_from k s bytes 0 (after_start b (begin 0 asked))
  past_start b after asked k q r l m h =
      goes_on s bytes 0 [] b after StartRecord (begin 0 asked) k r q refl refl (rw (eq-eqb _ _ (start_fine b (count_of b) r.class l m)) (no_scale_fault s h))

  -- at the end
  at_end : (before b after : List ℕ) (w : Walk) (k : ℕ) → bytes ≡ before ++ (b ++ after) → w.at ≡ 0 + length before → (w.at ≡ 0 → ⊥) → RecordOf EndRecord b → w.seen ≡ w.count → count_of b ≡ w.count
      → walk_from (suc k) s bytes 0 w ≡ closing w.count w.found (w.at + length b) (length bytes)
  unfolding end_fault ending
  at_end before b after w k q a z r m n =
      goes_on s bytes 0 before b after EndRecord w k r q a (simp (ne_eqb w.at 0 z)) (simp (eq-eqb w.seen w.count m, eq-eqb (count_of b) w.count n))

-- ---- the whole way over a sheet, with anything behind it
module _ (s c : ℕ) (bytes after : List ℕ) (h : SheetOf s c bytes) (asked : Option ℕ) where
  all : List ℕ
  all = bytes ++ after

  front : List ℕ
  front = h.start ++ in_line h.formulas

  first : all ≡ h.start ++ (in_line h.formulas ++ (h.finish ++ after))
  unfolding all
  first =
      ap (λ (t : List ℕ). t ++ after) h.whole
      ∙ append_assoc h.start (in_line h.formulas ++ h.finish) after
      ∙ ap (λ (t : List ℕ). h.start ++ t) (append_assoc (in_line h.formulas) h.finish after)

  second : all ≡ front ++ (h.finish ++ after)
  unfolding front
  second = first ∙ sym (append_assoc h.start (in_line h.formulas) (h.finish ++ after))

  long : length bytes ≡ length h.start + length (in_line h.formulas) + length h.finish
  long = ap length h.whole ∙ omega (arith, length-append h.start (in_line h.formulas ++ h.finish), length-append (in_line h.formulas) h.finish)

  pub walked : walk_of s (bytes ++ after) 0 asked ≡ closing c (place_in asked (length h.start) None h.formulas) (length bytes) (length bytes + length after)
  unfolding walk_of all front
  walked =
      let b = h.start in
      let fs = h.formulas in
      let w = after_start b (begin 0 asked) in
      let n : count_of b ≡ c = h.opens.1 in
      let d = behind fs w in
      let k : 65 ≡ length fs + suc (64 - c) = omega (arith, h.many, h.opens.3) in
      let count : (after_all fs w).count ≡ c = d.count ∙ n in
      let place : (after_all fs w).at + length h.finish ≡ length bytes = omega (arith, d.at, long) in
      let size : length (bytes ++ after) ≡ length bytes + length after = length-append bytes after in
      past_start s (bytes ++ after) b (in_line fs ++ (h.finish ++ after)) asked 65 first h.opens.0 (rw n h.opens.2) (rw n h.opens.3) h.scale
      ∙ ap (λ (j : ℕ). walk_from j s (bytes ++ after) 0 w) k
      ∙ past_all s (bytes ++ after) 0 fs b (h.finish ++ after) w (suc (64 - c)) first (omega arith) (λ z. omega (arith, z, h.opens.0.least)) (omega (arith, h.many, n)) h.each h.rising
      ∙ at_end s (bytes ++ after) (b ++ in_line fs) h.finish after (after_all fs w) (64 - c) second (omega (arith, d.at, length-append b (in_line fs)))
      (λ z. omega (arith, z, d.at, h.opens.0.least)) h.closes.0 (omega (arith, d.seen, h.many, count)) (h.closes.1 ∙ sym count)
      ∙ rw (count, d.found, place, size) refl

-- ---- and over a run
pub run_walked_lem : (s c : ℕ) (bytes : List ℕ) (h : RunOf s c bytes) (from : ℕ) (asked : Option ℕ) → walk_of s bytes (suc from) asked ≡ whole c (place_in asked (suc from) None h.formulas)
unfolding walk_of
run_walked_lem s c bytes h from asked =
    let fs = h.formulas in
    let w = begin (suc from) asked in
    let d = behind fs w in
    let k : 66 ≡ length fs + suc (65 - c) = omega (arith, h.many, h.most) in
    let seen : (after_all fs w).seen ≡ c = omega (arith, d.seen, h.many) in
    ap (λ (j : ℕ). walk_from j s bytes (suc from) w) k
    ∙ past_all s bytes (suc from) fs [] [] w (suc (65 - c)) (h.whole ∙ sym (append-nil (in_line fs))) (omega arith) (λ z. omega (arith, z)) (omega (arith, h.many, h.most, run_room from asked)) h.each h.rising
    ∙ walk_done s bytes (suc from) (after_all fs w) (65 - c) (eq-eqb ((after_all fs w).at - suc from) (length bytes) (omega (arith, d.at, ap length h.whole)))
    ∙ rw (d.found, seen) refl
