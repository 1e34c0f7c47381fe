-- Promise: the sheet writer refuses a run that has a blank record: at its place by 14 or by a number that comes before it, or one of the records before it. Behind
-- formulas without fault, with nothing else wrong with it, it is refused by 14 at its place, whatever stands behind it and whatever the room.
use Rattle.whole.proofs.Basics.{◌≡◌, ◌∙◌, refl, ap, List, [], ◌++◌, ℕ, ◌+◌, ◌≤◌, arith, length, length-append, eq-eqb, ne_eqb}
use Rattle.word.specs.Words.{Scale}
use Rattle.refusal.specs.Guard.{refusal}
use Rattle.faults.specs.Faults.{scale_fault}
use Rattle.refusal.specs.declared.Refusal.{Refusal}
use Rattle.faults.proofs.ScaleLaws.{no_scale_fault}
use Rattle.records.specs.Sheets.{in_line}
use Rattle.walking.specs.Walking.{begin, walk_of, Walked}
use Rattle.walking.specs.BlankRecords.{BlankBehind, BlankOrBefore, BlankNext}
use Rattle.walking.proofs.Going.{run_room}
use Rattle.walking.proofs.BlankMet.{blank_met, fourteen_met}
use Rattle.sheet_writer.specs.SheetWriter.{walked_writing, sheet_writing}
use Rattle.sheet_writer.proofs.SheetLaws.{start_head}
use Rattle.std.specs.Prelude.{Err, None}

-- a run that is not empty, at a board's places, is written as its walk says
by_walk : (s : ℕ) (run : List ℕ) (room : ℕ) (r : Refusal) → scale_fault s ≡ 0 → 8 ≤ length run → walk_of s run 8 None ≡ Err r → sheet_writing s run room ≡ Err r
unfolding sheet_writing
by_walk s run room r z l e =
    rw (eq-eqb (scale_fault s) 0 z, ne_eqb (length run) 0 (λ n. omega (arith, n, l)))
    (ap (λ (w : Walked). walked_writing w (length run) room) (ap (λ (n : ℕ). walk_of s run n None) start_head ∙ e))

-- a record at least stands in it
long : (before b after run : List ℕ) → run ≡ before ++ (b ++ after) → 8 ≤ length b → 8 ≤ length run
long before b after run q l = omega (arith, ap length q, length-append before (b ++ after), length-append b after, l)

pub blank_run : (s : ℕ) (run : List ℕ) (room : ℕ) → Scale s → (h : BlankBehind run) → (r : Refusal) × (sheet_writing s run room ≡ Err r) × BlankOrBefore 8 h.records r
unfolding walk_of
blank_run s run room k h =
    let m = blank_met s run 8 66 h.records [] h.blank h.after (begin 8 None) h.each h.is h.whole (omega arith) (λ z. omega (arith, z)) in
    (m.0, by_walk s run room m.0 (no_scale_fault s k) (long (in_line h.records) h.blank h.after run h.whole h.is.one.least) m.1, m.2)

pub fourteen_run : (s : ℕ) (run : List ℕ) (room : ℕ) → Scale s → (h : BlankNext s 64 run) → sheet_writing s run room ≡ Err (refusal (8 + length (in_line h.formulas)) 14)
unfolding walk_of
fourteen_run s run room k h =
    by_walk s run room _ (no_scale_fault s k) (long (in_line h.formulas) h.blank h.after run h.whole h.is.one.least)
    (fourteen_met s run 8 [] run 64 h refl (begin 8 None) (omega arith) (λ z. omega (arith, z)) refl refl (run_room 7 None) 66 (omega (arith, h.room)))
