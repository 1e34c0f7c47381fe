-- Promise: the sheet writer writes, or refuses by one of a run's refusals or by 12; and it has no refusal exactly when it wrote. The walk over a run gives no others.
use Rattle.whole.proofs.Basics.{◌≡◌, refl, subst, Bool, true, false, cond, ◌⊎◌, inl, inr, List, ◌∷◌, ℕ, ◌+◌, eqb, ltb, length}
use Rattle.table.specs.Codes.{start_row}
use Rattle.faults.specs.Faults.{scale_fault}
use Rattle.faults.specs.Refusals.{OneOf}
use Rattle.faults.proofs.FaultSets.{one_of, scale-set}
use Rattle.walking.proofs.Numbered.{Numbered, numbered}
use Rattle.record_writer.specs.Answers.{refused_by, Writing}
use Rattle.record_writer.proofs.WhichRefusals.{WrittenOr, wrote, guarded, in_room}
use Rattle.sheet_writer.specs.SheetWriter.{added, run_walked, walked_writing, sheet_writing, sheet_writer_refusals}
use Rattle.sheet_writer.proofs.SheetLaws.{start_head}
use Rattle.walking.specs.Walking.{Walked}
use Rattle.refusal.specs.Guard.{refused_number}
use Rattle.std.specs.Prelude.{Err, Ok, None}

of_run : (w : Walked) (n room : ℕ) → Numbered 8 w → WrittenOr sheet_writer_refusals (walked_writing w n room)
of_run (Ok w) n room h = in_room sheet_writer_refusals (inl refl) (ltb room (n + added)) (n + added)
of_run (Err r) n room h = inr (inr h)

empty_or : (t : Bool) (w : Writing) → WrittenOr sheet_writer_refusals w → WrittenOr sheet_writer_refusals (cond t (refused_by 4) w)
empty_or true w h = inr (one_of sheet_writer_refusals 4 tt)
empty_or false w h = h

pub sheet_refusals_lem : (s : ℕ) (run : List ℕ) (room : ℕ) → ((n : ℕ) × (sheet_writing s run room ≡ Ok n)) ⊎ OneOf sheet_writer_refusals (refused_number (sheet_writing s run room))
unfolding sheet_writing
sheet_refusals_lem s run room =
    guarded sheet_writer_refusals (scale_fault s) _ (scale-set sheet_writer_refusals (one_of (0 ∷ sheet_writer_refusals) 6 tt) s)
    (empty_or (eqb (length run) 0) _ (of_run (run_walked s run) (length run) room (subst (λ (n : ℕ). Numbered n (run_walked s run)) start_head (numbered s run start_row.head None))))

pub sheet_wrote : (s : ℕ) (run : List ℕ) (room : ℕ) → refused_number (sheet_writing s run room) ≡ 0 → (n : ℕ) × (sheet_writing s run room ≡ Ok n)
sheet_wrote s run room z = wrote sheet_writer_refusals (sheet_writing s run room) tt (sheet_refusals_lem s run room) z
