-- Promise: writing all that was read gives back the sheet. Each formula that the reader gives is written as its own record, so the run of all
-- of them is the run that stands in the sheet, and of that the sheet writer gives the sheet.
use Rattle.whole.proofs.Basics.{◌≡◌, ◌∙◌, refl, sym, ap, ap₂, subst, inl, inr, List, [], ◌∷◌, ◌++◌, ℕ, ◌≤◌, length}
use Rattle.stored.specs.Numbers.{Bytes}
use Rattle.layout.specs.Fields.{row_for, formula_number, formula_of}
use Rattle.putting.proofs.BytesAgain.{bytes_left, bytes_right}
use Rattle.records.specs.Sheets.{EachFormula, in_line, SheetOf}
use Rattle.sheet.specs.Reader.{formula_read, Reading, formula_given}
use Rattle.sheet.proofs.AcceptedShape.{shape_accepted}
use Rattle.record_writer.specs.RecordWriter.{record_writing, bytes_of}
use Rattle.sheet_writer.specs.SheetWriter.{sheet_writing, sheet_of}
use Rattle.sheet_writer.specs.RoundTrips.{In, run_of, all_read, run_by}
use Rattle.sheet_writer.proofs.ReadsWritten.{reads_record}
use Rattle.sheet_writer.proofs.WritesRead.{own_bytes, own-length, member, run_again, writes_sheet}
use Rattle.std.specs.Prelude.{Ok}

module _ (s c : ℕ) (bytes : List ℕ) (h : SheetOf s c bytes) (t : Bytes bytes) where
  run_is : (bs : List (List ℕ)) → ((b : List ℕ) → In b bs → In b h.formulas) → EachFormula s bs → Bytes (in_line bs) → run_by (all_read s bytes bs) ≡ in_line bs
  run_is [] m f u = refl
  run_is (b ∷ bs) m f u =
      let e : (formula_given (formula_read s bytes (formula_number b))) ≡ formula_of (row_for b) b = ap formula_given (reads_record s c bytes h b (m b (inl refl))) in
      ap₂ (λ (x y : List ℕ). x ++ y) (ap bytes_of e ∙ own_bytes s b f.0 (bytes_left b (in_line bs) u)) (run_is bs (λ x i. m x (inr i)) f.1 (bytes_right b (in_line bs) u))

  -- each is accepted by the record writer, wherever there is room
  pub writes_each : (b : List ℕ) → In b h.formulas → (room : ℕ) → length b ≤ room → record_writing s (formula_given (formula_read s bytes (formula_number b))) room ≡ Ok (length b)
  writes_each b i room g =
      let m = member s b h.formulas h.each (bytes_left (in_line h.formulas) h.finish (bytes_right h.start _ (subst Bytes h.whole t))) i in
      ap (λ (y : Reading). record_writing s (formula_given y) room) (reads_record s c bytes h b i) ∙ own-length s b m.0 m.1 h.scale room g

  pub writes_all : (room : ℕ) → length bytes ≤ room → (sheet_writing s (run_by (all_read s bytes h.formulas)) room ≡ Ok (length bytes)) × (sheet_of s (run_by (all_read s bytes h.formulas)) ≡ bytes)
  writes_all room g =
      let u = bytes_left (in_line h.formulas) h.finish (bytes_right h.start _ (subst Bytes h.whole t)) in
      let e : run_of bytes ≡ run_by (all_read s bytes h.formulas) = run_again s c bytes h t ∙ sym (run_is h.formulas (λ b i. i) h.each u) in
      let w = writes_sheet s bytes room (shape_accepted s c bytes h).0 t g in
      (sym (ap (λ (x : List ℕ). sheet_writing s x room) e) ∙ w.0, sym (ap (sheet_of s) e) ∙ w.1)
