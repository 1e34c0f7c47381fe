-- The formula records of an accepted sheet stand one behind the other, and their lines are those of the records: by induction on the
-- records, each found in the middle of the bytes around it.
use Rattle.whole.proofs.Basics.{◌≡◌, ◌∙◌, refl, sym, ap, ap₂, subst, List, [], ◌∷◌, ◌++◌, append_assoc, ℕ, suc, zero, ◌+◌, ◌-◌, ◌≤◌, ◌<◌, arith, length, length-append, lt-ltb, le-ltb}
use Rattle.word.specs.Words.{Scale}
use Rattle.stored.specs.Numbers.{number4}
use Rattle.stored.proofs.NumberLaws.{number4_more}
use Rattle.table.specs.declared.Class.TheVariants.{FormulaRecord}
use Rattle.layout.specs.Fields.{bytes_at, Reaches}
use Rattle.layout.proofs.Cut.{length-bytes_at}
use Rattle.faults.proofs.Frames.{framed, reaches}
use Rattle.records.specs.Sheets.{FormulaBytes, EachFormula, in_line, SheetOf}
use Rattle.walking.proofs.Records.{frame_there, bytes_there}
use Rattle.sheet.specs.Reader.{count_value, formula_count, formula_in, formula_at, FormulaStands, FormulaCount}
use Rattle.sheet.proofs.AcceptedShape.{accepted_shape}
use Rattle.sheet.proofs.Words.{complete_record}
use Rattle.text.specs.Text.{text}
use Rattle.line.specs.Line.{line_of}
use Rattle.lines.specs.Listing.{places, lines_from, lines_of, listing_by, listing}
use Rattle.refusal.specs.Guard.{refused_number}
use Rattle.std.specs.Prelude.{Ok}

-- ---- n formula records stand one behind the other, from a place on

abbrev pub Ahead : ℕ → ℕ → List ℕ → ℕ → Type 0
Ahead s zero bytes place = Unit
Ahead s (suc n) bytes place = FormulaStands s bytes place × Ahead s n bytes (place + number4 bytes place)

pub here : (s n : ℕ) (bytes : List ℕ) (place : ℕ) → 0 < n → Ahead s n bytes place → FormulaStands s bytes place × Ahead s (n - 1) bytes (place + number4 bytes place)
here s zero bytes place h a = absurd (omega arith)
here s (suc n) bytes place h a = let e : suc n - 1 ≡ n = omega arith in rw e a

pub one_line : (n : ℕ) (bytes : List ℕ) (place : ℕ) → 0 < n → lines_from n bytes place ≡ line_of (formula_at bytes place) ++ lines_from (n - 1) bytes (place + number4 bytes place)
unfolding lines_from
one_line zero bytes place h = absurd (omega arith)
one_line (suc n) bytes place h = let e : suc n - 1 ≡ n = omega arith in rw e

pub no_line : (n : ℕ) (bytes : List ℕ) (place : ℕ) → n ≡ 0 → lines_from n bytes place ≡ []
unfolding lines_from
no_line n bytes place e = rw e

-- the record at a place has number, lo and hi
pub long : (s : ℕ) (bytes : List ℕ) (place : ℕ) → FormulaStands s bytes place → 16 ≤ length (bytes_at bytes place)
long s bytes place h = (complete_record _ h.here.one).least

-- ---- in a sheet

module _ (s : ℕ) (scale : Scale s) (bytes finish : List ℕ) where
  along : (before : List ℕ) (fs : List (List ℕ)) (place : ℕ) → EachFormula s fs → bytes ≡ before ++ (in_line fs ++ finish) → place ≡ length before
      → Ahead s (length fs) bytes place × (lines_from (length fs) bytes place ≡ lines_of fs)
  unfolding lines_from
  along before [] place f e q = (tt, refl)
  along before (b ∷ bs) place f e q =
      let after = in_line bs ++ finish in
      let w : bytes ≡ before ++ (b ++ after) = e ∙ ap (λ (t : List ℕ). before ++ t) (append_assoc b (in_line bs) finish) in
      let y : bytes_at bytes place ≡ b = rw (w, q) (bytes_there before b after FormulaRecord f.0.one) in
      let z : Reaches bytes place = reaches bytes place (framed bytes place (rw (w, q) (frame_there before b after FormulaRecord f.0.one))) in
      let n : number4 bytes place ≡ length b = sym (length-bytes_at bytes place z) ∙ ap length y in
      let r = along (before ++ b) bs (place + number4 bytes place) f.1 (w ∙ sym (append_assoc before b after)) (omega (arith, n, q, length-append before b)) in (
        (record { scale = scale; reach = z; here = subst (FormulaBytes s) (sym y) f.0 }, r.0),
        ap₂ (λ (x t : List ℕ). line_of (formula_in x) ++ t) y r.1,
      )

module _ (s c : ℕ) (bytes : List ℕ) (h : SheetOf s c bytes) where
  -- the first formula stands behind the start record
  first : number4 bytes 0 ≡ length h.start
  first =
      let rest = in_line h.formulas ++ h.finish in
      ap (λ (t : List ℕ). number4 t 0) h.whole ∙ number4_more h.start rest 0 (omega (arith, h.opens.0.least)) ∙ h.opens.0.says

  pub start_reach : Reaches bytes 0
  start_reach =
      let l = ap length h.whole ∙ length-append h.start (in_line h.formulas ++ h.finish) in
      record { number = omega (arith, l, h.opens.0.least); whole = omega (arith, l, first) }

  -- from there on the formulas stand ahead, and their lines are the sheet's
  pub in_order : Ahead s c bytes (number4 bytes 0) × (lines_from c bytes (number4 bytes 0) ≡ lines_of h.formulas)
  in_order =
      subst (λ (n : ℕ). Ahead s n bytes (number4 bytes 0) × (lines_from n bytes (number4 bytes 0) ≡ lines_of h.formulas)) h.many
      (along s h.scale bytes h.finish h.start h.formulas (number4 bytes 0) h.each h.whole first)

pub shape_of_count : (s c : ℕ) (bytes : List ℕ) → formula_count s bytes ≡ Ok c → SheetOf s c bytes
shape_of_count s c bytes e = subst (λ (n : ℕ). SheetOf s n bytes) (ap count_value e) (accepted_shape s bytes (ap refused_number e))

-- ---- the listing, by the input's length

pub too_long_lem : (bytes : List ℕ) → 8192 < length bytes → listing bytes ≡ text "too long\n"
unfolding listing
too_long_lem bytes h = rw (lt-ltb 8192 (length bytes) h)

pub not_too_long : (bytes : List ℕ) (x : FormulaCount) → length bytes ≤ 8192 → formula_count places bytes ≡ x → listing bytes ≡ listing_by bytes x
unfolding listing
not_too_long bytes x h e = rw (le-ltb 8192 (length bytes) h, e)

pub by_reader : (bytes : List ℕ) → length bytes ≤ 8192 → listing bytes ≡ listing_by bytes (formula_count places bytes)
by_reader bytes h = not_too_long bytes _ h refl
