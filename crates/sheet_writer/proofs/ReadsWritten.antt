-- Promise: reading undoes writing. The reader accepts whatever the sheet writer has written, with as many formulas as the run has
-- records; and of formulas that the record writer accepts, put into a sheet by the sheet writer, it gives each for its number,
-- with the fields that its kind has not at 0.
use Rattle.whole.proofs.Basics.{◌≡◌, ◌∙◌, refl, sym, ap, subst, Bool, true, false, cond, ◌⊎◌, inl, inr, List, [], ◌∷◌, ◌++◌, append-nil, ℕ, suc, ◌+◌, ◌≤◌, arith, eqb, length, eqb-true, eqb-false}
use mathlib.Core.List.{map}
use Rattle.word.specs.Words.{Scale}
use Rattle.formula.specs.declared.Formula.{Formula}
use Rattle.layout.specs.Fields.{bytes_at, row_for, formula_number, formula_of}
use Rattle.putting.specs.Plain.{Handed, plain_by, row_by, plain}
use Rattle.putting.proofs.RecordBack.{number_again, formula_back, row_back}
use Rattle.faults.specs.Faults.{scale_fault}
use Rattle.records.specs.Sheets.{FormulaBytes, EachFormula, Rising, in_line, Has, RunOf, SheetOf}
use Rattle.walking.specs.Walking.{walk_of, Walked}
use Rattle.faults.proofs.ScaleLaws.{good_scale}
use Rattle.walking.proofs.Formulas.{place_in}
use Rattle.walking.proofs.WalkToShape.{run_shape}
use Rattle.sheet.specs.Reader.{formula_count, place_found, place_answer, formula_place, read_at, formula_read}
use Rattle.sheet.proofs.Places.{RecordAt, noted, stands}
use Rattle.sheet.proofs.AcceptedShape.{walk_of_lem, shape_count}
use Rattle.record_writer.specs.Answers.{refused_by}
use Rattle.record_writer.specs.RecordWriter.{record_writing, bytes_of}
use Rattle.record_writer.proofs.RecordFaults.{bytes_back}
use Rattle.record_writer.proofs.Accepted.{accepts, tidy}
use Rattle.sheet_writer.specs.SheetWriter.{run_walked, walked_writing, records_in, sheet_writing, sheet_bytes, sheet_of}
use Rattle.sheet_writer.specs.RoundTrips.{EachWritten, Ascending, In, ReadAgain}
use Rattle.sheet_writer.proofs.SheetLaws.{start_head}
use Rattle.sheet_writer.proofs.SheetShape.{sheet_shape, run_is_whole, sheet_written}
use Rattle.refusal.specs.Guard.{refused_number}
use Rattle.std.specs.Prelude.{Err, Ok, Option, Some, None}

-- ---- whatever the sheet writer has written

some_record : (s c : ℕ) (run : List ℕ) → RunOf s c run → (length run ≡ 0 → ⊥) → 1 ≤ c
some_record s c run r h = at r.formulas r.whole r.many
  where
    at : (fs : List (List ℕ)) → run ≡ in_line fs → length fs ≡ c → 1 ≤ c
    at [] e m = absurd (h (ap length e))
    at (b ∷ bs) e m = omega (arith, m)

-- an accepted run: its records
record Run (s : ℕ) (run : List ℕ) : Type 0 where
  scale : Scale s
  count : ℕ
  many : records_in (run_walked s run) ≡ count
  some : 1 ≤ count
  shape : RunOf s count run

run_of_lem : (s : ℕ) (run : List ℕ) (room n : ℕ) → sheet_writing s run room ≡ Ok n → Run s run
unfolding sheet_writing
run_of_lem s run room n e = at (eqb (scale_fault s) 0) refl (eqb (length run) 0) refl e
  where
    by : Scale s → (length run ≡ 0 → ⊥) → (x : Walked) → run_walked s run ≡ x → walked_writing x (length run) room ≡ Ok n → Run s run
    by k h (Ok w) q p =
        let r = run_shape s run 7 w.count w.found None (rw start_head at q) in
        record { scale = k; count = w.count; many = ap records_in q; some = some_record s w.count run r h; shape = r }
    by k h (Err r) q p = absurd (let z : ◌≡◌ {A = ℕ} 0 1 = cc in omega arith)

    at : (t : Bool) → eqb (scale_fault s) 0 ≡ t → (u : Bool) → eqb (length run) 0 ≡ u
        → cond t (cond u (refused_by 4) (walked_writing (run_walked s run) (length run) room)) (refused_by (scale_fault s)) ≡ Ok n → Run s run
    at false q u o p = absurd (let z : ◌≡◌ {A = ℕ} 0 1 = cc in omega arith)
    at true q true o p = absurd (let z : ◌≡◌ {A = ℕ} 0 1 = cc in omega arith)
    at true q false o p = by (good_scale s (eqb-true _ _ q)) (eqb-false _ _ o) (run_walked s run) refl p

pub reads_sheet : (s : ℕ) (run : List ℕ) (room n : ℕ) → sheet_writing s run room ≡ Ok n → formula_count s (sheet_of s run) ≡ Ok (records_in (run_walked s run))
reads_sheet s run room n e =
    let k = run_of_lem s run room n e in
    let c = k.count in
    rw k.many (shape_count s c (sheet_bytes c run) (sheet_shape s c run k.scale k.some k.shape))

-- ---- formulas that the record writer accepts

-- its record, and what the reader makes of that
record Record (s : ℕ) (f : Formula) : Type 0 where
  scale : Scale s
  bytes : FormulaBytes s (bytes_of f)
  number : formula_number (bytes_of f) ≡ f.number
  again : formula_of (row_for (bytes_of f)) (bytes_of f) ≡ plain f

one : (s : ℕ) (f : Formula) (room n : ℕ) → Handed f → record_writing s f room ≡ Ok n → Record s f
unfolding plain_by
one s f room n h e =
    let a = accepts s f room (ap refused_number e) in
    let d = tidy s f h a in
    record {
      scale = a.scale;
      bytes = bytes_back (row_by f) (plain f) d a.counts s a.values;
      number = number_again (row_by f) (plain f) d;
      again = rw (row_back (row_by f) (plain f) d) (formula_back (row_by f) (plain f) d);
    }

each_record : (s : ℕ) (fs : List Formula) → EachWritten s fs → EachFormula s (map bytes_of fs)
each_record s [] w = tt
each_record s (f ∷ fs) w = ((one s f w.0.1 w.0.2 w.0.0 w.0.3).bytes, each_record s fs w.1)

rising : (s k : ℕ) (fs : List Formula) → EachWritten s fs → Ascending k fs → Rising k (map bytes_of fs)
rising s k [] w o = tt
rising s k (f ∷ fs) w o =
    let e = sym (one s f w.0.1 w.0.2 w.0.0 w.0.3).number in
    (subst (λ (x : ℕ). k ≤ x) e o.0, subst (λ (x : ℕ). Rising (x + 1) (map bytes_of fs)) e (rising s (f.number + 1) fs w.1 o.1))

in_records : (s : ℕ) (f : Formula) (fs : List Formula) → EachWritten s fs → In f fs → In (bytes_of f) (map bytes_of fs) × Record s f
in_records s f [] w i = elim i [ ]
in_records s f (g ∷ fs) w (inl e) = (inl (ap bytes_of e), subst (Record s) (sym e) (one s g w.0.1 w.0.2 w.0.0 w.0.3))
in_records s f (g ∷ fs) w (inr i) = let t = in_records s f fs w.1 i in (inr t.0, t.1)

-- ---- a number stands in one record only

above : (k : ℕ) (b : List ℕ) (bs : List (List ℕ)) → Rising k bs → In b bs → k ≤ formula_number b
above k b [] r i = elim i [ ]
above k b (x ∷ xs) r (inl e) = subst (λ (y : List ℕ). k ≤ formula_number y) (sym e) r.0
above k b (x ∷ xs) r (inr i) = omega (arith, r.0, above (formula_number x + 1) b xs r.1 i)

only : (k : ℕ) (a b : List ℕ) (bs : List (List ℕ)) → Rising k bs → In a bs → In b bs → formula_number a ≡ formula_number b → a ≡ b
only k a b [] r i j q = elim i [ ]
only k a b (x ∷ xs) r (inl d) (inl e) q = d ∙ sym e
only k a b (x ∷ xs) r (inl d) (inr i) q = absurd (omega (arith, q, ap formula_number d, above (formula_number x + 1) b xs r.1 i))
only k a b (x ∷ xs) r (inr i) (inl e) q = absurd (omega (arith, q, ap formula_number e, above (formula_number x + 1) a xs r.1 i))
only k a b (x ∷ xs) r (inr i) (inr j) q = only (formula_number x + 1) a b xs r.1 i j q

has : (b : List ℕ) (bs : List (List ℕ)) → In b bs → Has (formula_number b) bs
has b [] i = elim i [ ]
has b (x ∷ xs) (inl e) = inl (ap formula_number (sym e))
has b (x ∷ xs) (inr i) = inr (has b xs i)

-- the reader gives the formula of a record that a sheet has
pub reads_record : (s c : ℕ) (bytes : List ℕ) (h : SheetOf s c bytes) (b : List ℕ) → In b h.formulas → formula_read s bytes (formula_number b) ≡ Ok (formula_of (row_for b) b)
unfolding formula_read formula_place
reads_record s c bytes h b i = by (noted n (length h.start) None h.formulas)
  where
    n : ℕ
    n = formula_number b

    place : Option ℕ
    place = place_in (Some n) (length h.start) None h.formulas

    middle : (l r : List (List ℕ)) (x : List ℕ) → In x (l ++ (x ∷ r))
    middle [] r x = inl refl
    middle (y ∷ l) r x = inr (middle l r x)

    by : ((place ≡ None) × (Has n h.formulas → ⊥)) ⊎ ((j : ℕ) × (place ≡ Some j) × RecordAt n (length h.start) j h.formulas)
        → read_at bytes (place_answer (walk_of s bytes 0 (Some n))) ≡ Ok (formula_of (row_for b) b)
    by (inl x) = absurd (x.1 (has b h.formulas i))
    by (inr (j, q, a)) =
        let same : a.here ≡ b = only 0 a.here b h.formulas h.rising (subst (In a.here) (sym a.is) (middle a.before a.after a.here)) i a.number in
        let there : bytes_at bytes j ≡ b = (stands s c bytes h n j a).1 ∙ same in
        ap (λ (w : Walked). read_at bytes (place_answer w)) (walk_of_lem s c bytes h (Some n)) ∙ ap (λ (k : Option ℕ). read_at bytes (place_found k)) q ∙ ap (λ (x : List ℕ). Ok (formula_of (row_for x) x)) there

-- ---- the promise

scale_of : (s : ℕ) (fs : List Formula) → 1 ≤ length fs → EachWritten s fs → Scale s
scale_of s [] h w = absurd (omega (arith, h))
scale_of s (f ∷ fs) h w = (one s f w.0.1 w.0.2 w.0.0 w.0.3).scale

pub reads_written : (s : ℕ) (fs : List Formula) → 1 ≤ length fs → length fs ≤ 64 → EachWritten s fs → Ascending 0 fs → ReadAgain s fs (in_line (map bytes_of fs))
unfolding sheet_shape
reads_written s fs h m w o =
    let bs = map bytes_of fs in
    let run = in_line bs in
    let c = length bs in
    let l = length_map fs in
    let k = scale_of s fs h w in
    let r : RunOf s c run = record { formulas = bs; whole = refl; many = refl; most = omega (arith, l, m); each = each_record s fs w; rising = rising s 0 fs w o } in
    let e : records_in (run_walked s run) ≡ c = ap records_in (run_is_whole s c run r).1 in
    let z = sheet_shape s c run k (omega (arith, l, h)) r in
    record {
      written = λ room g. sheet_written s c run room k (omega (arith, l, h)) r g;
      count = rw e (shape_count s c (sheet_bytes c run) z ∙ ap Ok l);
      each = λ f i.
          let t = in_records s f fs w i in
          rw e (rw (t.1.number, t.1.again) at (reads_record s c (sheet_bytes c run) z (bytes_of f) t.0));
    }
  where
    length_map : (l : List Formula) → length (map bytes_of l) ≡ length l
    length_map [] = refl
    length_map (f ∷ l) = ap suc (length_map l)

-- of one formula
pub reads_one : (s : ℕ) (f : Formula) (room n : ℕ) → Handed f → record_writing s f room ≡ Ok n → ReadAgain s (f ∷ []) (bytes_of f)
reads_one s f room n h e =
    rw (append-nil (bytes_of f)) at (reads_written s (f ∷ []) (omega arith) (omega arith) ((h, room, n, e), tt) (omega arith, tt))
