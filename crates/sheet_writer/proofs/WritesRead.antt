-- Promise: writing undoes reading. Over an accepted sheet's own run the sheet writer gives that sheet; the record writer over each
-- formula that the reader gives returns that record's own bytes.
use Rattle.whole.proofs.Basics.{◌≡◌, ◌∙◌, refl, sym, ap, ap₂, subst, Bool, true, false, cond, inl, inr, List, [], ◌∷◌, ◌++◌, ℕ, ◌+◌, ◌-◌, ◌*◌, ◌/◌, ◌≤◌, arith, eqb, ltb, length, take, drop, length-append, ℤ, eqb-true, le-ltb}
use lib.Seq.{take_all, take_at, drop_at}
use Rattle.word.specs.Words.{Scale}
use Rattle.stored.specs.Numbers.{number2, number4, bytes2, bytes4, Bytes}
use Rattle.formula.specs.declared.Formula.{Formula}
use Rattle.formula.specs.declared.Shape.{Shape}
use Rattle.formula.specs.Formula.{word_count}
use Rattle.table.specs.declared.Class.TheVariants.{StartRecord, EndRecord}
use Rattle.table.specs.declared.Field.{Field}
use Rattle.table.specs.declared.Row.{Row}
use Rattle.table.specs.Table.{length_by}
use Rattle.table.specs.Codes.{start_row, end_row}
use Rattle.table.specs.Order.{field_size}
use Rattle.table.proofs.CodeLaws.{code_found, row_by_kind, start_row_lem, end_row_lem}
use Rattle.table.proofs.OrderLaws.{ordered}
use Rattle.table.proofs.Rule.{ruled, start-length, end_length}
use Rattle.layout.specs.Fields.{row_for, code_of, count_of, formula_number, lo_of, hi_of, shape, formula, first_count, field_of, shape_of, words_of, padded, formula_of, words_by, words_in}
use Rattle.putting.specs.Plain.{kept, plain_shape, plain_by, row_by, plain}
use Rattle.putting.specs.Bytes.{front_bytes, head_bytes, field_bytes, fields_bytes, framing_bytes, word_bytes, record_bytes}
use Rattle.putting.proofs.BytesAgain.{bytes_left, bytes_right, glue, two_again, four_again, word_again, field_again, words_again}
use Rattle.layout.proofs.Complete.{exactly}
use Rattle.faults.specs.Faults.{outside, interval_fault, own_fault, count_fault, size_fault, length_fault}
use Rattle.faults.proofs.Chain.{goes, passed, neither}
use Rattle.faults.proofs.Lengths.{inside, laid}
use Rattle.faults.proofs.ScaleLaws.{no_scale_fault}
use Rattle.records.specs.Records.{value_fault, only_formula}
use Rattle.records.specs.Sheets.{RecordOf, FormulaBytes, EachFormula, in_line, Has, RunOf, SheetOf}
use Rattle.sheet.specs.Reader.{count_value, formula_count, Accepted, HasFormula, formula_read, formula_given}
use Rattle.sheet.proofs.Words.{words_in_lem}
use Rattle.sheet.proofs.AcceptedShape.{accepted_shape}
use Rattle.sheet.proofs.FormulasGiven.{found_exactly}
use Rattle.record_writer.specs.Answers.{refused_by}
use Rattle.record_writer.specs.RecordWriter.{room_writing, plain_writing, record_writing, bytes_of}
use Rattle.sheet_writer.specs.SheetWriter.{added, run_walked, records_in, sheet_writing, sheet_of}
use Rattle.sheet_writer.specs.RoundTrips.{In, run_of, OwnRecord}
use Rattle.sheet_writer.proofs.SheetLaws.{start_head, end_head}
use Rattle.sheet_writer.proofs.SheetShape.{run_is_whole, sheet_written}
use Rattle.sheet_writer.proofs.ReadsWritten.{reads_record}
use Rattle.std.specs.Prelude.{Ok}

-- a part and the part behind it, each written again
join : (b : List ℕ) (at n m k : ℕ) {x y : List ℕ} → x ≡ take n (drop at b) → y ≡ take m (drop k b) → k ≡ at + n → x ++ y ≡ take (n + m) (drop at b)
join b at n m k p q e = rw (p, q, e) (glue b at n m)

front_again : (b : List ℕ) (n code number : ℕ) → Bytes b → 8 ≤ length b → number4 b 0 ≡ n → number2 b 4 ≡ code → number2 b 6 ≡ number → front_bytes n code number ≡ take 8 b
unfolding front_bytes
front_again b n code number h l e c k =
    join b 0 6 2 6 (join b 0 4 2 4 (ap bytes4 (sym e) ∙ four_again b 0 h (omega arith)) (ap bytes2 (sym c) ∙ two_again b 4 h (omega arith)) refl) (ap bytes2 (sym k) ∙ two_again b 6 h (omega arith)) refl

-- ---- a formula record

kept_same : (f : Field) (n : ℕ) → n ≤ f.most → kept f n ≡ n
unfolding kept
kept_same f n h = at (eqb f.most 0) refl
  where
    at : (t : Bool) → eqb f.most 0 ≡ t → cond t 0 n ≡ n
    at true q = omega (arith, eqb-true f.most 0 q, h)
    at false q = refl

module _ (s : ℕ) (b : List ℕ) (w : FormulaBytes s b) (h : Bytes b) where
  first_is : field_bytes (row_for b).p (first_count (row_for b) b) ≡ field_bytes (row_for b).p (field_of (row_for b).p b)
  unfolding field_bytes first_count field_of
  first_is = at (eqb (row_for b).p.at 0)
    where
      at : (t : Bool) → cond t [] (bytes2 (cond t ((length b - (row_for b).head) / 4) (number2 b (row_for b).p.at))) ≡ cond t [] (bytes2 (cond t 0 (number2 b (row_for b).p.at)))
      at true = refl
      at false = refl

  record_again : record_bytes (row_for b) (formula_of (row_for b) b) ≡ b
  unfolding record_bytes head_bytes fields_bytes formula_of shape_of
  record_again =
      let r = row_for b in
      let o = ordered (code_of b) w.one.class in
      let l = laid r b w.one.exact in
      let m = word_count r.kind (shape_of r b).p (shape_of r b).q in
      let n : length_by r (shape_of r b).p (shape_of r b).q ≡ length b = l.exact in
      let x : r.head + 4 * m ≡ length b = exactly r b (ruled (code_of b)) w.one.class l in
      let c = code_found (code_of b) w.one.class tt in
      let t = field_size r.mode in
      let u = field_size r.p in
      let v = field_size r.q in
      let e : r.head ≡ 16 + t + u + v = o.head in
      let front = front_again b _ _ _ h (omega (arith, x, e)) (w.one.says ∙ sym n) (sym c) refl in
      let head = join b 0 12 4 12 (join b 0 8 4 8 front (word_again b 8 h (omega (arith, x, e))) refl) (word_again b 12 h (omega (arith, x, e))) refl in
      let fields = join b 16 (t + u) v (16 + t + u) (join b 16 t u (16 + t) (field_again r.mode 16 b h o.mode (omega (arith, x, e))) (first_is ∙ field_again r.p (16 + t) b h o.p (omega (arith, x, e))) refl)
      (field_again r.q (16 + t + u) b h o.q (omega (arith, x, e))) (omega arith) in
      join b 0 (16 + (t + u + v)) (4 * m) r.head (join b 0 16 (t + u + v) 16 head fields refl) (ap word_bytes (words_in_lem r b) ∙ words_again b r.head m h (omega (arith, x))) (omega (arith, e))
      ∙ take_all (16 + (t + u + v) + 4 * m) b (omega (arith, x, e))

  row_again : row_by (formula_of (row_for b) b) ≡ row_for b
  unfolding formula_of shape_of
  row_again = row_by_kind (code_of b) w.one.class

  mode_most : (shape_of (row_for b) b).mode ≤ (row_for b).mode.most
  unfolding value_fault own_fault
  mode_most =
      let r = row_for b in
      let g = shape_of r b in
      let o = (neither (own_fault r g (lo_of b) (hi_of b)) _ w.inner).0 in
      let i = (neither (outside r.mode g.mode 6) _ (neither (interval_fault (lo_of b) (hi_of b)) _ o).1).0 in
      (inside r.mode g.mode 6 (λ q. omega arith) i).1

  shape_again : plain_shape (row_for b) (shape_of (row_for b) b) ≡ shape_of (row_for b) b
  unfolding plain_shape
  shape_again =
      let r = row_for b in
      let g = shape_of r b in
      let l = laid r b w.one.exact in
      λ i. shape g.kind (kept_same r.p g.p l.p.1 i) (kept_same r.q g.q l.q.1 i) (kept_same r.mode g.mode mode_most i)

  plain_again : plain_by (row_for b) (formula_of (row_for b) b) ≡ formula_of (row_for b) b
  unfolding plain_by formula_of
  plain_again =
      let r = row_for b in
      ap (λ (g : Shape). formula (formula_number b) g (lo_of b) (hi_of b) (padded (words_by g (padded (words_of r b))))) shape_again
      ∙ ap (λ (ws : List ℤ). formula (formula_number b) (shape_of r b) (lo_of b) (hi_of b) (padded ws)) (words_in_lem r b)

  both_again : plain (formula_of (row_for b) b) ≡ formula_of (row_for b) b
  both_again = ap (λ (x : Row). plain_by x (formula_of (row_for b) b)) row_again ∙ plain_again

  pub own_bytes : bytes_of (formula_of (row_for b) b) ≡ b
  own_bytes = ap₂ record_bytes row_again both_again ∙ record_again

  counts : count_fault (row_for b) (shape_of (row_for b) b).p (shape_of (row_for b) b).q ≡ 0
  unfolding length_fault size_fault
  counts =
      let r = row_for b in
      (neither (count_fault r (shape_of r b).p (shape_of r b).q) _ (passed (ltb (length b) r.head) 2 _ (λ z. omega arith) w.one.exact).1).0

  values : value_fault s (row_for b) (shape_of (row_for b) b) (lo_of b) (hi_of b) (words_in (formula_of (row_for b) b)) ≡ 0
  values = ap (value_fault s (row_for b) (shape_of (row_for b) b) (lo_of b) (hi_of b)) (words_in_lem (row_for b) b) ∙ w.inner

  plain-length : (room : ℕ) → length b ≤ room → plain_writing s (row_for b) (formula_of (row_for b) b) room ≡ Ok (length b)
  unfolding plain_writing room_writing formula_of
  plain-length room g =
      let r = row_for b in
      let n = (laid r b w.one.exact).exact in
      sym (goes refused_by refl counts (goes refused_by refl values (rw (n, le-ltb room (length b) g) refl)))

  pub own-length : Scale s → (room : ℕ) → length b ≤ room → record_writing s (formula_of (row_for b) b) room ≡ Ok (length b)
  unfolding record_writing
  own-length k room g =
      let r = row_again in
      let f : only_formula (row_by (formula_of (row_for b) b)).class ≡ 0 = ap (λ (x : Row). only_formula x.class) r ∙ ap only_formula w.one.class in
      let p = ap₂ (λ (x : Row) (y : Formula). plain_writing s x y room) r both_again ∙ plain-length room g in
      sym (goes refused_by refl f (goes refused_by refl (no_scale_fault s k) (sym p)))

-- ---- a sheet

framing_again : (b : List ℕ) (r : Row) (count : ℕ) → Bytes b → length b ≡ 8 → r.head ≡ 8 → number4 b 0 ≡ length b → code_of b ≡ r.code → count_of b ≡ count → framing_bytes r count ≡ b
framing_again b r count h n e l c k = front_again b r.head r.code count h (omega (arith, n)) (l ∙ n ∙ sym e) c k ∙ take_all 8 b (omega (arith, n))

start_again : (b : List ℕ) (c : ℕ) → Bytes b → RecordOf StartRecord b → count_of b ≡ c → (length b ≡ 8) × (framing_bytes start_row c ≡ b)
start_again b c h o e =
    let n : length b ≡ 8 = sym (laid (row_for b) b o.exact).exact ∙ start-length (code_of b) o.class _ _ in
    let k : code_of b ≡ start_row.code = sym (code_found (code_of b) o.class tt) ∙ ap (λ (r : Row). r.code) (start_row_lem (code_of b) o.class) in
    (n, framing_again b start_row c h n start_head o.says k e)

end_again : (b : List ℕ) (c : ℕ) → Bytes b → RecordOf EndRecord b → count_of b ≡ c → (length b ≡ 8) × (framing_bytes end_row c ≡ b)
end_again b c h o e =
    let n : length b ≡ 8 = sym (laid (row_for b) b o.exact).exact ∙ end_length (code_of b) o.class _ _ in
    let k : code_of b ≡ end_row.code = sym (code_found (code_of b) o.class tt) ∙ ap (λ (r : Row). r.code) (end_row_lem (code_of b) o.class) in
    (n, framing_again b end_row c h n end_head o.says k e)

-- the run that stands in a sheet
run_in : (s c : ℕ) (bytes : List ℕ) (z : SheetOf s c bytes) → RunOf s c (in_line z.formulas)
run_in s c bytes z = record { formulas = z.formulas; whole = refl; many = z.many; most = z.opens.3; each = z.each; rising = z.rising }

-- what stands in a sheet of c formulas: start and end are written again, and the run stands between them
record Around (c : ℕ) (bytes run : List ℕ) (start finish : List ℕ) : Type 0 where
  opens : framing_bytes start_row c ≡ start
  closes : framing_bytes end_row c ≡ finish
  long : length bytes ≡ length run + added
  between : run_of bytes ≡ run

around : (s c : ℕ) (bytes : List ℕ) (z : SheetOf s c bytes) → Bytes bytes → Around c bytes (in_line z.formulas) z.start z.finish
around s c bytes z h =
    let run = in_line z.formulas in
    let t = subst Bytes z.whole h in
    let i = start_again z.start c (bytes_left z.start _ t) z.opens.0 z.opens.1 in
    let j = end_again z.finish c (bytes_right run z.finish (bytes_right z.start _ t)) z.closes.0 z.closes.1 in
    let n : length bytes ≡ length run + added = omega (arith, start_head, end_head, ap length z.whole, length-append z.start (run ++ z.finish), length-append run z.finish, i.0, j.0) in
    let k : length bytes - added ≡ length run = omega (arith, n) in
    record {
      opens = i.1;
      closes = j.1;
      long = n;
      between = rw k (ap (λ (l : List ℕ). take (length run) (drop start_row.head l)) z.whole ∙ ap (take (length run)) (drop_at z.start (run ++ z.finish) start_row.head (i.0 ∙ sym start_head)) ∙ take_at run z.finish (length run) refl);
    }

pub run_again : (s c : ℕ) (bytes : List ℕ) (z : SheetOf s c bytes) → Bytes bytes → run_of bytes ≡ in_line z.formulas
run_again s c bytes z h = (around s c bytes z h).between

pub writes_sheet : (s : ℕ) (bytes : List ℕ) (room : ℕ) → Accepted s bytes → Bytes bytes → length bytes ≤ room → (sheet_writing s (run_of bytes) room ≡ Ok (length bytes)) × (sheet_of s (run_of bytes) ≡ bytes)
writes_sheet s bytes room a h g =
    let c = count_value (formula_count s bytes) in
    let z = accepted_shape s bytes a in
    let o = around s c bytes z h in
    let run = in_line z.formulas in
    let r = run_in s c bytes z in
    let m : records_in (run_walked s run) ≡ c = ap records_in (run_is_whole s c run r).1 in (
      ap (λ (l : List ℕ). sheet_writing s l room) o.between ∙ sheet_written s c run room z.scale z.opens.2 r (omega (arith, o.long, g)) ∙ ap Ok (sym o.long),
      ap (sheet_of s) o.between ∙ rw m (rw (o.opens, o.closes) (sym z.whole)),
    )

-- ---- each formula that the reader gives

pub member : (s : ℕ) (b : List ℕ) (bs : List (List ℕ)) → EachFormula s bs → Bytes (in_line bs) → In b bs → FormulaBytes s b × Bytes b
member s b [] f h i = elim i [ ]
member s b (x ∷ xs) f h (inl e) = subst (λ (y : List ℕ). FormulaBytes s y × Bytes y) (sym e) (f.0, bytes_left x (in_line xs) h)
member s b (x ∷ xs) f h (inr i) = member s b xs f.1 (bytes_right x (in_line xs) h) i

holder : (n : ℕ) (bs : List (List ℕ)) → Has n bs → (b : List ℕ) × In b bs × (formula_number b ≡ n)
holder n [] i = elim i [ ]
holder n (x ∷ xs) (inl e) = (x, inl refl, e)
holder n (x ∷ xs) (inr i) = let t = holder n xs i in (t.0, inr t.1, t.2)

pub writes_record : (s c : ℕ) (bytes : List ℕ) (h : SheetOf s c bytes) (n : ℕ) → Bytes bytes → HasFormula s bytes n → OwnRecord s bytes n h.formulas
writes_record s c bytes h n t a =
    let x = holder n h.formulas ((found_exactly s c bytes h n).1 a) in
    let b = x.0 in
    let m = member s b h.formulas h.each (bytes_left (in_line h.formulas) h.finish (bytes_right h.start _ (subst Bytes h.whole t))) x.1 in
    let e : (formula_given (formula_read s bytes n)) ≡ formula_of (row_for b) b = ap formula_given (rw x.2 at (reads_record s c bytes h b x.1)) in
    record {
      here = b;
      one = x.1;
      number = x.2;
      again = rw e (own_bytes s b m.0 m.1);
      written = λ room g. rw e (own-length s b m.0 m.1 h.scale room g);
    }
