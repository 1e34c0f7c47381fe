-- A walk that ends well, from its end backwards: the records that it went over.
use Rattle.whole.proofs.Basics.{◌≡◌, ◌∙◌, refl, sym, ap, subst, Bool, true, false, cond, List, [], ◌∷◌, ◌++◌, append_assoc, append-nil, ℕ, suc, zero, ◌+◌, ◌-◌, ◌≤◌, arith, ltb, length, drop, eqb-true, ltb-false}
use native.Mathlib.Nat.{zero-add}
use lib.ListN.{drop_of_length-le}
use Rattle.table.specs.declared.Class.TheVariants.{StartRecord, FormulaRecord, EndRecord}
use Rattle.layout.specs.Fields.{bytes_at, row_for, count_of}
use Rattle.layout.proofs.Cut.{length-bytes_at}
use Rattle.refusal.specs.Guard.{refusal}
use Rattle.faults.proofs.Frames.{framed, reaches}
use Rattle.records.specs.Sheets.{RecordOf, EachFormula, Rising, in_line, SheetOf, RunOf}
use Rattle.walking.specs.Walking.{begin, record_here, after_start, after_formula, ending, run_done, walk_from, walk_of, Walked, whole}
use Rattle.walking.specs.declared.Walk.{Walk}
use Rattle.walking.proofs.Clear.{Clear, opened, moved, closed, by_record}
use Rattle.walking.proofs.Records.{record_at, split_at}
use Rattle.walking.proofs.Going.{run_room}
use Rattle.std.specs.Prelude.{Err, Ok, Option}

-- how it ends: a sheet with an end record of the count, behind as many formulas; a run with its last byte
abbrev Ends : ℕ → ℕ → ℕ → ℕ → List ℕ → Type 0
Ends zero seen count c finish = RecordOf EndRecord finish × (count_of finish ≡ c) × (seen ≡ c) × (count ≡ c)
Ends (suc n) seen count c finish = (finish ≡ []) × (seen ≡ c)

-- what is left from a walk's place on
record Tail (s : ℕ) (bytes : List ℕ) (from : ℕ) (w : Walk) (c : ℕ) : Type 0 where
  formulas : List (List ℕ)
  finish : List ℕ
  rest : drop (w.at - from) bytes ≡ in_line formulas ++ finish
  room : w.seen + length formulas ≤ w.count
  each : EachFormula s formulas
  rising : Rising w.next formulas
  ends : Ends from (w.seen + length formulas) w.count c finish

-- the count of a walk that ends well
abbrev counted : Walked → ℕ
counted (Ok w) = w.count
counted (Err r) = 0

-- an end that is whole has nothing behind it
last : (w : Walk) (e n c : ℕ) (k : Option ℕ) → ending w e n ≡ whole c k → (n ≤ e) × (w.count ≡ c)
unfolding ending
last w e n c k p = go (ltb e n) refl p
  where
    go : (b : Bool) → ltb e n ≡ b → cond b (Err (refusal e 9)) (whole w.count w.found) ≡ whole c k → (n ≤ e) × (w.count ≡ c)
    go true h q = absurd (let x : ◌≡◌ {A = ℕ} 0 1 = cc in omega arith)
    go false h q = (ltb-false e n h, ap counted q)

module _ (s : ℕ) (bytes : List ℕ) (from c : ℕ) (k : Option ℕ) where
  -- a run that is done
  run_end : (w : Walk) → w.seen ≤ w.count → run_done bytes from w ≡ true → w.seen ≡ c → Tail s bytes from w c
  run_end w l d e = by from d
    where
      by : (f : ℕ) → run_done bytes f w ≡ true → Tail s bytes f w c
      by zero q = absurd (let x : ◌≡◌ {A = ℕ} 0 1 = cc in omega arith)
      by (suc n) q =
          record {
            formulas = [];
            finish = [];
            rest = drop_of_length-le bytes {i = w.at - suc n} (omega (arith, eqb-true (w.at - suc n) (length bytes) q));
            room = omega (arith, l);
            each = tt;
            rising = tt;
            ends = (refl, omega (arith, e));
          }

  -- an end record
  at_end : (w : Walk) → from ≤ w.at → Clear s bytes from w (record_here bytes from w) → (row_for (record_here bytes from w)).class ≡ EndRecord → ending w (w.at + length (record_here bytes from w)) (length bytes) ≡ whole c k → Tail s bytes from w c
  at_end w l x e p =
      let b = record_here bytes from w in
      let m = closed x e in
      let z = last w (w.at + length b) (length bytes) c k p in
      subst (λ (f : ℕ). Tail s bytes f w c) (sym m.1)
      (record {
        formulas = [];
        finish = b;
        rest =
            let i : w.at - 0 ≡ w.at - from = omega (arith, m.1) in
            ap (λ (j : ℕ). drop j bytes) i ∙ split_at bytes (w.at - from) x.frame
            ∙ ap (λ (t : List ℕ). b ++ t) (drop_of_length-le bytes {i = w.at - from + length b} (omega (arith, z.0, m.1))) ∙ append-nil b;
        room = omega (arith, m.2);
        each = tt;
        rising = tt;
        ends = (record_at bytes (w.at - from) x.frame EndRecord e x.size, m.3 ∙ z.1, omega (arith, m.2, z.1), z.1);
      })

  -- a formula, in front of what follows it
  at_formula : (w : Walk) → Clear s bytes from w (record_here bytes from w) → from ≤ w.at → (row_for (record_here bytes from w)).class ≡ FormulaRecord → Tail s bytes from (after_formula (record_here bytes from w) w) c → Tail s bytes from w c
  at_formula w x l e t =
      let b = record_here bytes from w in
      let m = moved x e in
      let i : w.at + length b - from ≡ w.at - from + length b = omega (arith, l) in
      record {
        formulas = b ∷ t.formulas;
        finish = t.finish;
        rest =
            split_at bytes (w.at - from) x.frame
            ∙ ap (λ (r : List ℕ). b ++ r) (sym (ap (λ (j : ℕ). drop j bytes) i) ∙ t.rest) ∙ sym (append_assoc b (in_line t.formulas) t.finish);
        room = omega (arith, t.room);
        each = (record { one = record_at bytes (w.at - from) x.frame FormulaRecord e x.size; inner = m.3 }, t.each);
        rising = (m.2, t.rising);
        ends = let n : w.seen + 1 + length t.formulas ≡ w.seen + length (b ∷ t.formulas) = omega arith in subst (λ (j : ℕ). Ends from j w.count c t.finish) n t.ends;
      }

  tail : (n : ℕ) (w : Walk) → (w.at ≡ 0 → ⊥) → from ≤ w.at → w.seen ≤ w.count → walk_from n s bytes from w ≡ whole c k → Tail s bytes from w c
  unfolding walk_from
  tail zero w a l m e = absurd (let z : ◌≡◌ {A = ℕ} 0 1 = cc in omega arith)
  tail (suc n) w a l m e =
      let b = record_here bytes from w in
      by_record s bytes from w n (whole c k) e (λ d q. run_end w m d (ap counted q)) (λ n q. absurd (let z : ◌≡◌ {A = ℕ} 0 1 = cc in omega arith)) (λ x q p. absurd (a (opened x q).0))
      (λ x q p. at_formula w x l q (tail n (after_formula b w) (λ z. a (omega (arith, z))) (omega (arith, l)) (omega (arith, m, (moved x q).1)) p))
      (at_end w l)

-- ---- of a sheet
module _ (s : ℕ) (bytes : List ℕ) (c : ℕ) (k asked : Option ℕ) where
  opening : Clear s bytes 0 (begin 0 asked) (bytes_at bytes 0) → (row_for (bytes_at bytes 0)).class ≡ StartRecord → walk_from 65 s bytes 0 (after_start (bytes_at bytes 0) (begin 0 asked)) ≡ whole c k → SheetOf s c bytes
  opening x e p =
      let b = bytes_at bytes 0 in
      let o = opened x e in
      let f = framed bytes 0 x.frame in
      let l = length-bytes_at bytes 0 (reaches bytes 0 f) in
      let t = tail s bytes 0 c k 65 (after_start b (begin 0 asked)) (λ z. omega (arith, z, l, f.least)) (omega arith) (omega arith) p in
      let m = t.ends.3 in
      record {
        scale = o.3;
        start = b;
        formulas = t.formulas;
        finish = t.finish;
        whole =
            let i : length b ≡ length b - 0 = omega arith in
            rw (zero-add (length b)) at (split_at bytes 0 x.frame) ∙ ap (λ (r : List ℕ). b ++ r) (ap (λ (j : ℕ). drop j bytes) i ∙ t.rest);
        opens = (record_at bytes 0 x.frame StartRecord e x.size, m, omega (arith, o.1, m), omega (arith, o.2, m));
        many = omega (arith, t.ends.2);
        each = t.each;
        rising = t.rising;
        closes = (t.ends.0, t.ends.1);
      }

  pub shape : walk_of s bytes 0 asked ≡ whole c k → SheetOf s c bytes
  unfolding walk_of
  shape e =
      by_record s bytes 0 (begin 0 asked) 65 (whole c k) e (λ d q. absurd (let x : ◌≡◌ {A = ℕ} 0 1 = cc in omega arith)) (λ n q. absurd (let x : ◌≡◌ {A = ℕ} 0 1 = cc in omega arith)) opening
      (λ x q p. absurd ((moved x q).0 refl))
      (λ x q p. absurd ((closed x q).0 refl))

-- ---- of a run
pub run_shape : (s : ℕ) (bytes : List ℕ) (from c : ℕ) (k asked : Option ℕ) → walk_of s bytes (suc from) asked ≡ whole c k → RunOf s c bytes
unfolding walk_of
run_shape s bytes from c k asked e =
    let t = tail s bytes (suc from) c k 66 (begin (suc from) asked) (λ z. omega (arith, z)) (omega arith) (omega arith) e in
    record {
      formulas = t.formulas;
      whole =
          let i : 0 ≡ suc from - suc from = omega arith in
          ap (λ (j : ℕ). drop j bytes) i ∙ t.rest ∙ ap (λ (r : List ℕ). in_line t.formulas ++ r) t.ends.0 ∙ append-nil (in_line t.formulas);
      many = omega (arith, t.ends.1);
      most = omega (arith, t.room, t.ends.1, run_room from asked);
      each = t.each;
      rising = t.rising;
    }
