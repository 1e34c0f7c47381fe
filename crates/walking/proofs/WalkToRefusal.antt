-- Where a walk over a sheet is broken, its bytes are at fault: past formulas without fault it comes to the first fault, or to an end with
-- bytes behind it. What a fault is does not depend on the number that is asked for.
use Rattle.whole.proofs.Basics.{◌≡◌, ◌∙◌, refl, sym, ap, subst, Bool, true, false, cond, ◌⊎◌, inl, inr, List, [], ◌∷◌, ◌++◌, append_assoc, ℕ, suc, zero, ◌+◌, ◌-◌, ◌≤◌, ◌<◌, arith, ltb, length, drop, length-append, ltb-true}
use native.Mathlib.Nat.{zero-add}
use lib.ListN.{length-drop}
use Rattle.table.specs.declared.Class.{Class}
use Rattle.table.specs.declared.Class.TheVariants.{StartRecord, FormulaRecord, EndRecord, Unknown}
use Rattle.table.specs.declared.Row.{Row}
use Rattle.layout.specs.Fields.{bytes_at, row_for, count_of}
use Rattle.refusal.specs.Guard.{refusal}
use Rattle.records.specs.Sheets.{RecordOf, EachFormula, Rising, in_line}
use Rattle.refusal.specs.declared.Refusal.{Refusal}
use Rattle.walking.specs.Walking.{walk, begin, class_fault, record_fault, record_here, fault_at, after_start, after_formula, ending, walk_from, walk_of, whole}
use Rattle.walking.specs.Refused.{next_number, fault_there, BehindFormulas, BehindTheEnd, RefusedAt}
use Rattle.walking.specs.declared.Walk.{Walk}
use Rattle.walking.proofs.Clear.{Clear, opened, moved, closed, by_record}
use Rattle.walking.proofs.Records.{record_at, split_at}
use Rattle.std.specs.Prelude.{Err, Option, None}

-- ---- the fault at a walk's place, whatever number is asked for
class_fault_lem : (s : ℕ) (k : Class) (r : Row) (b : List ℕ) (w : Walk) → class_fault s k r b (walk w.at w.count w.seen w.next None None) ≡ class_fault s k r b w
class_fault_lem s StartRecord r b w = refl
class_fault_lem s FormulaRecord r b w = refl
class_fault_lem s EndRecord r b w = refl
class_fault_lem s Unknown r b w = refl

pub there : (s : ℕ) (bytes : List ℕ) (w : Walk) → fault_there s bytes w.at w.count w.seen w.next ≡ fault_at s bytes 0 w
unfolding fault_at record_fault
there s bytes w =
    let b = record_here bytes 0 w in
    rw (class_fault_lem s (row_for b).class (row_for b) b w)

-- ---- how a broken walk ends

-- at a fault, behind `seen` formulas
record Fault (s : ℕ) (bytes : List ℕ) (place count seen next : ℕ) (r : Refusal) : Type 0 where
  place_is : r.place ≡ place
  fault : fault_there s bytes place count seen next ≡ r.number
  some : r.number ≡ 0 → ⊥

-- at an end, with bytes behind it
record Ended (place count seen : ℕ) (after : List ℕ) (r : Refusal) : Type 0 where
  finish : List ℕ
  behind : List ℕ
  whole : after ≡ finish ++ behind
  closes : RecordOf EndRecord finish × (count_of finish ≡ count)
  all : seen ≡ count
  more : 0 < length behind
  nine : r ≡ refusal (place + length finish) 9

-- what is left from a walk's place on
record Tail (s : ℕ) (bytes : List ℕ) (w : Walk) (r : Refusal) : Type 0 where
  formulas : List (List ℕ)
  after : List ℕ
  rest : drop (w.at - 0) bytes ≡ in_line formulas ++ after
  room : w.seen + length formulas ≤ w.count
  each : EachFormula s formulas
  rising : Rising w.next formulas
  ends : Fault s bytes (w.at + length (in_line formulas)) w.count (w.seen + length formulas) (next_number w.next formulas) r ⊎ Ended (w.at + length (in_line formulas)) w.count (w.seen + length formulas) after r

-- an end that is refused has bytes behind it
refused_end : (w : Walk) (e n : ℕ) (r : Refusal) → ending w e n ≡ Err r → (e < n) × (r ≡ refusal e 9)
unfolding ending
refused_end w e n r p = go (ltb e n) refl p
  where
    go : (b : Bool) → ltb e n ≡ b → cond b (Err (refusal e 9)) (whole w.count w.found) ≡ Err r → (e < n) × (r ≡ refusal e 9)
    go true h q = (ltb-true e n h, cc)
    go false h q = absurd (let x : ◌≡◌ {A = ℕ} 0 1 = cc in omega arith)

module _ (s : ℕ) (bytes : List ℕ) (r : Refusal) where
  at_fault : (w : Walk) → w.seen ≤ w.count → (fault_at s bytes 0 w ≡ 0 → ⊥) → r ≡ refusal w.at (fault_at s bytes 0 w) → Tail s bytes w r
  at_fault w m n e =
      let far : w.at ≡ w.at + length (in_line []) = omega arith in
      let many : w.seen ≡ w.seen + length {A = List ℕ} [] = omega arith in
      let f : Fault s bytes w.at w.count w.seen w.next r = record { place_is = ap (λ (x : Refusal). x.place) e; fault = there s bytes w ∙ sym (ap (λ (x : Refusal). x.number) e); some = λ z. n (sym (ap (λ (x : Refusal). x.number) e) ∙ z) } in
      record {
        formulas = [];
        after = drop (w.at - 0) bytes;
        rest = refl;
        room = omega (arith, m);
        each = tt;
        rising = tt;
        ends = inl (subst (λ (x : ℕ). Fault s bytes x w.count (w.seen + length {A = List ℕ} []) w.next r) far (subst (λ (y : ℕ). Fault s bytes w.at w.count y w.next r) many f));
      }

  at_end : (w : Walk) → Clear s bytes 0 w (record_here bytes 0 w) → (row_for (record_here bytes 0 w)).class ≡ EndRecord → ending w (w.at + length (record_here bytes 0 w)) (length bytes) ≡ Err r → Tail s bytes w r
  at_end w x e p =
      let b = record_here bytes 0 w in
      let n = closed x e in
      let z = refused_end w (w.at + length b) (length bytes) r p in
      record {
        formulas = [];
        after = drop (w.at - 0) bytes;
        rest = refl;
        room = omega (arith, n.2);
        each = tt;
        rising = tt;
        ends =
            inr
            (record {
              finish = b;
              behind = drop (w.at - 0 + length b) bytes;
              whole = split_at bytes (w.at - 0) x.frame;
              closes = (record_at bytes (w.at - 0) x.frame EndRecord e x.size, n.3);
              all = omega (arith, n.2);
              more = omega (arith, z.0, length-drop (w.at - 0 + length b) bytes);
              nine = z.1 ∙ ap (λ (n : ℕ). refusal n 9) (omega arith);
            });
      }

  at_formula : (w : Walk) → Clear s bytes 0 w (record_here bytes 0 w) → (row_for (record_here bytes 0 w)).class ≡ FormulaRecord → Tail s bytes (after_formula (record_here bytes 0 w) w) r → Tail s bytes w r
  at_formula w x e t =
      let b = record_here bytes 0 w in
      let m = moved x e in
      let i : w.at - 0 + length b ≡ w.at + length b - 0 = omega arith in
      let far : w.at + length b + length (in_line t.formulas) ≡ w.at + length (in_line (b ∷ t.formulas)) = omega (arith, length-append b (in_line t.formulas)) in
      let many : w.seen + 1 + length t.formulas ≡ w.seen + length (b ∷ t.formulas) = omega arith in
      record {
        formulas = b ∷ t.formulas;
        after = t.after;
        rest = split_at bytes (w.at - 0) x.frame ∙ ap (λ (y : List ℕ). b ++ y) (ap (λ (j : ℕ). drop j bytes) i ∙ t.rest) ∙ sym (append_assoc b (in_line t.formulas) t.after);
        room = omega (arith, t.room);
        each = (record { one = record_at bytes (w.at - 0) x.frame FormulaRecord e x.size; inner = m.3 }, t.each);
        rising = (m.2, t.rising);
        ends = rw (far, many) at t.ends;
      }

  tail : (n : ℕ) (w : Walk) → (w.at ≡ 0 → ⊥) → w.seen ≤ w.count → w.count < n + w.seen → walk_from n s bytes 0 w ≡ Err r → Tail s bytes w r
  tail zero w a m l e = absurd (omega (arith, m, l))
  tail (suc n) w a m l e =
      let b = record_here bytes 0 w in
      by_record s bytes 0 w n (Err r) e (λ d q. absurd (let z : ◌≡◌ {A = ℕ} 0 1 = cc in omega arith)) (λ f q. at_fault w m f cc) (λ x q p. absurd (a (opened x q).0))
      (λ x q p. at_formula w x q (tail n (after_formula b w) (λ z. a (omega (arith, z))) (omega (arith, m, (moved x q).1)) (omega (arith, l)) p))
      (at_end w)

  -- ---- from the start on
  module _ (asked : Option ℕ) (x : Clear s bytes 0 (begin 0 asked) (bytes_at bytes 0)) (e : (row_for (bytes_at bytes 0)).class ≡ StartRecord) where
    abbrev b : List ℕ
    b = bytes_at bytes 0

    opens : RecordOf StartRecord b × (1 ≤ count_of b) × (count_of b ≤ 64)
    opens = let o = opened x e in (record_at bytes 0 x.frame StartRecord e x.size, o.1, o.2)

    module _ (t : Tail s bytes (after_start b (begin 0 asked)) r) where
      parted : bytes ≡ b ++ (in_line t.formulas ++ t.after)
      parted =
          let i : length b ≡ length b - 0 = omega arith in
          rw (zero-add (length b)) at (split_at bytes 0 x.frame) ∙ ap (λ (y : List ℕ). b ++ y) (ap (λ (j : ℕ). drop j bytes) i ∙ t.rest)

      at_formulas : Fault s bytes (length b + length (in_line t.formulas)) (count_of b) (0 + length t.formulas) (next_number 0 t.formulas) r → BehindFormulas s bytes r
      at_formulas f =
          record {
            start = b;
            formulas = t.formulas;
            after = t.after;
            whole = parted;
            scale = (opened x e).3;
            opens = opens;
            room = omega (arith, t.room);
            each = t.each;
            rising = t.rising;
            place = f.place_is;
            fault = rw (f.place_is, ← zero-add (length t.formulas)) f.fault;
            some = f.some;
          }

      behind_end : Ended (length b + length (in_line t.formulas)) (count_of b) (0 + length t.formulas) t.after r → BehindTheEnd s bytes r
      behind_end d =
          let sheet = b ++ (in_line t.formulas ++ d.finish) in
          let long : length sheet ≡ length b + length (in_line t.formulas) + length d.finish = omega (arith, length-append b (in_line t.formulas ++ d.finish), length-append (in_line t.formulas) d.finish) in
          record {
            count = count_of b;
            sheet = sheet;
            after = d.behind;
            whole =
                parted
                ∙ ap (λ (y : List ℕ). b ++ (in_line t.formulas ++ y)) d.whole
                ∙ ap (λ (y : List ℕ). b ++ y) (sym (append_assoc (in_line t.formulas) d.finish d.behind))
                ∙ sym (append_assoc b (in_line t.formulas ++ d.finish) d.behind);
            shape =
                record {
                  scale = (opened x e).3;
                  start = b;
                  formulas = t.formulas;
                  finish = d.finish;
                  whole = refl;
                  opens = (opens.0, refl, opens.1, opens.2);
                  many = omega (arith, d.all);
                  each = t.each;
                  rising = t.rising;
                  closes = d.closes;
                };
            more = d.more;
            nine = d.nine ∙ ap (λ (n : ℕ). refusal n 9) (sym long);
          }

      behind_start : RefusedAt s bytes r
      behind_start = at t.ends
        where
          at : Fault s bytes (length b + length (in_line t.formulas)) (count_of b) (0 + length t.formulas) (next_number 0 t.formulas) r ⊎ Ended (length b + length (in_line t.formulas)) (count_of b) (0 + length t.formulas) t.after r → RefusedAt s bytes r
          at (inl f) = inr (inl (at_formulas f))
          at (inr d) = inr (inr (behind_end d))

  pub refused_at : (asked : Option ℕ) → walk_of s bytes 0 asked ≡ Err r → RefusedAt s bytes r
  unfolding walk_of
  refused_at asked e = by_record s bytes 0 (begin 0 asked) 65 (Err r) e (λ d q. absurd (let z : ◌≡◌ {A = ℕ} 0 1 = cc in omega arith)) (λ f q. first f cc) started (λ x q p. absurd ((moved x q).0 refl)) (λ x q p. absurd ((closed x q).0 refl))
    where
      first : (fault_at s bytes 0 (begin 0 asked) ≡ 0 → ⊥) → r ≡ refusal 0 (fault_at s bytes 0 (begin 0 asked)) → RefusedAt s bytes r
      first f q =
          let n = ap (λ (y : Refusal). y.number) q in
          inl (record { place = ap (λ (y : Refusal). y.place) q; fault = there s bytes (begin 0 asked) ∙ sym n; some = λ z. f (sym n ∙ z) })

      started : Clear s bytes 0 (begin 0 asked) (bytes_at bytes 0) → (row_for (bytes_at bytes 0)).class ≡ StartRecord → walk_from 65 s bytes 0 (after_start (bytes_at bytes 0) (begin 0 asked)) ≡ Err r → RefusedAt s bytes r
      started x q p =
          let o = opens asked x q in
          behind_start asked x q (tail 65 (after_start (bytes_at bytes 0) (begin 0 asked)) (λ z. omega (arith, z, o.0.least)) (omega arith) (omega (arith, o.2)) p)
