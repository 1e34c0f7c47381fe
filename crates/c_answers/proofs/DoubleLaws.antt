-- From what the desk shows as doubles to what C is given, case by case; and that the double is settled.
use Rattle.whole.proofs.Basics.{◌≡◌, ◌∙◌, refl, sym, ap, ℕ}
use Rattle.door.proofs.Determined.{exactly_unique}
use Rattle.sheet.specs.Reader.{Reading}
use Rattle.refusal.specs.declared.Refusal.{Refusal}
use Rattle.desk.specs.Desk.{ShownAs, IntervalAs, Showing, Interval}
use Rattle.c_answers.specs.Answers.{mark_of, shown, spanned, ShownBy, SpannedBy}
use Rattle.c_answers.specs.declared.answers.ShownValue.{ShownValue}
use Rattle.answering.specs.Answering.{Evaluation}
use Rattle.std.specs.Prelude.{Err, Ok}

pub shown_by : (s : ℕ) (e : Evaluation) (a : Showing) → ShownAs s e a → ShownBy s e (shown a)
shown_by s (Ok w) (Ok a) h = (refl, refl, h.0, h.1, ap mark_of h.2)
shown_by s (Ok w) (Err r) h = absurd h
shown_by s (Err q) (Ok a) h = absurd h
shown_by s (Err q) (Err r) h = ap (λ (p : Refusal). shown (Err p)) h

-- only one double is exactly a word divided by 2^s
pub shown_by_once : (s : ℕ) (e : Evaluation) (x y : ShownValue) → ShownBy s e x → ShownBy s e y → x ≡ y
shown_by_once s (Ok w) x y p q =
    let value = exactly_unique s w.word x.value y.value p.2 q.2 in
    λ i. record { refused = (p.0 ∙ sym q.0) i; place = (p.1 ∙ sym q.1) i; value = value i; steps = (p.3 ∙ sym q.3) i; exact = (p.4 ∙ sym q.4) i }
shown_by_once s (Err r) x y p q = p ∙ sym q

pub spans_by : (s : ℕ) (a : Reading) (i : Interval) → IntervalAs s a i → SpannedBy s a (spanned i)
spans_by s (Ok f) (Ok e) h = (refl, refl, h.0, h.1)
spans_by s (Ok f) (Err r) h = absurd h
spans_by s (Err q) (Ok e) h = absurd h
spans_by s (Err q) (Err r) h = ap (λ (p : Refusal). spanned (Err p)) h
