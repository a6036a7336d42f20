-- How a call's return shows its `Step`: a wrong length, a refusal, an answer. Assumes nothing.
use Rattle.std.specs.Prelude.{Bool, true, false, not, ◌&&◌, List, refl, ℕ, ◌<◌, eqb, ltb, length}
use Rattle.std.proofs.Common.{true≢false, sym, subst, ◌∙◌, arith, ltb-true, eq-eqb}
use Rattle.std.specs.Prelude.{None, Some}
use Rattle.std.proofs.Math.Path.{◌≡◌, ap}
use Rattle.model.specs.Numbers.{bit}
use Rattle.model.specs.Records.{record_length}
use Rattle.model.specs.Trip.{Trip, Call, clear, record_of, Answer, refused, refuse, accept, outcome, said, left}
use Rattle.laws.specs.Tests.{both}
use Rattle.area.specs.Layout.{area_len, parts_of, format_mark, format_number}
use Rattle.area.specs.Stands.{damaged, Stands}
use Rattle.steps.specs.Step.{Exactly, WrongRecord, Step}

-- no record of another length: the call lends none, or one of the right length
pub unlent : (c : Call) → record_of c ≡ None → WrongRecord c → ⊥
unlent c e w = let l = w.lent in let z : ◌≡◌ {A = ℕ} 0 1 = cc in omega arith

pub whole_lent : (c : Call) (r : List ℕ) → record_of c ≡ Some r → length r ≡ record_length → WrongRecord c → ⊥
whole_lent c r e l w = let f = w.lent in let same : r ≡ w.bytes = cc in w.other (rw same at l)

-- a refusal's number
same_number : {j k : ℕ} → refused j ≡ refused k → j ≡ k
same_number e = cc

-- the numbers of the refusals behind 11 and 1
abbrev pub later : ℕ → Bool
later k = ltb 1 k && not (eqb k 11)

later_facts : (k : ℕ) → later k ≡ true → (1 < k) × (k ≡ 11 → ⊥)
later_facts k e = let f = both _ _ e in (ltb-true 1 k f.0, λ g. true≢false (sym f.1 ∙ rw (eq-eqb k 11 g)))

-- what is promised of the array that the lent bytes are is promised of the bytes: where the call writes the array, and where it only reads it
pub step_of : {c : Call} {s t s' : List ℕ} {a : Answer} → t ≡ s → Step c t a s' → Step c s a s'
step_of {c} {s} {t} {s'} {a} e st = subst (λ (l : List ℕ). Step c l a s') e st

pub step_seen : {c : Call} {s t : List ℕ} {a : Answer} → t ≡ s → Step c t a t → Step c s a s
step_seen {c} {s} {t} {a} e st = subst (λ (l : List ℕ). Step c l a l) e st

-- and where the lent record is an array too
pub step_lent : (call : List ℕ → Call) {r q s t s' : List ℕ} {a : Answer} → q ≡ r → t ≡ s → Step (call q) t a s' → Step (call r) s a s'
step_lent call {r} {q} {s} {t} {s'} {a} e f st = step_of f (subst (λ (l : List ℕ). Step (call l) t a s') e st)

pub wrong_step : (c : Call) {s : List ℕ} → (length s ≡ area_len → ⊥) → Step c s (refused 11) s
wrong_step c {s} h = record {
  wrong = record { when = λ _. refl; only = λ _. h };
  sized = record { when = λ w. absurd (h w.0); only = λ e. absurd (let z : ◌≡◌ {A = ℕ} 11 1 = same_number e in omega arith) };
  kept = λ k e. let z : ◌≡◌ {A = ℕ} 11 k = same_number e in (refl, omega arith);
  fresh = λ e l. absurd (h l);
  unmarked = λ e l. absurd (h l);
  model = λ t st. absurd (h st.size);
}

-- a call on an area of the right length, but for clear
module _ (c : Call) (other : c ≡ clear → ⊥) (s : List ℕ) (size : length s ≡ area_len) where
  right : {k : ℕ} → (k ≡ 11 → ⊥) → Exactly (refused k ≡ refused 11) (length s ≡ area_len → ⊥)
  right n = record { when = λ w. absurd (w size); only = λ e. absurd (n (same_number e)) }

  -- its record has another length
  pub short_step : WrongRecord c → ((t : Trip) → Stands s t → outcome t c ≡ refuse 1) → Step c s (refused 1) s
  unfolding said left
  short_step w g = record {
    wrong = right (λ e. omega arith);
    sized = record { when = λ _. refl; only = λ _. (size, w) };
    kept = λ j e. let z : ◌≡◌ {A = ℕ} 1 j = same_number e in (refl, omega arith);
    fresh = λ e. absurd (other e);
    unmarked = λ e l whole. absurd (whole w);
    model = λ t st. rw (g t st) (refl, st);
  }

  module _ (whole : WrongRecord c → ⊥) where
    long : {a : Answer} → (a ≡ refused 1 → ⊥) → Exactly (a ≡ refused 1) ((length s ≡ area_len) × WrongRecord c)
    long n = record { when = λ w. absurd (whole w.1); only = λ e. absurd (n e) }

    -- a refusal behind 11 and 1
    refused_by : (k : ℕ) → later k ≡ true → ((format_mark (parts_of s) ≡ format_number → ⊥) → k ≡ damaged) → ((t : Trip) → Stands s t → outcome t c ≡ refuse k)
        → Step c s (refused k) s
    unfolding said left
    refused_by k l f g =
        let h = later_facts k l in
        record {
          wrong = right h.1;
          sized = long (λ e. let z : k ≡ 1 = same_number e in omega (arith, h.0));
          kept = λ j e. let z : k ≡ j = same_number e in (refl, omega (arith, h.0));
          fresh = λ e. absurd (other e);
          unmarked = λ e l w u. ap refused (f u);
          model = λ t st. rw (g t st) (refl, st);
        }

    -- the area is found to stand for no trip
    pub damaged_step : ((t : Trip) → Stands s t → ⊥) → Step c s (refused damaged) s
    damaged_step g = refused_by damaged refl (λ u. refl) (λ t st. absurd (g t st))

    -- it lacks the format mark
    pub unmarked_step : (format_mark (parts_of s) ≡ format_number → ⊥) → Step c s (refused damaged) s
    unmarked_step u = damaged_step (λ t st. u st.holds.format)

    module _ (format : format_mark (parts_of s) ≡ format_number) where
      pub refused_step : (k : ℕ) → later k ≡ true → ((t : Trip) → Stands s t → outcome t c ≡ refuse k) → Step c s (refused k) s
      refused_step k l g = refused_by k l (λ u. absurd (u format)) g

      pub done_step : {s' : List ℕ} (a : Answer) → ((k : ℕ) → a ≡ refused k → ⊥)
          → ((t : Trip) → Stands s t → (t' : Trip) × (outcome t c ≡ accept a t') × Stands s' t') → Step c s a s'
      unfolding said left
      done_step a fine g = record {
        wrong = record { when = λ w. absurd (w size); only = λ e. absurd (fine 11 e) };
        sized = long (fine 1);
        kept = λ k e. absurd (fine k e);
        fresh = λ e. absurd (other e);
        unmarked = λ e l w u. absurd (u format);
        model = λ t st. rw (g t st).1 (refl, (g t st).2);
      }

-- the closed mark as it stands in the area
pub marked : (b : Bool) → (bit b ≡ 0 → ⊥) → b ≡ true
marked true h = refl
marked false h = absurd (h refl)

pub unmarked : (b : Bool) → bit b ≡ 0 → b ≡ false
unmarked true h = let z : ◌≡◌ {A = ℕ} 1 0 = h in absurd (omega arith)
unmarked false h = refl
