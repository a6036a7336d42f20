-- What `store` and `take` promise, from what they did to the area's parts. Assumes nothing.
use mathlib.Core.List.{List}
use mathlib.Core.Path.{◌≡◌, refl, sym, ap, ◌∙◌, subst}
use Prim.Native.Nat.{ℕ, ◌+◌}
use native.Mathlib.Omega.{arith}
use lib.IntN.{ℤ}
use Rattle.model.specs.declared.Sample.{Sample}
use Rattle.model.specs.declared.Tally.{Tally}
use Rattle.model.specs.Records.{sample_of}
use Rattle.model.specs.Tallies.{tally_from}
use Rattle.model.specs.Trip.{Trip, number, refused}
use Rattle.power.specs.Speeds.{Appended}
use Rattle.altitudes.specs.Ends.{Kept}
use Rattle.tally.specs.Add.{added}
use Rattle.tally_update.specs.Raised.{Added}
use Rattle.window.specs.Sweep.{Stepped}
use Rattle.area.specs.Layout.{samples_part, tally_part, altitudes_part, speeds_part, slots_part, Parts, parts_of, with, closed_mark, window_count, format_mark, tally_in, altitudes_in, speeds_in, slots_in}
use Rattle.area.specs.Stands.{damaged, Stands}
use Rattle.area.specs.Effects.{Changed, Numbered}
use Rattle.area_windows.specs.Effects.{CountedMoves}
use Rattle.taking.specs.Effects.{Taken, TakenSound, Accepts, number_fine}

number_same : (z y : ℤ) → number z ≡ number y → z ≡ y
number_same z y e = cc

-- what is said of two parts, said of equal ones
carried : (R : List ℕ → List ℕ → Type 0) {a a' b b' : List ℕ} → a ≡ a' → b' ≡ b → R a b → R a' b'
carried R {a} {a'} {b} {b'} e f r = subst (R a') (sym f) (subst (λ (l : List ℕ). R l b) e r)

-- the tally, then the windows, then the speeds, then the altitudes, then the number of samples; z is the altitude
pub taken : {k n : ℕ} {r : List ℕ} {x : Sample} {z : ℤ} {p p₁ p₂ p₃ p₄ q : Parts} → Changed tally_part (Added x) p p₁ → Changed slots_part (Stepped k n r) p₁ p₂
    → Changed speeds_part (Appended n x.speed) p₂ p₃ → Changed altitudes_part (Kept n z) p₃ p₄ → Numbered samples_part (n + 1) p₄ q → z ≡ x.altitude
    → TakenSound k n r x p q
unfolding with
taken {k} {n} {r} {x} {z} {p} {p₁} {p₂} {p₃} {p₄} {q} t w a b f ez sound =
    let is₁ = t.is ∙ ap (λ (l : List ℕ). with tally_part l p) (t.by sound) in
    let is₂ = w.is ∙ ap (with slots_part (slots_in p₂)) is₁ in
    let is₃ = a.is ∙ ap (with speeds_part (speeds_in p₃)) is₂ in
    let is₄ = b.is ∙ ap (with altitudes_part (altitudes_in p₄)) is₃ in
    let is = f.is ∙ ap (with samples_part (q samples_part)) is₄ in
    record {
      mark = ap closed_mark is;
      windows = ap window_count is;
      format = ap format_mark is;
      tally = ap tally_in is;
      samples = f.value;
      added = carried (Appended n x.speed) (ap speeds_in is₂) (ap speeds_in is) a.by;
      altitudes = carried (Kept n x.altitude) (ap altitudes_in is₃) (ap altitudes_in is) (subst (λ (y : ℤ). Kept n y (altitudes_in p₃) (altitudes_in p₄)) ez b.by);
      stepped = carried (Stepped k n r) (ap slots_in is₁) (ap slots_in is) w.by;
    }

-- a sample is taken
pub take_done : {s s' r : List ℕ} {n k : ℕ} {z : ℤ} {x₀ : Sample} → k ≡ window_count (parts_of s) → x₀ ≡ sample_of r
    → TakenSound k n r x₀ (parts_of s) (parts_of s') → CountedMoves (parts_of s') z → Accepts r n s (number z) s'
take_done {s} {s'} {r} {n} {k} {z} {x₀} ek ex x c = record {
  taken = λ y e h.
      let f : z ≡ y = number_same z y e in
      let t : Tally = tally_from (tally_in (parts_of s)) in
      let y₁ = subst (λ (m : ℕ). Taken m n r x₀ (added t x₀) (parts_of s) (parts_of s')) ek (x h) in
      let y₂ = subst (λ (w : Sample). Taken (window_count (parts_of s)) n r w (added t w) (parts_of s) (parts_of s')) ex y₁ in
      (y₂, λ l. sym f ∙ c l);
  unsound = λ j e. absurd (number_fine z j e);
  unjudged = λ v e. let w : ◌≡◌ {A = ℕ} 0 1 = cc in absurd (omega arith);
}

-- or the area is damaged
pub take_damaged : {s r : List ℕ} {n : ℕ} → ((t : Trip) → Stands s t → ⊥) → Accepts r n s (refused damaged) s
take_damaged g = record {
  taken = λ z e h. absurd (number_fine z damaged (sym e));
  unsound = λ j e. let f : damaged ≡ j = cc in (refl, (sym f, g));
  unjudged = λ v e. let w : ◌≡◌ {A = ℕ} 0 1 = cc in absurd (omega arith);
}
