-- A slot's list after some appends and removals: what the functions over `append` and `remove` ensure, and the laws of their returns.
--     displaces_in                whether a new value displaces an entry
--     Became, ListStepped        after any number of moves, and after those of one sample more
--     unmoved, then, as_list     they compose
--     became-..                  the list's number; what the window reads is as before
--     fit_after                  a list that is fit after a write
-- Assumes nothing.
use Rattle.std.specs.Prelude.{◌≡◌, refl, Bool, Option, Some, None, is_some, unwrap_or, false, ℕ, suc, ◌+◌, ◌-◌, ◌*◌, ◌^◌, ◌≤◌, ◌<◌, ℤ, pos, length, get_or}
use Rattle.std.proofs.Common.{sym, ap, ◌∙◌, zero-add, arith, length-append}
use Rattle.std.proofs.Math.Path.{ap₂}
use mathlib.Core.List.{List, [], ◌∷◌, ◌++◌}
use Rattle.std.proofs.Math.Bool.{true}
use Rattle.model.specs.declared.Function.{Function}
use Rattle.model.specs.declared.Function.TheVariants as function
use Rattle.model.specs.Numbers.{bit, le_at}
use Rattle.model.specs.Records.{record_length, sample_of, channel}
use Rattle.model.specs.Windows.{displaces}
use Rattle.field.specs.Le.{le_part}
use Rattle.slide.specs.Undisplaced.{pops, pops_none, pops_turn, pops_end, aged, aged_goes, aged_stays}
use Rattle.slide.specs.Held.{stepped}
use Rattle.slots.specs.Layout.{slot_of, first_place, list_len, list_capacity, first_of, number_of, moves_of, record_of, record_in, value_in}
use Rattle.slots.specs.Effects.{Around, record_around, record_same, Beside, beside_same, beside_then}
use Rattle.lists.specs.declared.End.{End}
use Rattle.lists.specs.declared.End.TheVariants.{Front, Back}
use Rattle.list_steps.specs.declared.Extreme.{Extreme}
use Rattle.list_steps.specs.declared.Extreme.TheVariants.{Smallest, Largest}
use Rattle.lists.specs.Lists.{Ready, Moved, Fit, list_of, number_length, shorter, shorter_length}

-- the function of a window of smallest or largest, and its code
abbrev pub extreme_function : Extreme → Function
extreme_function Smallest = function.Smallest
extreme_function Largest = function.Largest

abbrev pub extreme_code : Extreme → ℕ
extreme_code Smallest = 2
extreme_code Largest = 3

-- whether a new value displaces what slot k's window reads of a second; an equal one does
unfoldable pub displaces_in : Extreme → ℤ → List ℕ → ℕ → ℕ → Bool
displaces_in extreme new p k s = displaces (extreme_function extreme) new (value_in p k s)

-- slot k's list is now l; e entries came, the moves are as many as that takes, and nothing else is written
pub record Became (k : ℕ) (p q l : List ℕ) (e : ℕ) : Type 0 where
  pub list : list_of q k ≡ l
  pub moves : moves_of q + length l ≡ moves_of p + number_of p k + 2 * e
  pub around : Around first_place list_len (slot_of p k) (slot_of q k)
  pub beside : Beside k p q
  pub first : first_of p k < list_capacity → first_of q k < list_capacity

pub unmoved : (k : ℕ) (p l : List ℕ) → l ≡ list_of p k → Became k p p l 0
unmoved k p l e = record {
  list = sym e;
  moves = omega (arith, ap length e, number_length (slot_of p k));
  around = λ i m z. refl;
  beside = beside_same k p;
  first = λ h. h;
}

pub became_number : (k : ℕ) (p q l : List ℕ) (e : ℕ) → Became k p q l e → number_of q k ≡ length l
became_number k p q l e b = sym (number_length (slot_of q k)) ∙ ap length b.list

pub then : (k : ℕ) (p q r l l' : List ℕ) (e e' : ℕ) → Became k p q l e → Became k q r l' e' → Became k p r l' (e + e')
then k p q r l l' e e' b c = record {
  list = c.list;
  moves = omega (arith, c.moves, b.moves, became_number k p q l e b);
  around = λ i m z. c.around i m z ∙ b.around i m z;
  beside = beside_then k p q r b.beside c.beside;
  first = λ h. c.first (b.first h);
}

-- a list named another way
pub as_list : (k : ℕ) (p q l l' : List ℕ) (e : ℕ) → l ≡ l' → Became k p q l e → Became k p q l' e
as_list k p q l l' e h b = rw h at b

-- what slot k's window reads of a second, where the window record and the second's record are the same
module _ (p q : List ℕ) (k s : ℕ) (here : record_in (slot_of q k) ≡ record_in (slot_of p k)) (there : record_of q s ≡ record_of p s) where
  field : (m b : ℕ) → b + m ≤ record_length → le_at m (slot_of q k) b ≡ le_at m (slot_of p k) b
  field m b h = sym (inner q) ∙ ap (λ (r : List ℕ). le_at m r b) here ∙ inner p
    where
      inner : (x : List ℕ) → le_at m (record_in (slot_of x k)) b ≡ le_at m (slot_of x k) b
      inner x = rw zero-add at (le_part (slot_of x k) 0 record_length m b h)

  value_same : value_in q k s ≡ value_in p k s
  unfolding value_in
  value_same = ap₂ (λ (c : ℕ) (r : List ℕ). channel c (sample_of r)) (field 1 1 (omega arith)) there

-- what the window reads is as before, and so is what a new value displaces
module _ (k : ℕ) (p q l : List ℕ) (e : ℕ) (b : Became k p q l e) where
  became_value : (s : ℕ) → value_in q k s ≡ value_in p k s
  became_value s =
      value_same p q k s (record_around first_place list_len (slot_of p k) (slot_of q k) b.around (omega arith)) (record_same p q s b.beside.front)

  became_displaces : (extreme : Extreme) (new : ℤ) → displaces_in extreme new q k ≡ displaces_in extreme new p k
  unfolding displaces_in
  became_displaces extreme new = λ i s. displaces (extreme_function extreme) new (became_value s i)

pub list_some : (p : List ℕ) (k : ℕ) → 0 < number_of p k → 0 < length (list_of p k)
list_some p k h = omega (arith, number_length (slot_of p k))

-- one removal, and one append
pub shrunk : (k : ℕ) (p q l : List ℕ) (b : End) → 0 < number_of p k → l ≡ shorter b (list_of p k) → Moved k p q (shorter b (list_of p k)) → Became k p q l 0
shrunk k p q l b z e m = record {
  list = m.list ∙ sym e;
  moves = let n = number_length (slot_of p k) in omega (arith, m.moves, ap length e, shorter_length b (list_of p k) (omega arith));
  around = m.around;
  beside = m.beside;
  first = λ h. m.first;
}

pub grown : (k : ℕ) (p q : List ℕ) (v : ℕ) → Moved k p q (list_of p k ++ (v ∷ [])) → Became k p q (list_of p k ++ (v ∷ [])) 1
grown k p q v m = record {
  list = m.list;
  moves = omega (arith, m.moves, length-append (list_of p k) (v ∷ []), number_length (slot_of p k));
  around = m.around;
  beside = m.beside;
  first = λ h. m.first;
}

-- the first stays where the window does not leave it behind, and goes where it does
pub not_left_behind : (w s k : ℕ) (p : List ℕ) → (0 < number_of p k → get_or (list_of p k) 0 0 + w ≡ s → ⊥) → Became k p p (aged w s (list_of p k)) 0
not_left_behind w s k p h = unmoved k p _ (aged_stays w s (list_of p k) (λ z. h (omega (arith, number_length (slot_of p k)))))

pub left_behind : (w s k : ℕ) (p q : List ℕ) → 0 < number_of p k → get_or (list_of p k) 0 0 + w ≡ s → Moved k p q (shorter Front (list_of p k))
    → Became k p q (aged w s (list_of p k)) 0
unfolding shorter
left_behind w s k p q z e m = shrunk k p q _ Front z (aged_goes w s (list_of p k) (list_some p k z) e) m

pub fit_after : (k : ℕ) (p q l : List ℕ) → Fit p k → Became k p q l 0 → length l ≤ list_capacity → Fit q k
fit_after k p q l f b h =
    let n = became_number k p q l 0 b in
    record {
      ready = record { size = b.beside.size ∙ f.ready.size; slot = f.ready.slot; first = b.first f.ready.first };
      number = omega arith;
      room = omega (arith, b.moves, f.room);
    }

pops_length : (d : ℕ → Bool) (l : List ℕ) → length (pops d l) ≤ length l
unfolding pops
pops_length d [] = omega arith
pops_length d (x ∷ l) = go (pops d l) (d x) refl refl (pops_length d l)
  where
    go : (m : List ℕ) (b : Bool) → pops d l ≡ m → d x ≡ b → length (pops d l) ≤ length l → length (pops d (x ∷ l)) ≤ suc (length l)
    go [] true e f h = rw (e, f) (omega arith)
    go [] false e f h = rw (e, f) (omega arith)
    go (z ∷ m) b e f h = rw e (omega (arith, ap length e))

-- the loop that pops, after some turns: n entries are left
pub record Popping (extreme : Extreme) (new : ℤ) (k : ℕ) (p₀ p : List ℕ) (n : ℕ) : Type 0 where
  pub fit : Fit p k
  pub done : Became k p₀ p (list_of p k) 0
  pub same : pops (displaces_in extreme new p₀ k) (list_of p k) ≡ pops (displaces_in extreme new p₀ k) (list_of p₀ k)
  pub number : n ≡ number_of p k

pub pop_start : (extreme : Extreme) (new : ℤ) (k : ℕ) (p : List ℕ) (n : ℕ) → Fit p k → n ≡ number_of p k → Popping extreme new k p p n
pop_start extreme new k p n f e = record { fit = f; done = unmoved k p (list_of p k) refl; same = refl; number = e }

module _ (extreme : Extreme) (new : ℤ) (k : ℕ) (p₀ p : List ℕ) (n : ℕ) (l : Popping extreme new k p₀ p n) where
  abbrev d : ℕ → Bool
  d = displaces_in extreme new p₀ k

  pub pop_empty : n ≡ 0 → Became k p₀ p (pops (displaces_in extreme new p₀ k) (list_of p₀ k)) 0
  pop_empty z = as_list k p₀ p _ _ 0 (sym (pops_none d (list_of p k) (number_length (slot_of p k) ∙ sym l.number ∙ z)) ∙ l.same) l.done

  module _ (x : ℕ) (z : 0 < n) (e : x ≡ get_or (list_of p k) (n - 1) 0) where
    some : 0 < length (list_of p k)
    some = omega (arith, number_length (slot_of p k), l.number)

    -- the test of the last entry, as the loop makes it
    last : (b : Bool) → displaces_in extreme new p k x ≡ b → d (get_or (list_of p k) (length (list_of p k) - 1) 0) ≡ b
    last b t =
        sym (ap d (e ∙ ap (λ (m : ℕ). get_or (list_of p k) (m - 1) 0) (l.number ∙ sym (number_length (slot_of p k)))))
        ∙ sym (ap (λ (f : ℕ → Bool). f x) (became_displaces k p₀ p _ 0 l.done extreme new)) ∙ t

    pub pop_stops : displaces_in extreme new p k x ≡ false → Became k p₀ p (pops (displaces_in extreme new p₀ k) (list_of p₀ k)) 0
    pop_stops f = as_list k p₀ p _ _ 0 (sym (pops_end d (list_of p k) some (last false f)) ∙ l.same) l.done

    pub pop_more : (q : List ℕ) → displaces_in extreme new p k x ≡ true → Moved k p q (shorter Back (list_of p k)) → Popping extreme new k p₀ q (n - 1)
    pop_more q f m =
        let s : Became k p q (shorter Back (list_of p k)) 0 = shrunk k p q _ Back (omega (arith, l.number)) refl m in
        let b : Became k p q (list_of q k) 0 = as_list k p q _ _ 0 (sym m.list) s in
        let w = shorter_length Back (list_of p k) some in
        let v = number_length (slot_of p k) in
        record {
          fit = fit_after k p q _ l.fit s (omega (arith, l.fit.number));
          done = then k p₀ p q _ _ 0 0 l.done b;
          same = ap (pops d) m.list ∙ unfold shorter in pops_turn d (list_of p k) some (last true f) ∙ l.same;
          number = omega (arith, l.number, became_number k p q _ 0 s);
        }

-- slot k's list after one sample more, of second s, with its value where it qualifies
abbrev pub ListStepped : (k w s : ℕ) (extreme : Extreme) (new : Option ℤ) → List ℕ → List ℕ → Type 0
ListStepped k w s extreme new p q =
    Became k p q (stepped w s (is_some new) (displaces_in extreme (unwrap_or new (pos 0)) p k) (list_of p k)) (bit (is_some new))

-- one sample more: the list is aged, and where the sample qualifies, popped and appended to
module _ (w s : ℕ) (extreme : Extreme) (k : ℕ) (p p₁ : List ℕ) (b : Became k p p₁ (aged w s (list_of p k)) 0) where
  pub step_skip : ListStepped k w s extreme None p p₁
  unfolding stepped
  step_skip = b

  module _ (new : ℤ) (p₂ : List ℕ) (c : Became k p₁ p₂ (pops (displaces_in extreme new p₁ k) (list_of p₁ k)) 0) where
    pub append_ready : Fit p k → length (aged w s (list_of p k)) < list_capacity → (Ready p₂ k) × (number_of p₂ k < list_capacity) × (moves_of p₂ + 1 < 2 ^ 64)
    append_ready f h =
        let f₁ : Fit p₁ k = fit_after k p p₁ _ f b (omega arith) in
        let n = number_length (slot_of p₁ k) in
        let m = became_number k p p₁ _ 0 b in
        let o = pops_length (displaces_in extreme new p₁ k) (list_of p₁ k) in
        let f₂ : Fit p₂ k = fit_after k p₁ p₂ _ f₁ c (omega arith) in
        (f₂.ready, omega (arith, became_number k p₁ p₂ _ 0 c), omega (arith, f₂.room))

    pub step_on : (q : List ℕ) → Moved k p₂ q (list_of p₂ k ++ (s ∷ [])) → ListStepped k w s extreme (Some new) p q
    unfolding stepped
    step_on q m =
        as_list k p q _ _ 1 (ap (λ (l : List ℕ). l ++ (s ∷ [])) (c.list ∙ ap₂ pops (became_displaces k p p₁ _ 0 b extreme new) b.list))
        (then k p p₂ q _ _ 0 1 (then k p p₁ p₂ _ _ 0 0 b c) (grown k p₂ q s m))
