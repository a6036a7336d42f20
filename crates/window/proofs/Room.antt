-- Room in a list of up to 600 entries once it is aged. Assumes nothing.
use mathlib.Core.Bool.{Bool, true, false, cond}
use mathlib.Core.List.{List, [], ◌∷◌}
use mathlib.Core.Path.{◌≡◌, sym, ◌∙◌}
use Prim.Native.Nat.{ℕ, suc, ◌+◌, ◌-◌, ◌≤◌, ◌<◌}
use native.Mathlib.Decide.{ℕ_discrete}
use native.Mathlib.Omega.{arith}
use borrow.Author.Tests.{lt-ltb, le-ltb, eq-eqb, ne_eqb}
use Rattle.std.specs.Prelude.{Option, None, Some}
use Rattle.std.specs.Option.{SomeIff, option_eq}
use lib.Dec.{ltb, eqb}
use lib.ListN.{length, get_or, length-drop}
use Rattle.slide.specs.Undisplaced.{aged, aged_goes, aged_stays}
use Rattle.slots.specs.Layout.{list_capacity, slot_of, number_of}
use Rattle.lists.specs.Lists.{list_of, number_length}

aged_shorter : (w n : ℕ) (l : List ℕ) → length (aged w n l) ≤ length l
unfolding aged
aged_shorter w n [] = omega arith
aged_shorter w n (x ∷ l) = by (eqb (x + w) n)
  where
    by : (b : Bool) → length (cond b l (x ∷ l)) ≤ suc (length l)
    by true = omega arith
    by false = omega arith

module _ (w n k : ℕ) (p : List ℕ) where
  -- the list once it is aged
  abbrev left : List ℕ
  left = aged w n (list_of p k)

  number : length (list_of p k) ≡ number_of p k
  number = number_length (slot_of p k)

  pub room_below : number_of p k < list_capacity → true ≡ ltb (length (aged w n (list_of p k))) list_capacity
  room_below h = sym (lt-ltb (length left) list_capacity (omega (arith, aged_shorter w n (list_of p k), number)))

  module _ (full : list_capacity ≤ number_of p k) where
    -- where the first stays, there is no room
    no_room : (0 < length (list_of p k) → get_or (list_of p k) 0 0 + w ≡ n → ⊥) → ltb (length left) list_capacity ≡ false
    no_room h = le-ltb (length left) list_capacity (rw (aged_stays w n (list_of p k) h) (omega (arith, number)))

    pub room_full : (o : Option ℕ) (x : ℕ) → SomeIff o (w ≤ n) (n - w) → number_of p k ≤ list_capacity → x ≡ get_or (list_of p k) 0 0
        → option_eq eqb o (Some x) ≡ ltb (length (aged w n (list_of p k))) list_capacity
    room_full None x young most e = sym (no_room (λ z g. young (omega arith)))
    room_full (Some y) x leaves most e = by (ℕ_discrete y x)
      where
        by : Dec (y ≡ x) → eqb y x ≡ ltb (length left) list_capacity
        by (yes f) =
            let gone = aged_goes w n (list_of p k) (omega (arith, number)) (omega arith) in
            eq-eqb y x f ∙ sym (lt-ltb (length left) list_capacity (rw gone (omega (arith, length-drop 1 (list_of p k), number))))
        by (no f) = ne_eqb y x f ∙ sym (no_room (λ z g. f (omega arith)))
