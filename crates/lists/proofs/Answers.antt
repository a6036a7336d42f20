-- What the code tests of a list, as its numbers come, is what the definitions say. Assumes nothing.
use mathlib.Core.Path.{◌≡◌, refl}
use mathlib.Core.Bool.{Bool, true, ◌&&◌}
use mathlib.Core.List.{List}
use Prim.Native.Nat.{ℕ, ◌^◌, ◌≤◌, ◌<◌}
use native.Mathlib.Omega.{arith}
use borrow.Author.Tests.{ltb-true, leb-true, lt-ltb, le-leb}
use lib.Dec.{leb, ltb}
use lib.ListN.{length}
use Rattle.model.specs.Records.{max_windows}
use Rattle.laws.specs.Tests.{both}
use Rattle.slots.specs.Layout.{part_len, list_capacity, moves_of, first_of, number_of}
use Rattle.lists.specs.Lists.{Fitness}

-- the tests of the numbers that a list is kept by
module _ (f n m : ℕ) where
  abbrev tests : Bool
  tests = ltb f list_capacity && (leb n list_capacity && leb m (2 ^ 62))

  passed : tests ≡ true → (f < list_capacity) × (n ≤ list_capacity) × (m ≤ 2 ^ 62)
  passed t =
      let x = both (ltb f list_capacity) (leb n list_capacity && leb m (2 ^ 62)) t in
      let y = both (leb n list_capacity) (leb m (2 ^ 62)) x.1 in
      (ltb-true f list_capacity x.0, leb-true n list_capacity y.0, leb-true m (2 ^ 62) y.1)

  pub fitness : (p : List ℕ) (k : ℕ) → length p ≡ part_len → k < max_windows → f ≡ first_of p k → n ≡ number_of p k → m ≡ moves_of p
      → Fitness p k (ltb f list_capacity && (leb n list_capacity && leb m (2 ^ 62)))
  fitness p k size slot ef en em = record {
    sound = λ t. let h = passed t in record { ready = record { size = size; slot = slot; first = omega arith }; number = omega arith; room = omega arith };
    far = λ t. let h = passed t in omega arith;
    complete = λ g h.
        let a : f < list_capacity = omega (arith, g.ready.first) in
        let b : n ≤ list_capacity = omega (arith, g.number) in
        let c : m ≤ 2 ^ 62 = omega arith in
        rw (lt-ltb f list_capacity a, le-leb n list_capacity b, le-leb m (2 ^ 62) c) refl;
  }
