-- A store that keeps a list of values in order, as a value enters at the end of the list and the first one leaves.
--     Inserted, Removed, Replaced                what `insert`, `remove` and `replace` do to a store
--     kept_enters, kept_leaves, kept_replaced    so the store keeps the values
-- Assumes nothing.
use Rattle.std.specs.Prelude.{◌≡◌, List, [], ◌∷◌, ◌++◌, ℕ, ◌+◌, ◌-◌, ℤ}
use Rattle.std.proofs.Common.{sym, ap, ◌∙◌}
use Rattle.laws.specs.Lists.{In}
use Rattle.slide.specs.Ordered.{Sorted, insert, remove_one, ordered, insert_in, ordered_snoc, ordered_uncons, sorted_ordered}
use Rattle.cells.specs.Store.{values_of}

-- from the store s with m values in order to t
abbrev pub Inserted : ℤ → ℕ → List ℕ → List ℕ → Type 0
Inserted z m s t = Sorted (values_of s m) → values_of t (m + 1) ≡ insert z (values_of s m)

abbrev pub Removed : ℤ → ℕ → List ℕ → List ℕ → Type 0
Removed z m s t = Sorted (values_of s m) → In z (values_of s m) → values_of t (m - 1) ≡ remove_one z (values_of s m)

abbrev pub Replaced : ℤ → ℤ → ℕ → List ℕ → List ℕ → Type 0
Replaced old new m s t = Sorted (values_of s m) → In old (values_of s m) → values_of t m ≡ insert new (remove_one old (values_of s m))

pub kept_enters : (s t : List ℕ) (m : ℕ) (z : ℤ) (zs : List ℤ) → values_of s m ≡ ordered zs → Inserted z m s t → values_of t (m + 1) ≡ ordered (zs ++ (z ∷ []))
kept_enters s t m z zs e f = f (rw e (sorted_ordered zs)) ∙ ap (insert z) e ∙ sym (ordered_snoc zs z)

-- where z goes
module _ (s t : List ℕ) (m : ℕ) (z : ℤ) (zs : List ℤ) (e : values_of s m ≡ ordered (z ∷ zs)) where
  sorted : Sorted (values_of s m)
  sorted = rw e (sorted_ordered (z ∷ zs))

  first : In z (values_of s m)
  first = rw e (unfold ordered in insert_in z (ordered zs))

  rest : remove_one z (values_of s m) ≡ ordered zs
  rest = ap (remove_one z) e ∙ ordered_uncons z zs

  pub kept_leaves : Removed z m s t → values_of t (m - 1) ≡ ordered zs
  kept_leaves f = f sorted first ∙ rest

  pub kept_replaced : (new : ℤ) → Replaced z new m s t → values_of t m ≡ ordered (zs ++ (new ∷ []))
  kept_replaced new f = f sorted first ∙ ap (insert new) rest ∙ sym (ordered_snoc zs new)
