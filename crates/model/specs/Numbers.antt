-- Numbers, bytes and lists: the little that the definitions of document 01 are written with. Numbers are exact: ℕ and ℤ.
use Rattle.std.specs.Prelude.{Bool, true, false, cond, ◌&&◌, ◌||◌, List, [], ◌∷◌, ℕ, zero, suc, ◌+◌, ◌-◌, ◌*◌, ◌/◌, ◌%◌, ◌^◌, leb, ltb, eqb, ℤ, pos, negsuc, neg_ℤ, nat_abs, ◌+ℤ◌, ◌-ℤ◌, ◌*ℤ◌, take, drop}
use Rattle.std.specs.Int.Signed.{le_z, lt_z}

-- the number whose bytes these are, the lowest first ("records are little-endian")
unfoldable pub le_val : List ℕ → ℕ
le_val [] = 0
le_val (b ∷ bs) = b + 256 * le_val bs

-- the number in the n bytes of xs from place a on
unfoldable pub le_at : ℕ → List ℕ → ℕ → ℕ
le_at n xs a = le_val (take n (drop a xs))

-- a number as n bytes, the lowest first
unfoldable pub le_bytes : ℕ → ℕ → List ℕ
le_bytes zero v = []
le_bytes (suc n) v = v % 256 ∷ le_bytes n (v / 256)

-- what n bytes mean as a signed number (i16, i32, i64), in two's complement; negsuc k is −1 − k
unfoldable pub signed : ℕ → ℕ → ℤ
signed n v = cond (ltb v (2 ^ (8 * n - 1))) (pos v) (negsuc (2 ^ (8 * n) - suc v))

-- the number whose n bytes mean z so
abbrev pub unsigned : ℕ → ℤ → ℕ
unsigned n (pos k) = k
unsigned n (negsuc k) = 2 ^ (8 * n) - suc k

abbrev pub minus : ℕ → ℤ
minus n = neg_ℤ (pos n)

-- v is one of low to high, ends included
unfoldable pub within : ℕ → ℕ → ℕ → Bool
within low high v = leb low v && leb v high

unfoldable pub withinℤ : ℤ → ℤ → ℤ → Bool
withinℤ low high z = le_z low z && le_z z high

-- v is below low or above high
unfoldable pub outside : ℕ → ℕ → ℕ → Bool
outside low high v = ltb v low || ltb high v

-- a whole number by a count, rounded down: −1 − a becomes −1 − a / n
unfoldable pub floor_div : ℤ → ℕ → ℤ
floor_div (pos a) n = pos (a / n)
floor_div (negsuc a) n = negsuc (a / n)

-- what rounding down leaves, for R-4: from 0 up to below n, where n is above 0
unfoldable pub floor_mod : ℤ → ℕ → ℤ
floor_mod z n = z -ℤ pos n *ℤ floor_div z n

-- R-4: the "even neighbour"
unfoldable pub even : ℤ → Bool
even z = eqb (nat_abs z % 2) 0

-- R-4: "to the nearest whole unit and an exact half to the even neighbour"; `rounds` and `only` (crates/rounding) say it of distances
unfoldable pub round_half_even : ℤ → ℕ → ℤ
round_half_even z n =
    let floor : ℤ = floor_div z n in
    let above : ℤ = floor +ℤ pos 1 in
    let twice : ℤ = pos 2 *ℤ floor_mod z n in
    cond (lt_z twice (pos n)) floor (cond (lt_z (pos n) twice) above (cond (even floor) floor above))

-- each of them holds
unfoldable pub all : List Bool → Bool
all [] = true
all (b ∷ bs) = b && all bs

-- 1 for a test that holds
abbrev pub bit : Bool → ℕ
bit b = cond b 1 0

-- the m numbers from a on
unfoldable pub range : ℕ → ℕ → List ℕ
range a zero = []
range a (suc m) = a ∷ range (suc a) m

-- the sum of a list of integers
unfoldable pub sumℤ : List ℤ → ℤ
sumℤ [] = pos 0
sumℤ (z ∷ zs) = z +ℤ sumℤ zs

module _ {A : Type 0} where
  -- those that pass a test, in their order
  unfoldable pub filter : (A → Bool) → List A → List A
  filter p [] = []
  filter p (x ∷ xs) = cond (p x) (x ∷ filter p xs) (filter p xs)

  -- how many pass a test
  unfoldable pub count : (A → Bool) → List A → ℕ
  count p [] = 0
  count p (x ∷ xs) = bit (p x) + count p xs

  -- some one passes a test
  unfoldable pub any : (A → Bool) → List A → Bool
  any p [] = false
  any p (x ∷ xs) = p x || any p xs

  -- the sum of a number of each
  unfoldable pub total : (A → ℕ) → List A → ℕ
  total f [] = 0
  total f (x ∷ xs) = f x + total f xs
