-- What a probe of the search computes, as code makes it: x is not less than z just where x + (offset - z) is offset or more. Assumes nothing.
use mathlib.Core.Path.{◌≡◌, refl, sym, ap, ◌∙◌}
use mathlib.Core.Bool.{Bool, true, false}
use Prim.Native.Nat.{ℕ, zero, suc, ◌+◌, ◌-◌, ◌*◌, ◌/◌, ◌^◌, ◌≤◌, ◌<◌}
use native.Mathlib.Omega.{arith}
use borrow.Author.Tests.{leb-true, leb-false, le-ltb, lt-ltb}
use lib.Dec.{T, leb}
use lib.IntN.{ℤ, pos, negsuc, nat_abs, neg_ℤ, ◌+ℤ◌, neg_ℤ-+ℤ, neg_ℤ-neg_ℤ, +ℤ_assoc, +ℤ_invr}
use lib.Signed.{le_z, non_neg}
use mir.Syntax.{w64}
use mir.Val.{Fits, SFits, of_z, to_z}
use mir.ValLaws.{to_z-of_z}
use Rattle.model.specs.Numbers.{bit}
use Rattle.laws.specs.Signed.{back}
use Rattle.search.specs.Place.{Sought, sought_by, offset}

-- offset less z
abbrev rest : ℤ → ℕ
rest (pos b) = offset - b
rest (negsuc b) = offset + suc b

rest_is : (z : ℤ) → Sought z → sought_by z ≡ pos (rest z)
rest_is (pos zero) h = refl
rest_is (pos (suc b)) h = rw (le-ltb offset (suc b) (omega arith)) refl
rest_is (negsuc b) h = refl

-- n more than x
abbrev more : ℤ → ℕ → ℕ
more (pos a) n = a + n
more (negsuc a) n = n - suc a

more_is : (x : ℤ) (n : ℕ) → nat_abs x ≤ n → x +ℤ pos n ≡ pos (more x n)
more_is (pos a) n h = refl
more_is (negsuc a) n h = rw (le-ltb n (suc a) h) refl

-- offset or more, or less, by a test
counted : (n : ℕ) (t : Bool) → (t ≡ true → offset ≤ n) → (t ≡ false → n < offset) → n < 2 * offset → n / offset ≡ bit t
counted n true f g h = let l = f refl in omega arith
counted n false f g h = let l = g refl in omega arith

compared : (x z : ℤ) → Sought x → Sought z → more x (rest z) / offset ≡ bit (le_z z x)
compared (pos a) (pos b) h k = counted _ (leb b a) (λ e. omega (arith, leb-true b a e)) (λ e. omega (arith, leb-false b a e)) (omega arith)
compared (pos a) (negsuc b) h k = omega arith
compared (negsuc a) (pos b) h k = omega arith
compared (negsuc a) (negsuc b) h k = counted _ (leb a b) (λ e. omega (arith, leb-true a b e)) (λ e. omega (arith, leb-false a b e)) (omega arith)

pub bit_most : (b : Bool) → bit b ≤ 1
bit_most true = omega arith
bit_most false = omega arith

rest_near : (z : ℤ) → Sought z → (2 ^ 32 ≤ rest z) × (rest z < 2 ^ 63)
rest_near (pos b) h = omega arith
rest_near (negsuc b) h = omega arith

zero-add : (z : ℤ) → pos 0 +ℤ z ≡ z
zero-add (pos a) = ap pos (omega arith)
zero-add (negsuc a) = rw (lt-ltb 0 (suc a) (omega arith)) (ap negsuc (omega arith))

twice : (z : ℤ) → sought_by (sought_by z) ≡ z
twice z =
    let o : ℤ = pos offset in
    ap (λ (y : ℤ). o +ℤ y) (neg_ℤ-+ℤ o (neg_ℤ z) ∙ ap (λ (y : ℤ). neg_ℤ o +ℤ y) (neg_ℤ-neg_ℤ z))
    ∙ sym (+ℤ_assoc o (neg_ℤ o) z)
    ∙ ap (λ (y : ℤ). y +ℤ z) (+ℤ_invr o)
    ∙ zero-add z

-- c as code makes it
abbrev made : ℤ → ℤ
made z = sought_by (to_z w64 (of_z w64 z))

made_is : (z : ℤ) → Sought z → made z ≡ pos (rest z)
made_is z k = rw (back z (omega arith)) (rest_is z k)

pub made_fits : (z : ℤ) → Sought z → SFits w64 (made z)
made_fits z k = rw (made_is z k) (record { sfits = (rest_near z k).1 })

pub made_back : (z : ℤ) → Sought z → made (made z) ≡ z
made_back z k = rw (to_z-of_z w64 (made z) (made_fits z k), back z (omega arith)) (twice z)

pub made_sought : (z : ℤ) → Sought z → Sought (made (made z))
made_sought z k = rw (made_back z k) k

module _ (x c : ℤ) (h : Sought x) (k : Sought (sought_by c)) where
  abbrev z : ℤ
  z = sought_by c

  c_is : c ≡ pos (rest z)
  c_is = sym (twice c) ∙ rest_is z k

  c_fits : SFits w64 c
  c_fits = rw c_is (record { sfits = (rest_near z k).1 })

  abbrev sum : ℤ
  sum = to_z w64 (of_z w64 x) +ℤ to_z w64 (of_z w64 c)

  sum_is : sum ≡ pos (more x (rest z))
  sum_is = rw (to_z-of_z w64 c c_fits, back x (omega arith)) (ap (λ (y : ℤ). x +ℤ y) c_is ∙ more_is x (rest z) (omega (arith, (rest_near z k).0)))

  most : more x (rest z) < 2 * offset
  most = omega (arith, compared x z h k, bit_most (le_z z x))

  pub sum_fits : SFits w64 sum
  sum_fits = rw sum_is (record { sfits = omega (arith, most) })

  read : to_z w64 (of_z w64 sum) ≡ pos (more x (rest z))
  read = to_z-of_z w64 sum sum_fits ∙ sum_is

  pub sum_above : T (non_neg (to_z w64 (of_z w64 sum)))
  sum_above = rw read tt

  pub sum_below : Fits w64 (nat_abs (to_z w64 (of_z w64 sum)))
  sum_below = rw read (record { fits = omega (arith, most) })

  pub probed : nat_abs (to_z w64 (of_z w64 sum)) / offset ≡ bit (le_z z x)
  probed = rw read (compared x z h k)
