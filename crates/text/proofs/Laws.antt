-- The laws of appended numbers: what std writes of a number is what the definition says, and the digits of a hexadecimal number, one by one.
-- Assumes nothing.
use mathlib.Core.Path.{◌≡◌, refl, sym}
use mathlib.Core.List.{List, [], ◌∷◌, ◌++◌, append-nil}
use Prim.Native.Nat.{ℕ, zero, suc, ◌-◌, ◌/◌, ◌%◌, ◌^◌, ◌≤◌, ◌<◌}
use native.Mathlib.Omega.{arith}
use borrow.Author.Tests.{lt-ltb, le-ltb}
use lib.ListN.{length}
use Rattle.std.proofs.lemmas.Fmt.{AppendsLastDigit, decimal_from_appends, length-decimal-le}
use Rattle.std.specs.Fmt as std
use Rattle.model.specs.Report.{digits, decimal, hex_digit, hexadecimal}
use Rattle.text.specs.Append.{Appended, pushed, then, restated}

-- `digits` writes the front of a number, and then its last digit
digits_append : AppendsLastDigit digits
unfolding digits
digits_append = record {
  one = λ k n l. rw (lt-ltb n 10 l) refl;
  more = λ k n l. rw (le-ltb n 10 l) refl;
}

-- what std writes of a number in decimal
pub decimal_pushed : {a b : List ℕ} (n : ℕ) → n < 2 ^ 32 → b ≡ a ++ std.decimal n → Appended a 20 (decimal n) b
unfolding decimal
decimal_pushed {a} n l e =
    let short : length (std.decimal n) ≤ 20 = length-decimal-le 20 n (omega arith) (omega arith) (omega arith) in
    let same : digits 20 n ≡ std.decimal n = decimal_from_appends digits digits_append 20 n (omega arith) short in
    restated (pushed e) (sym same) short

-- the ways out of `push_hex`
pub hex_none : (k n : ℕ) (a : List ℕ) → k ≡ 0 → Appended a k (hexadecimal k n) a
unfolding hexadecimal
hex_none k n a e = rw e (record { bytes = sym (append-nil a); within = omega arith })

pub hex_last :
    (k n : ℕ) {a b c : List ℕ} → 0 < k
    → Appended a (k - 1) (hexadecimal (k - 1) (n / 16)) b → c ≡ b ++ (hex_digit (n % 16) ∷ [])
    → Appended a k (hexadecimal k n) c
unfolding hexadecimal
hex_last zero n h f e = absurd (omega arith)
hex_last (suc k) n h f e = let same : suc k - 1 ≡ k = omega arith in restated (then f (pushed e)) (rw same) (omega arith)
