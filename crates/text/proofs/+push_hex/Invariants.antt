-- The measure of `push_hex` is the number of digits.
use Rattle.text.proofs.+push_hex.Given as goal

abbrev pub decreases-push_hex : goal.decreases-push_hex
decreases-push_hex g l = l.k
