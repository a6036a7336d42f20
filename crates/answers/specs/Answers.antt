-- Answers as bytes, nine for each: what it is, then its numbers, the lowest byte first.
use Rattle.std.specs.Prelude.{true, List, [], ◌∷◌, ◌++◌, ◌≡◌, refl, ℕ, negsuc}
use Rattle.model.specs.Answers.{finding_code}
use Rattle.model.specs.Numbers.{le_bytes, bit, unsigned}
use Rattle.model.specs.Trip.{Answer, number, judged, refused}
use Rattle.model.specs.declared.Finding.TheVariants.{Rule}

abbrev pub answer_length : ℕ
answer_length = 9

-- 0 and a number in two's complement, 1 and a refusal's number, 2 and a verdict: its mask, its exceeded mark and the code of its finding
unfoldable pub encode : Answer → List ℕ
encode (number z) = 0 ∷ le_bytes 8 (unsigned 8 z)
encode (refused k) = 1 ∷ le_bytes 8 k
encode (judged v) = 2 ∷ (le_bytes 4 v.broken ++ (bit v.exceeded ∷ le_bytes 3 (finding_code v.finding)))

unfoldable pub encodes : List Answer → List ℕ
encodes [] = []
encodes (a ∷ more) = encode a ++ encodes more

-- for instance, −2, refusal 11, and a verdict whose first broken rule is 1
example :
    encodes (number (negsuc 1) ∷ refused 11 ∷ judged (record { broken = 770; exceeded = true; finding = Rule 1 }) ∷ [])
    ≡ 0 ∷ 254 ∷ 255 ∷ 255 ∷ 255 ∷ 255 ∷ 255 ∷ 255 ∷ 255
    ∷ 1 ∷ 11 ∷ 0 ∷ 0 ∷ 0 ∷ 0 ∷ 0 ∷ 0 ∷ 0
    ∷ 2 ∷ 2 ∷ 3 ∷ 0 ∷ 0 ∷ 1 ∷ 1 ∷ 0 ∷ 0 ∷ []
unfolding encodes encode le_bytes
example = refl
