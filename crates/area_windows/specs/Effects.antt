-- The move count as an answer's value.
use Rattle.std.specs.Prelude.{◌≡◌, ◌^◌, ◌<◌, ℤ, pos}
use Rattle.slots.specs.Layout.{moves_of}
use Rattle.area.specs.Layout.{Parts, slots_in}

-- the move count of the area as an answer's value
abbrev pub CountedMoves : Parts → ℤ → Type 0
CountedMoves p z = moves_of (slots_in p) < 2 ^ 63 → z ≡ pos (moves_of (slots_in p))
