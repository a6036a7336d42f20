-- Bounds on a weighted part of U and on the weighted sum, which keep every product of the NOx limit within an i64. Assumes nothing.
use Rattle.std.specs.Prelude.{ℕ, ◌*◌}
use Rattle.limits.specs.Bounds.{most_nox}

-- a weight is at most that of a sample in full
abbrev pub most_weight : ℕ
most_weight = 8

-- other U, a difference, by its weight
abbrev pub most_part : ℕ
most_part = most_weight * (2 * most_nox)

-- both parts together
abbrev pub most_weighted : ℕ
most_weighted = 2 * most_part
