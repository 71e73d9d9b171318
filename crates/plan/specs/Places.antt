-- Which place of a list of widths goes with a level (from 1) and a position (from 0). Assumes nothing.
use Rattle.std.specs.Prelude.{ℕ, ◌-◌}

abbrev pub position_place : ℕ → ℕ → ℕ
position_place level position = position

abbrev pub level_place : ℕ → ℕ → ℕ
level_place level position = level - 1
