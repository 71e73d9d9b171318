-- Places of a byte in some bytes. Assumes nothing.
use Rattle.std.specs.Prelude.{◌≡◌, ℕ, ◌<◌, ◌≤◌, List, length, ◌≢◌, slice_index}

-- n is the first place of b in bs, or the length of bs where there is none
pub record First (b : ℕ) (bs : List ℕ) (n : ℕ) : Type 0 where
  pub within : n ≤ length bs
  pub before : (k : ℕ) → k < n → slice_index bs k ≢ b
  pub found : n < length bs → slice_index bs n ≡ b
