-- Fronts of bytes that pass a test.
use Rattle.std.specs.Prelude.{◌≡◌, ℕ, ◌<◌, ◌≤◌, Bool, true, false, List, length, take, slice_index}

-- the longest front of which each byte passes: the test says true of those in it, and false of the one behind it
pub record IsRun (Says : ℕ → Bool → Type 0) (text run : List ℕ) : Type 0 where
  pub within : length run ≤ length text
  pub front : run ≡ take (length run) text
  pub passes : (k : ℕ) → k < length run → Says (slice_index text k) true
  pub ends : length run < length text → Says (slice_index text (length run)) false
