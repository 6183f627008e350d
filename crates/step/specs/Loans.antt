-- Stores that are lent.
use Rattle.std.specs.Prelude.{◌≡◌, List, length, ℤ}
use Rattle.std.specs.Borrow.{MutBor}

-- a store is the one that it was, and as long; what it holds may differ
pub record SameStore (s t : MutBor (List ℤ)) : Type 0 where
  pub name : t.ghost_name ≡ s.ghost_name
  pub long : length t.now ≡ length s.now
