-- Text made of parts.
use Rattle.std.specs.Prelude.{ℕ, List, [], ◌∷◌, ◌++◌}

-- the parts, one behind the other
abbrev pub texts : List (List ℕ) → List ℕ
texts [] = []
texts (x ∷ []) = x
texts (x ∷ y ∷ zs) = x ++ texts (y ∷ zs)
