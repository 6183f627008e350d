-- The object file: what it holds, how that is written, and the header's limits.
use Rattle.std.specs.Prelude.{ℕ, ◌/◌, ◌%◌, ◌<◌, ◌≤◌, List, [], ◌∷◌, ◌++◌, length}

-- the code of all methods, how many global words there are, and the code offset where `main` begins
pub record Object : Type 0 where
  pub code : List ℕ
  pub globals : ℕ
  pub main : ℕ

-- a number in four bytes, high byte first
abbrev pub four_bytes : ℕ → List ℕ
four_bytes n = (n / 16777216 % 256) ∷ (n / 65536 % 256) ∷ (n / 256 % 256) ∷ (n % 256) ∷ []

-- the letters `MJ`, the code's size, the globals, the main address, and then the code
abbrev pub file_of : Object → List ℕ
file_of o = 77 ∷ 74 ∷ (four_bytes (length o.code) ++ (four_bytes o.globals ++ (four_bytes o.main ++ o.code)))

-- the limits that a header keeps
pub record Limits (o : Object) : Type 0 where
  pub code_some : 1 ≤ length o.code
  pub code_short : length o.code ≤ 8192
  pub globals_few : o.globals ≤ 65536
  pub main_inside : o.main < length o.code
