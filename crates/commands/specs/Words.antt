-- Lists of words and of bytes as text.
use Rattle.std.specs.Prelude.{ℕ, ◌/◌, ◌%◌, false, List, [], ◌∷◌, ◌++◌, ℤ, codes}
use Rattle.std.specs.Fmt.{signed_decimal, digit_glyph}

-- each word in decimal, behind a mark
abbrev pub each_behind : List ℕ → List ℤ → List ℕ
each_behind mark [] = []
each_behind mark (w ∷ ws) = mark ++ (signed_decimal w ++ each_behind mark ws)

-- the words in decimal, a comma between any two
abbrev pub listed : List ℤ → List ℕ
listed [] = []
listed (w ∷ ws) = signed_decimal w ++ each_behind (codes ",") ws

-- two hex digits for each byte, the letters small
abbrev pub hex_of : List ℕ → List ℕ
hex_of [] = []
hex_of (b ∷ bs) = digit_glyph false (b / 16) ∷ digit_glyph false (b % 16) ∷ hex_of bs
