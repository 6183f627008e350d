-- The bytes that one print writes.
use Rattle.std.specs.Prelude.{ℕ, ◌-◌, min, List, [], ◌∷◌, ◌++◌, length, drop, replicate, ℤ, pos, negsuc}
use Rattle.std.specs.Fmt.{signed_decimal}
use Rattle.words.specs.declared.printing.Kind.{Kind}
use Rattle.words.specs.declared.printing.Kind.TheVariants.{Int, Char}
use Rattle.words.specs.declared.printing.Text.{Text}
use Rattle.words.specs.Bytes.{byte_of}

-- an int is written in decimal, with a minus sign below zero; a char is its low byte
abbrev pub shown : Kind → ℤ → List ℕ
shown Int z = signed_decimal z
shown Char z = byte_of 0 z ∷ []

-- a width below 0 counts as 0, and one above 255 as 255
abbrev pub clamped : ℤ → ℕ
clamped (pos n) = min n 255
clamped (negsuc n) = 0

-- blanks before a text, up to a width
abbrev pub padded : ℕ → List ℕ → List ℕ
padded width text = replicate (width - length text) 32 ++ text

unfoldable pub printed_as : Kind → ℤ → ℤ → List ℕ
printed_as kind value width = padded (clamped width) (shown kind value)

-- the bytes that a Text holds
abbrev pub text_of : Text → List ℕ
text_of t = drop t.from t.bytes
