-- Laws of the definitions, in the words of a reader.
use Rattle.std.specs.Prelude.{◌≡◌, ℕ, suc, ◌+◌, ◌-◌, ◌*◌, ◌<◌, true, List, [], ◌∷◌, length, ℤ, pos, negsuc, FitsSigned, ◌≢◌, slice_index_or}
use Rattle.std.specs.Int.{w32}
use Rattle.std.specs.Fmt.{signed_decimal}
use Rattle.std.specs.Str.{all_ascii_digits}
use Rattle.words.specs.Bytes.{byte_of, with_byte}

-- the number that digits are worth, after those that are worth n
abbrev pub worth : ℕ → List ℕ → ℕ
worth n [] = n
worth n (d ∷ ds) = worth (10 * n + (d - 48)) ds

-- the numeral of n: digits, at least one, no 0 before others, worth n
pub record Numeral (n : ℕ) (ds : List ℕ) : Type 0 where
  pub digits : all_ascii_digits ds ≡ true
  pub some : 0 < length ds
  pub shortest : slice_index_or ds 0 0 ≡ 48 → length ds ≡ 1
  pub value : worth 0 ds ≡ n

-- a number from 0 on is its numeral; below 0, a minus sign and the numeral of its distance from 0
abbrev pub DecimalOf : ℤ → List ℕ → Type 0
DecimalOf (pos n) text = Numeral n text
DecimalOf (negsuc n) text = (ds : List ℕ) × (text ≡ 45 ∷ ds) × Numeral (suc n) ds

abbrev pub DecimalTextIsTheNumeral : Type 0
DecimalTextIsTheNumeral = (z : ℤ) → FitsSigned w32 z → DecimalOf z (signed_decimal z)

-- a byte that is replaced reads back, and the other three stay
pub record ReplacedAlone (k b : ℕ) (z : ℤ) : Type 0 where
  pub itself : byte_of k (with_byte k b z) ≡ b
  pub others : (j : ℕ) → j < 4 → (j ≢ k) → byte_of j (with_byte k b z) ≡ byte_of j z

abbrev pub OneByteIsReplaced : Type 0
OneByteIsReplaced = (k b : ℕ) (z : ℤ) → k < 4 → b < 256 → FitsSigned w32 z → ReplacedAlone k b z
