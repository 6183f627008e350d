-- The four bytes of a word: byte k is its bits 8k to 8k + 7.
use Rattle.std.specs.Prelude.{ℕ, suc, ◌+◌, ◌*◌, ◌/◌, ◌%◌, ◌^◌, ℤ, pos}
use Rattle.std.specs.Int.{w32}
use Rattle.std.proofs.Common.{to_z, of_z}
use Rattle.words.specs.declared.printing.Kind.{Kind}
use Rattle.words.specs.declared.printing.Kind.TheVariants.{Int, Char}

-- the 32 bits of a word, as a number
abbrev pub bits : ℤ → ℕ
bits z = of_z w32 z

abbrev pub byte_of : ℕ → ℤ → ℕ
byte_of k z = bits z / 256 ^ k % 256

-- the word with b as its byte k: the bytes above, b, the bytes below
abbrev pub with_byte : ℕ → ℕ → ℤ → ℤ
with_byte k b z = to_z w32 (bits z / 256 ^ suc k * 256 ^ suc k + b * 256 ^ k + bits z % 256 ^ k)

-- what a variable or an element of a kind keeps of a word that is read or stored: all of it, or its low byte
abbrev pub kept : Kind → ℤ → ℤ
kept Int z = z
kept Char z = pos (byte_of 0 z)
