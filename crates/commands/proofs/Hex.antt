-- What the library writes of bytes in hex is what the definitions say.
use Rattle.std.proofs.Common.{◌≡◌, ℕ, ◌/◌, ◌%◌, ◌^◌, ◌<◌, false, List, [], ◌∷◌, get_or, slice_index, refl, arith, suc}
use Rattle.std.proofs.lemmas.List.FromFn.{get_or-map-range_with_len}
use Rattle.std.specs.Fmt.{digit_glyph}
use Rattle.hex.specs.Hex.{encode_with, lower_digits, encode_lower}
use Rattle.commands.specs.Words.{hex_of}

glyph : (n : ℕ) → n < 16 → slice_index lower_digits n ≡ digit_glyph false n
glyph n h = get_or-map-range_with_len (digit_glyph false) 0 16 n n 0 h (omega arith)

-- each number in the list is a byte
pub encode_lower_is : (bs : List ℕ) → ((i : ℕ) → get_or bs i 0 < 2 ^ 8) → encode_lower bs ≡ hex_of bs
unfolding encode_with
encode_lower_is [] h = refl
encode_lower_is (b ∷ bs) h =
    let small : b < 2 ^ 8 = h 0 in
    rw (glyph (b / 16) (omega arith), glyph (b % 16) (omega arith), encode_lower_is bs (λ i. h (suc i))) refl
