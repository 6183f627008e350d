-- A number with blanks in front, as a width writes it.
use Rattle.std.proofs.Common.{◌≡◌, ℕ, zero, suc, ◌-◌, ◌^◌, [], length, replicate, refl, append-nil, decimal, arith, false, encode_utf8}
use Rattle.std.proofs.lemmas.Str.{encode_ascii}
use Rattle.std.specs.Fmt.{char_count, format_spec, padded_integral}
use Rattle.std.specs.List.{repeat}
use Rattle.words.specs.Printing.{padded}

blanks : (k : ℕ) → repeat k (encode_utf8 32) ≡ replicate k 32
blanks zero = refl
blanks (suc k) = rw (blanks k, encode_ascii 32 (omega arith)) refl

none : (k : ℕ) → k - k ≡ 0
none k = omega arith

pub padded_to_four : (n : ℕ) → padded_integral (format_spec 32 3 0 4 (2 ^ 64 - 1)) false [] (decimal n) ≡ padded 4 (decimal n)
unfolding padded_integral char_count
padded_to_four n =
    let short : 4 - length (decimal n) - 0 - 0 ≡ 4 - length (decimal n) = omega arith in
    rw short (simp (blanks, none, append-nil))
