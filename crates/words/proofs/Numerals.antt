-- The decimal text of a word is its numeral.
use Rattle.std.proofs.Common.{◌≡◌, ℕ, zero, suc, ◌^◌, ◌<◌, true, length, get_or, ℤ, pos, negsuc, decimal, refl, ap, arith, w32, SFits, rules}
use Rattle.std.specs.Fmt.{signed_decimal}
use Rattle.std.specs.Str.{all_ascii_digits}
use Rattle.std.proofs.lemmas.Fmt.{decimal_digit, decimal_nonempty, first_decimal, digits_decimal, digits_value-decimal}
use Rattle.std.proofs.lemmas.Str.Parse.{IsNumeralModel, numerals_by_fold}
use Rattle.words.specs.Laws.{worth, Numeral, DecimalOf}

own : IsNumeralModel (λ ds. all_ascii_digits ds ≡ true) (worth 0)
own = numerals_by_fold _ (search rules) worth (search rules)

shortest : (n : ℕ) → n < 2 ^ 64 → get_or (decimal n) 0 0 ≡ 48 → length (decimal n) ≡ 1
shortest zero h e = ap length (decimal_digit 0 (omega arith))
shortest (suc n) h e = absurd (omega (arith, first_decimal (suc n) (omega arith) h))

numeral : (n : ℕ) → n < 2 ^ 64 → Numeral n (decimal n)
numeral n h = record { digits = digits_decimal own n h; some = decimal_nonempty n h; shortest = shortest n h; value = digits_value-decimal own n h }

pub decimal_text : (z : ℤ) → SFits w32 z → DecimalOf z (signed_decimal z)
decimal_text (pos n) f = numeral n (omega (arith, f.sfits))
decimal_text (negsuc n) f = (decimal (suc n), refl, numeral (suc n) (omega (arith, f.sfits)))
