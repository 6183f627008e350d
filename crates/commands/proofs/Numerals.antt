-- What std's parse reads is what the definitions read.
use Rattle.std.proofs.Common.{◌≡◌, ℕ, ◌^◌, Bool, true, false, cond, List, [], ◌∷◌, ℤ, pos, negsuc, Some, None, Ok, Err, Decides, Result, refl, ap, arith, w32, SFits}
use Rattle.std.specs.Result.{OkIff, result_ok}
use Rattle.std.specs.Str.Parse.{IsNumeral, ParsesUnsigned, ParsesSigned, digits_value, signed_digits_value, without_leading_plus, without_leading_sign}
use Rattle.std.specs.Str.{all_ascii_digits}
use Rattle.std.proofs.lemmas.Str.Parse.{IsNumeralModel, numerals_by_value, tells_all_ascii_digits}
use Rattle.std.proofs.lemmas.Bool.{both_ways}
use Rattle.std.proofs.lemmas.Bool.Decides.{Decides-and, Decides-ltb, Decides-like}
use Rattle.commands.specs.Numbers.{is_numeral, is_word, number_in, word_in}

-- a conversion that succeeds exactly where a test does
converted_is : {T E : Type 0} (r : Result T E) (P : Type 0) (v : T) (b : Bool) → Decides b P → OkIff r P v → result_ok r ≡ cond b (Some v) None
converted_is (Ok x) P v true d h = ap (λ y. Some y) h.1
converted_is (Ok x) P v false d h = absurd (both_ways false refl (d.1 h.0))
converted_is (Err e) P v true d h = absurd (h (d.0 refl))
converted_is (Err e) P v false d h = refl

own : IsNumeralModel (λ ds. all_ascii_digits ds ≡ true) (digits_value 10)
own = numerals_by_value _ tells_all_ascii_digits

numeral_decided : (ds : List ℕ) → Decides (is_numeral ds) (IsNumeral 10 ds)
numeral_decided [] = (λ e. absurd (both_ways false refl e), λ n. absurd (omega (arith, n.0)))
numeral_decided (c ∷ cs) = (λ e. (omega arith, own.to (c ∷ cs) e), λ n. own.from (c ∷ cs) n.1)

word_decided : (z : ℤ) → Decides (is_word z) (SFits w32 z)
word_decided (pos n) = Decides-like _ (λ h. record { sfits = h }) (λ s. s.sfits) (Decides-ltb n (2 ^ 31))
word_decided (negsuc n) = Decides-like _ (λ h. record { sfits = h }) (λ s. s.sfits) (Decides-ltb n (2 ^ 31))

pub reads_number : {E : Type 0} (text : List ℕ) (r : Result ℕ E) → ParsesUnsigned 32 10 text r → result_ok r ≡ number_in text
reads_number text r h =
    let ds = without_leading_plus text in
    converted_is r _ _ _ (Decides-and (is_numeral ds) _ (numeral_decided ds) (Decides-ltb (digits_value 10 ds) (2 ^ 32))) h

pub reads_word : {E : Type 0} (text : List ℕ) (r : Result ℤ E) → ParsesSigned w32 10 text r → result_ok r ≡ word_in text
reads_word text r h =
    let ds = without_leading_sign text in
    let z = signed_digits_value 10 text in
    converted_is r _ _ _ (Decides-and (is_numeral ds) (is_word z) (numeral_decided ds) (word_decided z)) h
