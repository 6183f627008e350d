-- Numbers in arguments.
use Rattle.std.specs.Prelude.{ℕ, ◌^◌, Bool, false, cond, ◌&&◌, List, [], ◌∷◌, ℤ, pos, negsuc, Some, None, Option, nat_lt}
use Rattle.std.specs.Str.Parse.{digits_value, signed_digits_value, without_leading_plus, without_leading_sign}
use Rattle.std.specs.Str.{all_ascii_digits}

-- one decimal digit or more, and nothing else
abbrev pub is_numeral : List ℕ → Bool
is_numeral [] = false
is_numeral (c ∷ cs) = all_ascii_digits (c ∷ cs)

-- a number from 0 to 4,294,967,295; a plus may stand in front
abbrev pub number_in : List ℕ → Option ℕ
number_in text =
    cond (is_numeral (without_leading_plus text) && nat_lt (digits_value 10 (without_leading_plus text)) (2 ^ 32)) (Some (digits_value 10 (without_leading_plus text))) None

-- from −2,147,483,648 to 2,147,483,647
abbrev pub is_word : ℤ → Bool
is_word (pos n) = nat_lt n (2 ^ 31)
is_word (negsuc n) = nat_lt n (2 ^ 31)

-- a word; a plus or a minus may stand in front
abbrev pub word_in : List ℕ → Option ℤ
word_in text = cond (is_numeral (without_leading_sign text) && is_word (signed_digits_value 10 text)) (Some (signed_digits_value 10 text)) None
