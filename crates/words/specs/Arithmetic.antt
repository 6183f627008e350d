-- Arithmetic and comparison of words: integers from −2^31 to 2^31 − 1.
use Rattle.std.specs.Prelude.{Bool, false, cond, not, ℤ, pos, negsuc, ◌+ℤ◌, ◌-ℤ◌, ◌*ℤ◌, neg_ℤ, Some, None, Option, ◌==◌, int_div, int_lt, int_rem}
use Rattle.std.specs.Int.{int_wrap, w32}
use Rattle.words.specs.declared.arithmetic.Operator.{Operator}
use Rattle.words.specs.declared.arithmetic.Operator.TheVariants.{Add, Subtract, Multiply, Divide, Remainder}
use Rattle.words.specs.declared.arithmetic.Relation.{Relation}
use Rattle.words.specs.declared.arithmetic.Relation.TheVariants.{Equal, NotEqual, Less, LessOrEqual, Greater, GreaterOrEqual}

-- the word that an integer wraps around to: its low 32 bits, read with a sign
unfoldable pub wrap : ℤ → ℤ
wrap z = int_wrap w32 z

abbrev pub is_zero : ℤ → Bool
is_zero (pos n) = n == 0
is_zero (negsuc n) = false

abbrev pub same_word : ℤ → ℤ → Bool
same_word (pos a) (pos b) = a == b
same_word (pos a) (negsuc b) = false
same_word (negsuc a) (pos b) = false
same_word (negsuc a) (negsuc b) = a == b

-- a result, or none where the divisor is 0; a quotient is cut toward zero, and a remainder has the dividend's sign
abbrev pub compute : Operator → ℤ → ℤ → Option ℤ
compute Add a b = Some (wrap (a +ℤ b))
compute Subtract a b = Some (wrap (a -ℤ b))
compute Multiply a b = Some (wrap (a *ℤ b))
compute Divide a b = cond (is_zero b) None (Some (wrap (int_div a b)))
compute Remainder a b = cond (is_zero b) None (Some (int_rem a b))

abbrev pub negation : ℤ → ℤ
negation a = wrap (neg_ℤ a)

abbrev pub holds : Relation → ℤ → ℤ → Bool
holds Equal a b = same_word a b
holds NotEqual a b = not (same_word a b)
holds Less a b = int_lt a b
holds LessOrEqual a b = not (int_lt b a)
holds Greater a b = int_lt b a
holds GreaterOrEqual a b = not (int_lt a b)
