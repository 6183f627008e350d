-- The class of a lexeme is decided by its first bytes.
use Rattle.std.proofs.Common.{◌≡◌, ℕ, zero, suc, ◌≤◌, Bool, true, false, cond, eqb, leb, ◌⊎◌, List, [], ◌∷◌, length, is_some, Some, None, Option, sym, refl, ap, ◌∙◌, inl, inr, arith}
use Rattle.std.specs.List.{list_all}
use Rattle.std.specs.Option.{option_map, option_or}
use Rattle.std.specs.Str.{bytes_eq}
use Rattle.std.proofs.lemmas.Slice.Eq.{bytes_eq-Decides}
use Rattle.std.proofs.lemmas.Bool.{eqb-true, both_ways, and_parts, and_left, cond-false, leb-true}
use Rattle.std.proofs.lemmas.Bool.Decides.{nat_tests}
use Rattle.syntax.specs.declared.symbol.Symbol.{Symbol}
use Rattle.syntax.specs.Tokens.{name, number, character, symbol}
use Rattle.syntax.specs.Lexemes.{keywords, token_of, is_letter, is_digit, is_blank, Spelt, seek, operators, constant, quoted, Class, blank, comment, namelike, numeric, quotation, operator, is, NoLexeme}

-- the class of what begins with a byte, apart from comments
abbrev pub by_first : ℕ → Class
by_first b = cond (is_letter b) namelike (cond (is_digit b) numeric (cond (is_blank b) blank (cond (eqb b 39) quotation operator)))

abbrev pub class_of : List ℕ → Class
class_of [] = operator
class_of (b ∷ w) = cond (is comment (b ∷ w)) comment (by_first b)

pub first_letter : (b : ℕ) → is_letter b ≡ true → by_first b ≡ namelike
first_letter b h = rw h refl

pub first_digit : (b : ℕ) → is_digit b ≡ true → by_first b ≡ numeric
first_digit b h =
    let l : is_letter b ≡ false = grind (arith, nat_tests) in
    rw (l, h) refl

pub first_blank : (b : ℕ) → is_blank b ≡ true → by_first b ≡ blank
first_blank b h =
    let l : is_letter b ≡ false = grind (arith, nat_tests) in
    let d : is_digit b ≡ false = grind (arith, nat_tests) in
    rw (l, d, h) refl

pub first_quote : (b : ℕ) → eqb b 39 ≡ true → by_first b ≡ quotation
first_quote b h = rw (eqb-true b 39 h) refl

-- the classes whose first byte is no slash
abbrev pub not_slash : Class → Bool
not_slash comment = false
not_slash operator = false
not_slash c = true

pub no_comment : (b : ℕ) (w : List ℕ) → eqb b 47 ≡ false → is comment (b ∷ w) ≡ false
no_comment b [] h = refl
no_comment b (c ∷ w) h = and_left _ _ (and_left _ _ h)

pub class_first : (b : ℕ) (w : List ℕ) (c : Class) → by_first b ≡ c → not_slash c ≡ true → class_of (b ∷ w) ≡ c
class_first b w c e n = cond-false (is comment (b ∷ w)) _ _ (no_comment b w (slash (eqb b 47) refl)) ∙ e
  where
    slash : (t : Bool) → eqb b 47 ≡ t → t ≡ false
    slash true h = absurd (both_ways (not_slash c) (ap not_slash (sym e ∙ ap by_first (eqb-true b 47 h))) n)
    slash false h = refl

-- what every spelling of a table passes, one that is found passes
pub seek_each : (test : List ℕ → Bool) (xs : List Spelt) (w : List ℕ) → list_all (λ x. test x.0) xs ≡ true → is_some (seek xs w) ≡ true → test w ≡ true
seek_each test [] w h s = absurd cc
seek_each test (x ∷ xs) w h s = same (bytes_eq x.0 w) refl (seek_each test xs w (and_parts _ _ h).1) s
  where
    same : (t : Bool) → bytes_eq x.0 w ≡ t → (is_some (seek xs w) ≡ true → test w ≡ true) → is_some (cond t (Some x.1) (seek xs w)) ≡ true → test w ≡ true
    same true e r s = rw ((bytes_eq-Decides x.0 w).0 e) at (and_parts (test x.0) (list_all (λ x. test x.0) xs) h).0
    same false e r s = r s

is_operator : Class → Bool
is_operator operator = true
is_operator c = false

only_operator : (c : Class) → is_operator c ≡ true → c ≡ operator
unfolding is_operator
only_operator operator h = refl
only_operator c h = absurd cc

operators_begin : list_all (λ x. is_operator (class_of x.0)) operators ≡ true
unfolding is_operator
operators_begin = refl

-- an operator has at most two bytes
pub operators_short : (w : List ℕ) → is operator w ≡ true → length w ≤ 2
operators_short w h = leb-true (length w) 2 (seek_each (λ v. leb (length v) 2) operators w refl h)

pub quoted_some : (t : Bool) (v : Option ℕ) → is_some (quoted t v) ≡ true → t ≡ true
quoted_some true v h = refl
quoted_some false v h = absurd cc

pub quoted_value : (t : Bool) (v : Option ℕ) → is_some (quoted t v) ≡ true → is_some v ≡ true
quoted_value true v h = h
quoted_value false v h = absurd cc

constants_begin : (w : List ℕ) → is_some (constant w) ≡ true → class_of w ≡ quotation
constants_begin (a ∷ b ∷ c ∷ []) h = class_first a (b ∷ c ∷ []) quotation (first_quote a (and_parts _ _ (quoted_some _ _ h)).0) refl
constants_begin (a ∷ b ∷ c ∷ d ∷ []) h = class_first a (b ∷ c ∷ d ∷ []) quotation (first_quote a (and_parts _ _ (and_parts _ _ (quoted_some _ _ h)).0).0) refl
constants_begin w h = absurd cc

-- a character constant has three or four bytes
pub constants_short : (w : List ℕ) → is quotation w ≡ true → (length w ≡ 3) ⊎ (length w ≡ 4)
constants_short (a ∷ b ∷ c ∷ []) h = inl refl
constants_short (a ∷ b ∷ c ∷ d ∷ []) h = inr refl
constants_short w h = absurd cc

-- the class of a lexeme
pub class_is : (c : Class) (w : List ℕ) → is c w ≡ true → class_of w ≡ c
class_is blank [] h = absurd cc
class_is blank (b ∷ []) h = class_first b [] blank (first_blank b h) refl
class_is blank (b ∷ c ∷ bs) h = absurd cc
class_is comment [] h = absurd cc
class_is comment (a ∷ w) h = rw h refl
class_is namelike [] h = absurd cc
class_is namelike (b ∷ w) h = class_first b w namelike (first_letter b (and_parts _ _ h).0) refl
class_is numeric [] h = absurd cc
class_is numeric (b ∷ w) h = class_first b w numeric (first_digit b (and_parts _ _ h).0) refl
class_is quotation w h = constants_begin w h
class_is operator w h = only_operator (class_of w) (seek_each (λ v. is_operator (class_of v)) operators w operators_begin h)

-- two classes have no bytes in common
pub one_class : (c d : Class) (w : List ℕ) → is c w ≡ true → is d w ≡ true → c ≡ d
one_class c d w h i = sym (class_is c w h) ∙ class_is d w i

pub none_empty : (c : Class) → is c [] ≡ false
none_empty blank = refl
none_empty c = refl

pub empty_none : NoLexeme []
empty_none zero c l = none_empty c
empty_none (suc n) c l = none_empty c

-- only a number's token is a number
pub number_class : (c : Class) (w : List ℕ) (n : ℕ) → token_of c w ≡ Some (number n) → c ≡ numeric
number_class blank w n e = absurd cc
number_class comment w n e = absurd cc
number_class namelike w n e = name_kind (seek keywords w) e
  where
    name_kind : (s : Option Symbol) → option_or (option_map symbol s) (Some (name w)) ≡ Some (number n) → namelike ≡ numeric
    name_kind None e = absurd cc
    name_kind (Some s) e = absurd cc
number_class numeric w n e = refl
number_class quotation w n e = constant_kind (constant w) e
  where
    constant_kind : (v : Option ℕ) → option_map character v ≡ Some (number n) → quotation ≡ numeric
    constant_kind None e = absurd cc
    constant_kind (Some v) e = absurd cc
number_class operator w n e = symbol_kind (seek operators w) e
  where
    symbol_kind : (s : Option Symbol) → option_map symbol s ≡ Some (number n) → operator ≡ numeric
    symbol_kind None e = absurd cc
    symbol_kind (Some s) e = absurd cc
