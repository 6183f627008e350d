-- Lexemes: which bytes are a blank, a comment or a token, and which token.
use Rattle.std.specs.Prelude.{◌≡◌, ℕ, ◌<◌, ◌≤◌, Bool, true, false, cond, not, ◌&&◌, ◌||◌, List, [], ◌∷◌, length, take, is_some, Some, None, codes, Option, ◌==◌, nat_le}
use Rattle.std.specs.List.{list_all}
use Rattle.std.specs.Option.{option_map, option_or}
use Rattle.std.specs.Str.{bytes_eq}
use Rattle.words.specs.Laws.{worth}
use Rattle.syntax.specs.declared.symbol.Symbol.{Symbol}
use Rattle.syntax.specs.declared.symbol.Symbol.TheVariants as sym
use Rattle.syntax.specs.Tokens.{TokenKind, name, number, character, symbol}

abbrev pub is_letter : ℕ → Bool
is_letter b = (nat_le 65 b && nat_le b 90) || (nat_le 97 b && nat_le b 122)

abbrev pub is_digit : ℕ → Bool
is_digit b = nat_le 48 b && nat_le b 57

-- letters, digits and underlines go on with a name
abbrev pub is_name_part : ℕ → Bool
is_name_part b = is_letter b || (is_digit b || b == 95)

-- tab, line feed, carriage return and space
abbrev pub is_blank : ℕ → Bool
is_blank b = (b == 9 || b == 10) || (b == 13 || b == 32)

-- a symbol and its bytes
abbrev pub Spelt : Type 0
Spelt = List ℕ × Symbol

abbrev pub keywords : List Spelt
keywords =
    (codes "break", sym.Break) ∷ (codes "class", sym.Class) ∷ (codes "else", sym.Else) ∷ (codes "extends", sym.Extends) ∷ (codes "final", sym.Final)
    ∷ (codes "if", sym.If) ∷ (codes "new", sym.New) ∷ (codes "print", sym.Print) ∷ (codes "read", sym.Read) ∷ (codes "return", sym.Return)
    ∷ (codes "void", sym.Void) ∷ (codes "while", sym.While) ∷ []

abbrev pub operators : List Spelt
operators =
    (codes "+", sym.Plus) ∷ (codes "-", sym.Minus) ∷ (codes "*", sym.Times) ∷ (codes "/", sym.Over) ∷ (codes "%", sym.Percent)
    ∷ (codes "==", sym.Equal) ∷ (codes "!=", sym.NotEqual) ∷ (codes "<", sym.Less) ∷ (codes "<=", sym.LessOrEqual) ∷ (codes ">", sym.Greater) ∷ (codes ">=", sym.GreaterOrEqual)
    ∷ (codes "&&", sym.And) ∷ (codes "||", sym.Or) ∷ (codes "=", sym.Assign) ∷ (codes "++", sym.Increment) ∷ (codes "--", sym.Decrement)
    ∷ (codes ";", sym.Semicolon) ∷ (codes ",", sym.Comma) ∷ (codes ".", sym.Dot) ∷ (codes "(", sym.OpenParenthesis) ∷ (codes ")", sym.CloseParenthesis)
    ∷ (codes "[", sym.OpenBracket) ∷ (codes "]", sym.CloseBracket) ∷ (codes "{", sym.OpenBrace) ∷ (codes "}", sym.CloseBrace) ∷ []

-- the symbol that bytes spell
abbrev pub seek : List Spelt → List ℕ → Option Symbol
seek [] bs = None
seek (x ∷ xs) bs = cond (bytes_eq x.0 bs) (Some x.1) (seek xs bs)

-- the letter behind a backslash: n, r and t stand for 10, 13 and 9
abbrev pub escape : ℕ → Option ℕ
escape b = cond (b == 110) (Some 10) (cond (b == 114) (Some 13) (cond (b == 116) (Some 9) None))

-- a byte from 32 to 126 other than the backslash stands for itself
abbrev pub plain : ℕ → Option ℕ
plain b = cond ((nat_le 32 b && nat_le b 126) && not (b == 92)) (Some b) None

abbrev pub quoted : Bool → Option ℕ → Option ℕ
quoted true v = v
quoted false v = None

-- the value of a character constant: a byte or an escape between two quotes
abbrev pub constant : List ℕ → Option ℕ
constant [] = None
constant (a ∷ []) = None
constant (a ∷ b ∷ []) = None
constant (a ∷ b ∷ c ∷ []) = quoted (a == 39 && c == 39) (plain b)
constant (a ∷ b ∷ c ∷ d ∷ []) = quoted ((a == 39 && b == 92) && d == 39) (escape c)
constant (a ∷ b ∷ c ∷ d ∷ e ∷ bs) = None

pub data Class : Type 0 where
  blank comment namelike numeric quotation operator : Class

-- which bytes are a lexeme of a class
abbrev pub is : Class → List ℕ → Bool
is blank [] = false
is blank (b ∷ []) = is_blank b
is blank (b ∷ c ∷ bs) = false
-- two slashes, and anything up to the end of the line
is comment [] = false
is comment (a ∷ []) = false
is comment (a ∷ b ∷ bs) = (a == 47 && b == 47) && list_all (λ c. not (c == 10)) bs
is namelike [] = false
is namelike (b ∷ bs) = is_letter b && list_all is_name_part bs
is numeric [] = false
is numeric (b ∷ bs) = is_digit b && list_all is_digit bs
is quotation bs = is_some (constant bs)
is operator bs = is_some (seek operators bs)

-- the token that a lexeme is: none for a blank or a comment; a keyword is no name
abbrev pub token_of : Class → List ℕ → Option TokenKind
token_of blank bs = None
token_of comment bs = None
token_of namelike bs = option_or (option_map symbol (seek keywords bs)) (Some (name bs))
token_of numeric bs = Some (number (worth 0 bs))
token_of quotation bs = option_map character (constant bs)
token_of operator bs = option_map symbol (seek operators bs)

-- a lexeme of a text: its class and how many bytes it has
pub record Lexeme : Type 0 where
  pub class : Class
  pub size : ℕ

-- the longest lexeme that the bytes begin with
pub record Longest (bs : List ℕ) (l : Lexeme) : Type 0 where
  pub within : l.size ≤ length bs
  pub lexeme : is l.class (take l.size bs) ≡ true
  pub longest : (n : ℕ) (c : Class) → l.size < n → n ≤ length bs → is c (take n bs) ≡ false

-- no lexeme begins here
abbrev pub NoLexeme : List ℕ → Type 0
NoLexeme bs = (n : ℕ) (c : Class) → n ≤ length bs → is c (take n bs) ≡ false
