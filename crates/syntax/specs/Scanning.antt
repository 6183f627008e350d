-- How a text is cut into lexemes, its tokens, and which refusal any other text gets.
use Rattle.std.specs.Prelude.{◌≡◌, ℕ, ◌<◌, ◌≤◌, List, [], ◌∷◌, ◌++◌, length, take, drop, Some, None, Ok, Err, Option, Result}
use Rattle.outcomes.specs.declared.Fault.{Fault}
use Rattle.outcomes.specs.declared.Position.{Position}
use Rattle.outcomes.specs.declared.Refusal.TheVariants.{TextTooLong, NoToken, NumberTooLarge}
use Rattle.syntax.specs.Tokens.{TokenKind, name, number, character, symbol, Token, token, start, behind}
use Rattle.syntax.specs.Lexemes.{Lexeme, numeric, token_of, Longest, NoLexeme}

-- a number is at most 2,147,483,647
abbrev pub Fits : Option TokenKind → Type 0
Fits None = Unit {0}
Fits (Some (name bs)) = Unit {0}
Fits (Some (number n)) = n ≤ 2147483647
Fits (Some (character c)) = Unit {0}
Fits (Some (symbol s)) = Unit {0}

-- the lexemes stand one behind the other at the front of the text, each the longest that begins there; `rest` is behind them
abbrev pub Cut : List Lexeme → List ℕ → List ℕ → Type 0
Cut [] text rest = text ≡ rest
Cut (l ∷ ls) text rest = Longest text l × Fits (token_of l.class (take l.size text)) × Cut ls (drop l.size text) rest

-- blanks and comments are no tokens
abbrev pub before : Option TokenKind → Position → List Token → List Token
before None p ts = ts
before (Some k) p ts = token k p ∷ ts

-- the tokens among the lexemes of a text
abbrev pub tokens : List Lexeme → Position → List ℕ → List Token
tokens [] p text = []
tokens (l ∷ ls) p text = before (token_of l.class (take l.size text)) p (tokens ls (behind p (take l.size text)) (drop l.size text))

-- the whole text is cut into lexemes
pub record Cuts (text : List ℕ) (ts : List Token) : Type 0 where
  pub short : length text ≤ 65536
  pub lexemes : List Lexeme
  pub cut : Cut lexemes text []
  pub are : ts ≡ tokens lexemes start text

-- the text is cut up to a place where something else stands
pub record CutUpTo (text : List ℕ) (p : Position) (rest : List ℕ) : Type 0 where
  pub short : length text ≤ 65536
  pub lexemes : List Lexeme
  pub cut : Cut lexemes text rest
  pub front : List ℕ
  pub parts : text ≡ front ++ rest
  pub place : p ≡ behind start front

pub data RefusedByScan (text : List ℕ) : Fault → Type 0 where
  -- the text has more than 65,536 bytes
  long : 65536 < length text → RefusedByScan text (record { refusal = TextTooLong; position = record { line = 0; column = 0 } })
  -- no token begins here
  no_token : (p : Position) (rest : List ℕ) → CutUpTo text p rest → 0 < length rest → NoLexeme rest → RefusedByScan text (record { refusal = NoToken; position = p })
  -- a number is too large; this is its first digit
  large :
      (p : Position) (rest : List ℕ) (n value : ℕ) → CutUpTo text p rest → Longest rest (record { class = numeric; size = n }) → token_of numeric (take n rest) ≡ Some (number value) → 2147483647 < value →
      RefusedByScan text (record { refusal = NumberTooLarge; position = p })

-- the first stage's answer for a text: its tokens, or the earliest fault
abbrev pub ScannedAs : List ℕ → Result (List Token) Fault → Type 0
ScannedAs text (Ok ts) = Cuts text ts
ScannedAs text (Err f) = RefusedByScan text f
