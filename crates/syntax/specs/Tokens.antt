-- Tokens: what a text is made of, each with its position.
use Rattle.std.specs.Prelude.{ℕ, ◌+◌, cond, List, [], ◌∷◌, ◌==◌}
use Rattle.outcomes.specs.declared.Position.{Position}
use Rattle.syntax.specs.declared.symbol.Symbol.{Symbol}

pub data TokenKind : Type 0 where
  -- the bytes of a name
  name : List ℕ → TokenKind
  -- the value of a number
  number : ℕ → TokenKind
  -- the value of a character constant
  character : ℕ → TokenKind
  -- a keyword or an operator
  symbol : Symbol → TokenKind

pub record Token : Type 0 where
  pub kind : TokenKind
  pub position : Position

abbrev pub token : TokenKind → Position → Token
token k p = record { kind = k; position = p }

-- lines and columns count from 1
abbrev pub start : Position
start = record { line = 1; column = 1 }

-- columns count bytes; byte 10 ends a line
abbrev pub behind : Position → List ℕ → Position
behind p [] = p
behind p (b ∷ bs) = behind (cond (b == 10) (record { line = p.line + 1; column = 1 }) (record { line = p.line; column = p.column + 1 })) bs
