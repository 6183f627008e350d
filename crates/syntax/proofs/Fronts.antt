-- The front of a list of tokens: a number for what its first token is.
use Rattle.std.proofs.Common.{ℕ, Bool, ◌||◌, eqb, List, [], ◌∷◌}
use Rattle.outcomes.specs.declared.Position.{Position}
use Rattle.syntax.specs.declared.symbol.Symbol.{Symbol}
use Rattle.syntax.specs.declared.symbol.Symbol.TheVariants as sym
use Rattle.syntax.specs.Tokens.{TokenKind, name, number, character, symbol, Token}

abbrev pub code : Symbol → ℕ
code sym.Break = 0
code sym.Class = 1
code sym.Else = 2
code sym.Extends = 3
code sym.Final = 4
code sym.If = 5
code sym.New = 6
code sym.Print = 7
code sym.Read = 8
code sym.Return = 9
code sym.Void = 10
code sym.While = 11
code sym.Plus = 12
code sym.Minus = 13
code sym.Times = 14
code sym.Over = 15
code sym.Percent = 16
code sym.Equal = 17
code sym.NotEqual = 18
code sym.Less = 19
code sym.LessOrEqual = 20
code sym.Greater = 21
code sym.GreaterOrEqual = 22
code sym.And = 23
code sym.Or = 24
code sym.Assign = 25
code sym.Increment = 26
code sym.Decrement = 27
code sym.Semicolon = 28
code sym.Comma = 29
code sym.Dot = 30
code sym.OpenParenthesis = 31
code sym.CloseParenthesis = 32
code sym.OpenBracket = 33
code sym.CloseBracket = 34
code sym.OpenBrace = 35
code sym.CloseBrace = 36

abbrev pub a_name : ℕ
a_name = 40

abbrev pub a_number : ℕ
a_number = 41

abbrev pub a_character : ℕ
a_character = 42

abbrev pub kind_code : TokenKind → ℕ
kind_code (name w) = a_name
kind_code (number n) = a_number
kind_code (character c) = a_character
kind_code (symbol s) = code s

-- 43 where no token is left
abbrev pub front : List Token → ℕ
front [] = 43
front (t ∷ ts) = kind_code t.kind

abbrev pub is_front : Symbol → List Token → Bool
is_front s ts = eqb (front ts) (code s)

abbrev pub rest : List Token → List Token
rest [] = []
rest (t ∷ ts) = ts

abbrev pub place : List Token → Position
place [] = record { line = 0; column = 0 }
place (t ∷ ts) = t.position

-- what an expression begins with
abbrev pub begins_expr : ℕ → Bool
begins_expr n = (eqb n 13 || eqb n 6) || ((eqb n 31 || eqb n 40) || (eqb n 41 || eqb n 42))

-- what a statement begins with
abbrev pub begins_statement : ℕ → Bool
begins_statement n = ((eqb n 0 || eqb n 5) || (eqb n 7 || eqb n 8)) || ((eqb n 9 || eqb n 11) || (eqb n 28 || (eqb n 35 || eqb n 40)))
