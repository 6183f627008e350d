-- The tokens that the code holds, as those of the definitions.
use Rattle.std.specs.Prelude.{List, map}
use Rattle.words.specs.Laws.{worth}
use Rattle.syntax.specs.declared.token.Token.{Token as BorrowedToken}
use Rattle.syntax.specs.declared.token.TokenKind.{TokenKind as BorrowedKind}
use Rattle.syntax.specs.declared.token.TokenKind.TheVariants as borrowed
use Rattle.syntax.specs.Tokens.{TokenKind, name, number, character, symbol, Token, token}

-- digits stand for the number that they are worth
abbrev pub kind_meant : BorrowedKind → TokenKind
kind_meant (borrowed.Name word) = name word.now
kind_meant (borrowed.Number digits) = number (worth 0 digits.now)
kind_meant (borrowed.Character value) = character value
kind_meant (borrowed.Symbol s) = symbol s

abbrev pub token_meant : BorrowedToken → Token
token_meant t = token (kind_meant t.kind) t.position

abbrev pub tokens_meant : List BorrowedToken → List Token
tokens_meant ts = map token_meant ts
