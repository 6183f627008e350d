-- One step of the scanner, and what it answers for a text.
use Rattle.std.specs.Prelude.{◌≡◌, ℕ, ◌+◌, ◌<◌, ◌≤◌, List, [], take, drop, Some, Ok, Err, Option, Result}
use Rattle.std.specs.Option.{option_to_list}
use Rattle.outcomes.specs.declared.Fault.{Fault}
use Rattle.outcomes.specs.declared.Position.{Position}
use Rattle.outcomes.specs.declared.Refusal.TheVariants.{NoToken, NumberTooLarge}
use Rattle.syntax.specs.declared.token.Token.{Token as BorrowedToken}
use Rattle.syntax.specs.Tokens.{number, Token, behind}
use Rattle.syntax.specs.Borrowed.{tokens_meant}
use Rattle.syntax.specs.Lexemes.{Lexeme, numeric, token_of, Longest, NoLexeme}
use Rattle.syntax.specs.Scanning.{Fits, before}
use Rattle.scanner.specs.declared.scan.Scanner.{Scanner}

-- n bytes behind a position, lines and columns are still small
pub record Room (p : Position) (n : ℕ) : Type 0 where
  pub lines : p.line + n ≤ 65537
  pub columns : p.column + n ≤ 65537

-- a step goes behind one lexeme
pub record Taken (s t : Scanner) (token : Option BorrowedToken) : Type 0 where
  pub lexeme : Lexeme
  pub longest : Longest s.rest.now lexeme
  pub fits : Fits (token_of lexeme.class (take lexeme.size s.rest.now))
  pub is : tokens_meant (option_to_list token) ≡ before (token_of lexeme.class (take lexeme.size s.rest.now)) s.position []
  pub rest : t.rest.now ≡ drop lexeme.size s.rest.now
  pub position : t.position ≡ behind s.position (take lexeme.size s.rest.now)

-- what stands at a position is refused
pub data RefusedAt (rest : List ℕ) (p : Position) : Fault → Type 0 where
  no_token : NoLexeme rest → RefusedAt rest p (record { refusal = NoToken; position = p })
  large :
      (n value : ℕ) → Longest rest (record { class = numeric; size = n }) → token_of numeric (take n rest) ≡ Some (number value) → 2147483647 < value →
      RefusedAt rest p (record { refusal = NumberTooLarge; position = p })

abbrev pub Stepped : Scanner → Scanner → Result (Option BorrowedToken) Fault → Type 0
Stepped s t (Ok token) = Taken s t token
Stepped s t (Err fault) = RefusedAt s.rest.now s.position fault

-- the answer of a scan that leaves these tokens
abbrev pub told : List BorrowedToken → Result Position Fault → Result (List Token) Fault
told items (Ok end) = Ok (tokens_meant items)
told items (Err fault) = Err fault
