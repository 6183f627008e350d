-- What the scanner finds at the front of a text.
use Rattle.std.specs.Prelude.{◌≡◌, ℕ, ◌<◌, ◌≤◌, Bool, true, false, List, length, take, Some, None, Option, nat_eq, slice_index}
use Rattle.std.specs.Option.{option_map}
use Rattle.syntax.specs.declared.token.TokenKind.{TokenKind as BorrowedKind}
use Rattle.syntax.specs.Tokens.{TokenKind, number}
use Rattle.syntax.specs.Borrowed.{kind_meant}
use Rattle.syntax.specs.Lexemes.{is_letter, is_digit, is_blank, Class, comment, is, token_of, Longest, NoLexeme}
use Rattle.syntax.specs.Scanning.{Fits}
use Rattle.scanner.specs.declared.lexeme.Lexeme.{Lexeme}

-- the longest lexeme at the front, and its token
pub record Found (bs : List ℕ) (l : Lexeme) : Type 0 where
  pub class : Class
  pub longest : Longest bs (record { class = class; size = l.size })
  pub token : option_map kind_meant l.kind ≡ token_of class (take l.size bs)

abbrev pub FoundOrNone : List ℕ → Option Lexeme → Type 0
FoundOrNone bs None = NoLexeme bs
FoundOrNone bs (Some l) = Found bs l

-- the first n bytes are a lexeme of the class, with its token
pub record Candidate (c : Class) (n : ℕ) (bs : List ℕ) (l : Lexeme) : Type 0 where
  pub within : n ≤ length bs
  pub size : l.size ≡ n
  pub lexeme : is c (take n bs) ≡ true
  pub token : option_map kind_meant l.kind ≡ token_of c (take n bs)

-- whether the first n bytes are a lexeme of the class
abbrev pub Tried : Class → ℕ → List ℕ → Option Lexeme → Type 0
Tried c n bs None = n ≤ length bs → is c (take n bs) ≡ false
Tried c n bs (Some l) = Candidate c n bs l

-- nothing but an operator can begin here
pub record OnlyOperators (bs : List ℕ) : Type 0 where
  pub some : 0 < length bs
  pub letter : is_letter (slice_index bs 0) ≡ false
  pub digit : is_digit (slice_index bs 0) ≡ false
  pub blank : is_blank (slice_index bs 0) ≡ false
  pub quote : nat_eq (slice_index bs 0) 39 ≡ false
  pub comment : is comment (take 2 bs) ≡ false

-- a number above the largest
pub record TooLarge (k : Option TokenKind) : Type 0 where
  pub value : ℕ
  pub is : k ≡ Some (number value)
  pub large : 2147483647 < value

abbrev pub Judged : Option BorrowedKind → Bool → Type 0
Judged k true = TooLarge (option_map kind_meant k)
Judged k false = Fits (option_map kind_meant k)
