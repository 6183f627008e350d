-- Laws of scanning, in the words of a reader.
use Rattle.std.specs.Prelude.{◌≡◌, ℕ, List, Result}
use Rattle.outcomes.specs.declared.Fault.{Fault}
use Rattle.syntax.specs.Tokens.{Token}
use Rattle.syntax.specs.Scanning.{ScannedAs}

-- a text is cut into tokens in one way, or it has one fault
pub record ScanningHasOneAnswer : Type 0 where
  pub some : (text : List ℕ) → (r : Result (List Token) Fault) × ScannedAs text r
  pub one : (text : List ℕ) (r s : Result (List Token) Fault) → ScannedAs text r → ScannedAs text s → r ≡ s
