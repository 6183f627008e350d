-- A table is searched from its front.
use Rattle.std.proofs.Common.{◌≡◌, ℕ, Bool, true, false, cond, List, [], ◌∷◌, Some, None, Option, Bor, refl, ap, ◌∙◌}
use Rattle.std.specs.List.{find}
use Rattle.std.specs.Option.{option_map}
use Rattle.std.specs.Str.{bytes_eq}
use Rattle.syntax.specs.Lexemes.{seek}
use Rattle.scanner.specs.declared.symbols.Spelling.{Spelling}
use Rattle.scanner.specs.Tables.{table}

seek_first : (ss : List Spelling) (w : List ℕ) → option_map (λ s. s.1) (find (λ s. bytes_eq s.0.now w) ss) ≡ seek (table ss) w
seek_first [] w = refl
seek_first (s ∷ ss) w = first (bytes_eq s.0.now w) (seek_first ss w)
  where
    first :
        (b : Bool) → option_map (λ s. s.1) (find (λ s. bytes_eq s.0.now w) ss) ≡ seek (table ss) w →
        option_map (λ s. s.1) (cond b (Some s) (find (λ s. bytes_eq s.0.now w) ss)) ≡ cond b (Some s.1) (seek (table ss) w)
    first true e = refl
    first false e = e

-- the symbol of the first spelling that is the word is what the table has for it
pub seek_found : (ss : List Spelling) (w : List ℕ) (r : Option (Bor Spelling)) → option_map (λ x. x.now) r ≡ find (λ s. bytes_eq s.0.now w) ss → option_map (λ x. x.now.1) r ≡ seek (table ss) w
seek_found ss w None e = ap (option_map (λ s. s.1)) e ∙ seek_first ss w
seek_found ss w (Some x) e = ap (option_map (λ s. s.1)) e ∙ seek_first ss w
