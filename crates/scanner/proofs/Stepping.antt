-- What a step of the scanner adds.
use Rattle.std.proofs.Common.{◌≡◌, ℕ, ◌<◌, ◌≤◌, List, [], ◌++◌, length, take, drop, Option, sym, ap, ◌∙◌, subst, arith}
use Rattle.std.specs.Option.{option_to_list}
use Rattle.std.proofs.lemmas.List.{length-drop, map-append}
use Rattle.outcomes.specs.declared.Fault.{Fault}
use Rattle.outcomes.specs.declared.Position.{Position}
use Rattle.syntax.specs.declared.token.Token.{Token as BorrowedToken}
use Rattle.syntax.specs.Tokens.{Token, behind}
use Rattle.syntax.specs.Borrowed.{token_meant, tokens_meant}
use Rattle.syntax.specs.Lexemes.{token_of}
use Rattle.syntax.specs.Scanning.{before, RefusedByScan, no_token, large}
use Rattle.scanner.specs.declared.scan.Scanner.{Scanner}
use Rattle.scanner.specs.Steps as step
use Rattle.scanner.specs.Steps.{Room, Taken, RefusedAt}
use Rattle.scanner.proofs.Places.{room_more}
use Rattle.syntax.proofs.Progress.{Progress, progress_more, up_to, lexeme_some}

pub step_progress :
    (text : List ℕ) (items more : List BorrowedToken) (s t : Scanner) (k : Option BorrowedToken) → Progress text (tokens_meant items) s.position s.rest.now → Taken s t k →
    more ≡ items ++ option_to_list k → Progress text (tokens_meant more) t.position t.rest.now
step_progress text items more s t k g h e =
    let ts : tokens_meant more ≡ tokens_meant items ++ before (token_of h.lexeme.class (take h.lexeme.size s.rest.now)) s.position [] =
    ap tokens_meant e ∙ map-append token_meant items (option_to_list k) ∙ ap (λ (us : List Token). tokens_meant items ++ us) h.is in
    subst (λ (us : List Token). Progress text us t.position t.rest.now) (sym ts)
    (subst (λ (p : Position). Progress text (tokens_meant items ++ before (token_of h.lexeme.class (take h.lexeme.size s.rest.now)) s.position []) p t.rest.now) (sym h.position)
    (subst
    (λ (r : List ℕ).
    Progress text (tokens_meant items ++ before (token_of h.lexeme.class (take h.lexeme.size s.rest.now)) s.position []) (behind s.position (take h.lexeme.size s.rest.now)) r)
    (sym h.rest) (progress_more text (tokens_meant items) s.position s.rest.now h.lexeme g h.longest h.fits)))

pub step_room : (s t : Scanner) (k : Option BorrowedToken) → Taken s t k → Room s.position (length s.rest.now) → Room t.position (length t.rest.now)
step_room s t k h r =
    subst (λ (p : Position). Room p (length t.rest.now)) (sym h.position)
    (subst (λ (bs : List ℕ). Room (behind s.position (take h.lexeme.size s.rest.now)) (length bs)) (sym h.rest) (room_more s.position s.rest.now h.lexeme.size h.longest.within r))

pub step_shorter : (s t : Scanner) (k : Option BorrowedToken) → Taken s t k → length t.rest.now < length s.rest.now
step_shorter s t k h =
    let less : length t.rest.now ≡ length (drop h.lexeme.size s.rest.now) = ap length h.rest in
    omega (arith, less, length-drop h.lexeme.size s.rest.now, lexeme_some s.rest.now h.lexeme h.longest, h.longest.within)

-- what is refused at the place reached is the text's fault
pub step_refused :
    (text : List ℕ) (ts : List Token) (p : Position) (rest : List ℕ) (f : Fault) → length text ≤ 65536 → Progress text ts p rest → 0 < length rest → RefusedAt rest p f → RefusedByScan text f
step_refused text ts p rest f short g some (step.no_token h) = no_token p rest (up_to text ts p rest short g) some h
step_refused text ts p rest f short g some (step.large n value h e l) = large p rest n value (up_to text ts p rest short g) h e l
