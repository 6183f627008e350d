use Rattle.std.proofs.Common.{◌≡◌, Some, None, Err, subst, rules, tests}
use Rattle.outcomes.specs.declared.Refusal.TheVariants.{NoToken, NumberTooLarge}
use Rattle.scanner.specs.Found.{FoundOrNone}
use Rattle.scanner.specs.Steps.{no_token}
use Rattle.scanner.proofs.Finding.{large_found}
use Rattle.scanner.proofs.scan.Scanner.next.Goals as goal

pub returns-in_err-lexeme : goal.returns-in_err-lexeme
returns-in_err-lexeme c =
    let refused : c.from_residual.result ≡ Err (record { refusal = NoToken; position = c.args.self.now.position }) = search (rules, tests) in
    let none : c.longest_lexeme.result ≡ None = search (rules, tests) in
    rw refused (no_token (subst (FoundOrNone c.args.self.now.rest.now) none c.longest_lexeme.ensures))

pub returns-then-is_too_large : goal.returns-then-is_too_large
returns-then-is_too_large c =
    let refused : c.fault.result ≡ record { refusal = NumberTooLarge; position = c.args.self.now.position } = search (rules, tests) in
    let some : c.longest_lexeme.result ≡ Some c.in_ok-lexeme.lexeme = search (rules, tests) in
    rw refused
    (large_found c.args.self.now.rest.now c.args.self.now.position c.in_ok-lexeme.lexeme (subst (FoundOrNone c.args.self.now.rest.now) some c.longest_lexeme.ensures) c.if-is_too_large.ensures)
