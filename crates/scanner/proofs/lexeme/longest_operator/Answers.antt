use Rattle.std.proofs.Common.{rules, tests, ◌≡◌, Some}
use Rattle.std.specs.Option.{MatchOption}
use Rattle.syntax.specs.Lexemes.{operator}
use Rattle.scanner.specs.Found.{Tried}
use Rattle.scanner.proofs.Finding.{operator_found}
use Rattle.scanner.proofs.lexeme.longest_operator.Goals as goal

pub returns : goal.returns
returns c =
    let text = c.args.text.now in
    let then_one : MatchOption c.operator_of.result (Tried operator 1 text c.or_else.result) (λ l. c.or_else.result ≡ Some l) = search (rules, tests) in
    operator_found text c.operator_of.result c.or_else.result c.requires c.operator_of.ensures then_one
