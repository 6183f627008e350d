use Rattle.std.proofs.Common.{w32, SFits, rules}
use Rattle.std.proofs.lemmas.Int.{wraps}
use Rattle.words.specs.Arithmetic.{wrap}
use Rattle.words.proofs.Quotients.{wraps_quotient}
use Rattle.words.proofs.arithmetic.Operator.compute.Goals as goal

pub returns-in-Add : goal.returns-in-Add
unfolding wrap
returns-in-Add c = search (rules, wraps)

pub returns-in-Subtract : goal.returns-in-Subtract
unfolding wrap
returns-in-Subtract c = search (rules, wraps)

pub returns-in-Multiply : goal.returns-in-Multiply
unfolding wrap
returns-in-Multiply c = search (rules, wraps)

pub returns-in-Divide : goal.returns-in-Divide
returns-in-Divide c =
    let f : SFits w32 c.args.a = c.ranges.a in
    let g : SFits w32 c.args.b = c.ranges.b in
    search (rules, wraps_quotient c.args.a c.args.b f)
