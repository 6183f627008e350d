use Rattle.std.proofs.Common.{rules}
use Rattle.std.proofs.lemmas.Int.{wraps}
use Rattle.words.specs.Arithmetic.{wrap}
use Rattle.words.proofs.arithmetic.negation.Goals as goal

pub returns : goal.returns
unfolding wrap
returns c = search (rules, wraps)
