use Rattle.std.proofs.Common.{rules, tests, arith}
use Rattle.std.proofs.lemmas.Bool.Decides.{nat_tests}
use Rattle.std.proofs.lemmas.Iterator.{YieldsList-from_slice}
use Rattle.scanner.proofs.Digits.{worth_tried}
use Rattle.scanner.proofs.numbers.exceeds.Goals as goal

pub returns : goal.returns
returns c =
    let ran = c.try_fold.ensures.ran in
    let road = YieldsList-from_slice c.args.digits.now cc in
    let tried = worth_tried _ (λ p x q k. search (rules, tests)) _ _ _ _ c.try_fold.result ran.1 ran.0 (λ x k. (search (rules, tests), search (rules, tests, arith))) road ran.4 ran.5 ran.6 in
    grind (arith, nat_tests)
