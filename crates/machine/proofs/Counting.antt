-- The counting loop, worked out.
use Rattle.std.proofs.Common.{refl}
use Rattle.std.specs.Fmt.{digits}
use Rattle.std.specs.Int.{int_wrap}
use Rattle.words.specs.Arithmetic.{wrap}
use Rattle.words.specs.Printing.{printed_as}
use Rattle.step.specs.Perform.{step}
use Rattle.machine.specs.Runs.{after}
use Rattle.machine.specs.Laws.{CountingLoopCounts}

pub counts_down : CountingLoopCounts
unfolding after step wrap int_wrap printed_as digits
counts_down = record { steps = refl; written = refl; room = refl; verdict = refl }
