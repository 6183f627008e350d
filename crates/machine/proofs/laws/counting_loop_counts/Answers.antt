use Rattle.machine.proofs.Counting.{counts_down}
use Rattle.machine.proofs.laws.counting_loop_counts.Goals as goal

pub returns : goal.returns
returns c = counts_down
