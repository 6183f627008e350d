use Rattle.std.proofs.Common.{◌≤◌}
use Rattle.case_files.proofs.execution.Execution.drive.Given as goal

abbrev pub invariant-loop-run : goal.invariant-loop-run
invariant-loop-run g l = (l.left ≤ l.budget) × goal.F-IsAlwaysCallable g l.attend
