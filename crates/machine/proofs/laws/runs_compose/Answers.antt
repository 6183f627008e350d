use Rattle.machine.proofs.Composing.{runs_compose}
use Rattle.machine.proofs.laws.runs_compose.Goals as goal

pub returns : goal.returns
returns c = runs_compose
