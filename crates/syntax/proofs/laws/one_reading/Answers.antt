use Rattle.syntax.proofs.CompletePrograms.{one_reading}
use Rattle.syntax.proofs.laws.one_reading.Goals as goal

pub returns : goal.returns
returns c = one_reading
