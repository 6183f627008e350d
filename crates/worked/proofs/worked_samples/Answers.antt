use Rattle.worked.proofs.Samples.{worked_samples}
use Rattle.worked.proofs.worked_samples.Goals as goal

pub returns : goal.returns
returns c = worked_samples
