use Rattle.meaning.proofs.Traces.{one_trace}
use Rattle.meaning.proofs.laws.every_program_has_one_trace.Goals as goal

pub returns : goal.returns
returns c = one_trace
