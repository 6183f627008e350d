use Rattle.object.proofs.OneAnswer.{one_answer}
use Rattle.object.proofs.inspect.inspection_has_one_answer.Goals as goal

pub returns : goal.returns
returns c = one_answer
