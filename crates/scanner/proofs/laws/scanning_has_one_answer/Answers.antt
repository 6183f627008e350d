use Rattle.syntax.proofs.OneAnswer.{one_answer}
use Rattle.syntax.proofs.Scanned.{answer, answer_is}
use Rattle.scanner.proofs.laws.scanning_has_one_answer.Goals as goal

pub returns : goal.returns
returns c = record { some = λ text. (answer text, answer_is text); one = one_answer }
