use Rattle.words.proofs.Replaced.{replaced_alone}
use Rattle.words.proofs.laws.one_byte_is_replaced.Goals as goal

pub returns : goal.returns
returns c = replaced_alone
