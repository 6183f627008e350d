use Rattle.code.proofs.Sizes.{code_has_its_size}
use Rattle.code.proofs.laws.code_has_its_size.Goals as goal

pub returns : goal.returns
returns c = code_has_its_size
