use Rattle.machine.proofs.Clearing.{new_arrays_cleared}
use Rattle.machine.proofs.laws.new_arrays_are_cleared.Goals as goal

pub returns : goal.returns
returns c = new_arrays_cleared
