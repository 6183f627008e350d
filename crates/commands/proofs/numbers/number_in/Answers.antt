use Rattle.std.proofs.Common.{◌∙◌}
use Rattle.commands.proofs.Numerals.{reads_number}
use Rattle.commands.proofs.numbers.number_in.Goals as goal

pub returns : goal.returns
returns c = c.ok.ensures.value ∙ reads_number c.args.argument.now _ c.parse.ensures.value.0
