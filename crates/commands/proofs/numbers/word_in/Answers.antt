use Rattle.std.proofs.Common.{◌∙◌}
use Rattle.commands.proofs.Numerals.{reads_word}
use Rattle.commands.proofs.numbers.word_in.Goals as goal

pub returns : goal.returns
returns c = c.ok.ensures.value ∙ reads_word c.args.argument.now _ c.parse.ensures.value.0
