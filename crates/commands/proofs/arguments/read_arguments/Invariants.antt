use Rattle.std.proofs.Common.{◌≡◌, drop}
use Rattle.commands.specs.Arguments.{accepted_all, nothing_said, reading_of, texts_of}
use Rattle.commands.proofs.arguments.read_arguments.Given as goal

abbrev pub invariant-loop-text : goal.invariant-loop-text
invariant-loop-text l = record {
  command : l.reading.command ≡ l.initial.reading.command;
  path : l.reading.path.now ≡ l.initial.reading.path.now;
  left : accepted_all l.reading.command (texts_of l.texts) nothing_said ≡ accepted_all l.reading.command (drop l.text-index (texts_of l.texts)) (reading_of l.reading);
}
