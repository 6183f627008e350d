use Rattle.std.proofs.Output.{has_written_of_eq}
use Rattle.commands.proofs.Widths.{padded_to_four}
use Rattle.commands.proofs.listing.LineDisplay.fmt.Goals as goal

pub returns-clause-writes : goal.returns-clause-writes
returns-clause-writes g c = λ plain ok.
    let offset = padded_to_four c.args.self.now.at in
    has_written_of_eq _ _ _ _ _ (rw (c.laid_out.ensures, c.mnemonic-name.ensures, offset)) (c.writeln.ensures.writes plain ok)
