use Rattle.std.proofs.Common.{◌-◌, length, string_bytes}
use Rattle.commands.proofs.Lines.{Left}
use Rattle.commands.proofs.listing.listing.Given as goal

abbrev pub invariant-loop-found : goal.invariant-loop-found
invariant-loop-found l = Left l.fn.summary l.code (string_bytes l.text) l.at

abbrev pub decreases-loop-found : goal.decreases-loop-found
decreases-loop-found l = length l.code - l.at
