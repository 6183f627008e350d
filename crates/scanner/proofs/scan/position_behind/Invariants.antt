use Rattle.std.proofs.Common.{◌≡◌, ◌-◌, length, drop}
use Rattle.syntax.specs.Tokens.{behind}
use Rattle.scanner.specs.Steps.{Room}
use Rattle.scanner.proofs.scan.position_behind.Given as goal

-- the bytes to come lead from the place reached to the end
abbrev pub invariant-loop-byte : goal.invariant-loop-byte
invariant-loop-byte l = record {
  leads : behind l.at (drop l.byte-index l.bytes) ≡ behind l.fn.position l.bytes;
  room : Room l.at (length l.bytes - l.byte-index);
}
