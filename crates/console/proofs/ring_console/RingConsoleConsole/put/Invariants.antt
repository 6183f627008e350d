use Rattle.std.proofs.Common.{◌≡◌, ◌++◌, take}
use Rattle.console.specs.Rings.{waiting, written}
use Rattle.console.proofs.ring_console.RingConsoleConsole.put.Given as goal

abbrev pub invariant-loop-byte : goal.invariant-loop-byte
invariant-loop-byte l =
    (waiting l.self ≡ waiting l.initial.self) ×
    (written l.self ≡ written l.initial.self ++ take l.byte-index l.bytes)
