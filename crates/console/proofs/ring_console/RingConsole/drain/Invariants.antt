use Rattle.std.proofs.Common.{◌≡◌, ◌+◌, ◌++◌, length, take, drop}
use Rattle.console.specs.Rings.{room, waiting, written}
use Rattle.console.proofs.ring_console.RingConsole.drain.Given as goal

abbrev pub invariant-loop-i : goal.invariant-loop-i
invariant-loop-i l = record {
  words : waiting l.self ≡ waiting l.initial.self;
  count : l.i + length (written l.self) ≡ length (written l.initial.self);
  free : room l.self ≡ room l.initial.self + l.i;
  left : written l.self ≡ drop l.i (written l.initial.self);
  moved : l.out ≡ take l.i (written l.initial.self) ++ drop l.i l.initial.out;
}
