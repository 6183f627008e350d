-- What holds of the registers and stores of every machine: the registers stay within the stores, which are not too long.
use Rattle.std.specs.Prelude.{◌≤◌, length}
use Rattle.step.specs.State.{State}

pub record Sound (s : State) : Type 0 where
  pub height : s.registers.height ≤ length s.operand
  pub top : s.registers.top ≤ length s.call
  pub free : s.registers.free ≤ length s.heap
  pub call_short : length s.call ≤ 1048576
  pub heap_short : length s.heap ≤ 1048576
