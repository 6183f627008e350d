-- Stores, and machines between runs: how one begins.
use Rattle.std.specs.Prelude.{◌≡◌, ℕ, ◌≤◌, List, length, replicate, ℤ, pos, negsuc, slice_set}
use Rattle.object.specs.File.{Object}
use Rattle.step.specs.declared.registers.Registers.{Registers}
use Rattle.step.specs.Loans.{SameStore}
use Rattle.step.specs.State.{State, state}
use Rattle.step.specs.declared.interpreter.Stores.{Stores as Lent}
use Rattle.machine.specs.declared.lengths.Lengths.{Lengths}
use Rattle.machine.specs.declared.machine.Machine.{Machine}

-- four stores
pub record Stores : Type 0 where
  pub datas : List ℤ
  pub heap : List ℤ
  pub call : List ℤ
  pub operand : List ℤ

abbrev pub stores : List ℤ → List ℤ → List ℤ → List ℤ → Stores
stores d h c p = record { datas = d; heap = h; call = c; operand = p }

-- what lent stores hold
abbrev pub contents : Lent → Stores
contents l = stores l.«data».now l.heap.now l.call.now l.operand.now

-- the stores are the ones that were lent
pub record SameStores (l m : Lent) : Type 0 where
  pub datas : SameStore l.«data» m.«data»
  pub heap : SameStore l.heap m.heap
  pub call : SameStore l.call m.call
  pub operand : SameStore l.operand m.operand

abbrev pub lengths_of : Stores → Lengths
lengths_of s = record { «data» = length s.datas; heap = length s.heap; call = length s.call; operand = length s.operand }

-- the lengths that a start accepts: room for the globals, a heap and a call store, 32 operands, and no store above 1,048,576 words
pub record Suffices (globals : ℕ) (n : Lengths) : Type 0 where
  pub data_enough : globals ≤ n.«data»
  pub data_short : n.«data» ≤ 1048576
  pub heap_some : 1 ≤ n.heap
  pub heap_short : n.heap ≤ 1048576
  pub call_some : 1 ≤ n.call
  pub call_short : n.call ≤ 1048576
  pub operand_enough : 32 ≤ n.operand
  pub operand_short : n.operand ≤ 1048576

-- the stores at the start: all 0, but for the return address −1 in the call store's first word
abbrev pub cleared : Stores → Stores
cleared s = stores (replicate (length s.datas) (pos 0)) (replicate (length s.heap) (pos 0)) (slice_set (replicate (length s.call) (pos 0)) 0 (negsuc 0)) (replicate (length s.operand) (pos 0))

-- the state of a machine in its stores
abbrev pub state_with : Registers → Stores → State
state_with r s = state r s.datas s.heap s.call s.operand

abbrev pub state_in : Machine → Stores → State
state_in m s = state_with m.registers s

-- a machine as it begins: at the main address, no frame, the return address on the call stack, no operand, heap word 1 the next free one
pub record Begins (o : Object) (s : Stores) (m : Machine) : Type 0 where
  pub code : m.code.now ≡ o.code
  pub pc : m.registers.pc ≡ pos o.main
  pub frame : m.registers.frame ≡ pos 0
  pub top : m.registers.top ≡ 1
  pub height : m.registers.height ≡ 0
  pub free : m.registers.free ≡ 1
  pub lengths : m.lengths ≡ lengths_of s
