-- Where jumps, calls and the main address lead.
use Rattle.std.specs.Prelude.{◌≡◌, ℕ, ◌<◌, ◌⊎◌, List, drop, ℤ, pos, ◌+ℤ◌, Some, None, Option}
use Rattle.instructions.specs.declared.Decoded.{Decoded}
use Rattle.instructions.specs.declared.Instruction.{Instruction}
use Rattle.instructions.specs.declared.Instruction.TheVariants.{Load, Store, GetStatic, PutStatic, Const, Binary, Negate, Increment, NewArray, ArrayLoad, ArrayStore, ArrayLength, Pop, Dup, Dup2, Jump, JumpIf, Call, Return, Enter, Exit, Read, Print, Trap}
use Rattle.instructions.specs.Decode.{decoded}
use Rattle.object.specs.Code.{Begins}

-- the distance that a jump or call leads, from its own first byte
abbrev pub distance_of : Instruction → Option ℤ
distance_of (Load n) = None
distance_of (Store n) = None
distance_of (GetStatic n) = None
distance_of (PutStatic n) = None
distance_of (Const w) = None
distance_of (Binary o) = None
distance_of Negate = None
distance_of (Increment n by) = None
distance_of (NewArray k) = None
distance_of (ArrayLoad k) = None
distance_of (ArrayStore k) = None
distance_of ArrayLength = None
distance_of Pop = None
distance_of Dup = None
distance_of Dup2 = None
distance_of (Jump by) = Some by
distance_of (JumpIf r by) = Some by
distance_of (Call by) = Some by
distance_of Return = None
distance_of (Enter parameters locals) = None
distance_of Exit = None
distance_of (Read k) = None
distance_of (Print k) = None
distance_of (Trap n) = None

-- an integer is the offset of an instruction
pub record Lands (code : List ℕ) (z : ℤ) : Type 0 where
  pub offset : ℕ
  pub is : z ≡ pos offset
  pub begins : Begins code offset

-- a jump or call that begins here does not lead to an instruction
pub record Strays (code : List ℕ) (at : ℕ) : Type 0 where
  pub begins : Begins code at
  pub what : Decoded
  pub reads : decoded (drop at code) ≡ Some what
  pub by : ℤ
  pub leads : distance_of what.instruction ≡ Some by
  pub nowhere : Lands code (pos at +ℤ by) → ⊥

-- an offset to blame: that of a jump or call that strays, or the main address where no instruction begins there
abbrev pub UnfitTargetAt : List ℕ → ℕ → ℕ → Type 0
UnfitTargetAt code main at = Strays code at ⊎ ((at ≡ main) × (Begins code at → ⊥))

-- the lowest number of which P holds, if it holds of any
abbrev pub Lowest : (ℕ → Type 0) → Option ℕ → Type 0
Lowest P (Some at) = P at × ((k : ℕ) → k < at → P k → ⊥)
Lowest P None = (k : ℕ) → P k → ⊥
