-- Where instructions begin: they are laid end to end from offset 0.
use Rattle.std.specs.Prelude.{◌≡◌, ℕ, zero, suc, ◌+◌, ◌<◌, List, length, drop, Some, None, Option}
use Rattle.instructions.specs.declared.Decoded.{Decoded}
use Rattle.instructions.specs.Decode.{decoded}

-- the offset behind an instruction
abbrev pub end_of : ℕ → Option Decoded → Option ℕ
end_of at None = None
end_of at (Some d) = Some (at + d.size)

abbrev pub behind_next : List ℕ → Option ℕ → Option ℕ
behind_next code None = None
behind_next code (Some at) = end_of at (decoded (drop at code))

-- the offset behind the first n instructions, if there are so many
unfoldable pub behind : ℕ → List ℕ → Option ℕ
behind zero code = Some 0
behind (suc n) code = behind_next code (behind n code)

-- an offset where an instruction begins or the code ends
pub record Boundary (code : List ℕ) (at : ℕ) : Type 0 where
  pub count : ℕ
  pub reached : behind count code ≡ Some at

-- an instruction begins here, and should be readable
pub record Begins (code : List ℕ) (at : ℕ) : Type 0 where
  pub boundary : Boundary code at
  pub inside : at < length code

-- an instruction should begin here, and none does: an unknown opcode, a missing operand, a new array of another kind,
-- or an `enter` with more parameters than locals
pub record Unreadable (code : List ℕ) (at : ℕ) : Type 0 where
  pub begins : Begins code at
  pub none : decoded (drop at code) ≡ None
