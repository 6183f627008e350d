-- Code as text, a line for each instruction.
use Rattle.std.specs.Prelude.{ℕ, zero, suc, ◌+◌, cond, List, [], ◌∷◌, ◌++◌, length, drop, ℤ, pos, ◌+ℤ◌, Some, None, codes, decimal, Option, ◌==◌, slice_index}
use Rattle.std.specs.Fmt.{signed_decimal}
use Rattle.words.specs.Printing.{padded}
use Rattle.words.specs.declared.printing.Kind.TheVariants.{Int, Char}
use Rattle.instructions.specs.Decode.{decoded}
use Rattle.instructions.specs.declared.Decoded.{Decoded}
use Rattle.instructions.specs.declared.Instruction.{Instruction}
use Rattle.instructions.specs.declared.Instruction.TheVariants.{Load, Store, GetStatic, PutStatic, Const, Binary, Negate, Increment, NewArray, ArrayLoad, ArrayStore, ArrayLength, Pop, Dup, Dup2, Jump, JumpIf, Call, Return, Enter, Exit, Read, Print, Trap}
use Rattle.commands.specs.declared.answer.Summary.{Summary}
use Rattle.commands.specs.Mnemonics.{mnemonic_of}
use Rattle.commands.specs.Report.{summary_line}
use Rattle.commands.specs.Texts.{texts}

-- blanks in front, up to four columns
abbrev pub offset_text : ℕ → List ℕ
offset_text at = padded 4 (decimal at)

abbrev pub one : List ℕ → List ℕ
one operand = texts (codes " " ∷ operand ∷ [])

abbrev pub two : List ℕ → List ℕ → List ℕ
two first second = texts (codes " " ∷ first ∷ codes " " ∷ second ∷ [])

-- a jump or call has its distance, and then the offset of its target
abbrev pub distance : ℕ → ℤ → List ℕ
distance at by = texts (codes " " ∷ signed_decimal by ∷ codes " -> " ∷ signed_decimal (pos at +ℤ by) ∷ [])

-- the operands of an instruction in its long form
abbrev pub operands_of : ℕ → Instruction → List ℕ
operands_of at (Load n) = one (decimal n)
operands_of at (Store n) = one (decimal n)
operands_of at (GetStatic n) = one (decimal n)
operands_of at (PutStatic n) = one (decimal n)
operands_of at (Const w) = one (signed_decimal w)
operands_of at (Binary o) = []
operands_of at Negate = []
operands_of at (Increment n by) = two (decimal n) (signed_decimal by)
operands_of at (NewArray Char) = codes " 0"
operands_of at (NewArray Int) = codes " 1"
operands_of at (ArrayLoad k) = []
operands_of at (ArrayStore k) = []
operands_of at ArrayLength = []
operands_of at Pop = []
operands_of at Dup = []
operands_of at Dup2 = []
operands_of at (Jump by) = distance at by
operands_of at (JumpIf r by) = distance at by
operands_of at (Call by) = distance at by
operands_of at Return = []
operands_of at (Enter parameters locals) = two (decimal parameters) (decimal locals)
operands_of at Exit = []
operands_of at (Read k) = []
operands_of at (Print k) = []
operands_of at (Trap n) = one (decimal n)

-- a form of one byte has its operand in its name
abbrev pub operands_text : ℕ → Decoded → List ℕ
operands_text at d = cond (d.size == 1) [] (operands_of at d.instruction)

abbrev pub line_of : ℕ → ℕ → Decoded → List ℕ
line_of at opcode d = texts (offset_text at ∷ codes "  " ∷ mnemonic_of opcode ∷ operands_text at d ∷ codes "\n" ∷ [])

-- nothing where no complete instruction stands
abbrev pub line_then : ℕ → List ℕ → Option Decoded → (Decoded → List ℕ) → List ℕ
line_then at code None more = []
line_then at code (Some d) more = line_of at (slice_index code at) d ++ more d

-- at most n instructions, the first of which stands at an offset
unfoldable pub lines : ℕ → ℕ → List ℕ → List ℕ
lines zero at code = []
lines (suc n) at code = line_then at code (decoded (drop at code)) (λ d. lines n (at + d.size) code)

-- no code has more instructions than bytes
abbrev pub lines_of : List ℕ → List ℕ
lines_of code = lines (length code) 0 code

-- the line of `check`, and then the instructions
abbrev pub listing_of : Summary → List ℕ → List ℕ
listing_of s code = summary_line s ++ lines_of code
