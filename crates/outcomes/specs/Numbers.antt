-- The numbers of verdicts, pauses, stages and refusals, and the stage of each refusal of a text.
use Rattle.std.specs.Prelude.{ℕ, Some, None, Option}
use Rattle.outcomes.specs.declared.Verdict.{Verdict}
use Rattle.outcomes.specs.declared.Verdict.TheVariants.{Finished, MissingReturn, NullReference, IndexOutOfRange, DivisionByZero, NegativeLength, HeapExhausted, CallStackExhausted, OperandStackExhausted, IllegalStep}
use Rattle.outcomes.specs.declared.Pause.{Pause}
use Rattle.outcomes.specs.declared.Pause.TheVariants.{Budget, Input, Output}
use Rattle.outcomes.specs.declared.Stage.{Stage}
use Rattle.outcomes.specs.declared.Stage.TheVariants.{Scan, Parse, Resolve, Generate}
use Rattle.outcomes.specs.declared.Refusal.{Refusal}
use Rattle.outcomes.specs.declared.Refusal.TheVariants.{TextTooLong, NoToken, NumberTooLarge, UnexpectedToken, NestingTooDeep, UnfitName, ContextRule, TooManyNames, NoMain, TooManyOperands, CodeTooLong, BufferTooShort, UnfitHeader, UnfitInstruction, UnfitTarget, UnfitStore, StoreLengthChanged, NoWordWaiting, NoRoom, InputFull}

-- how a program ends
abbrev pub number_of_verdict : Verdict → ℕ
number_of_verdict Finished = 0
number_of_verdict MissingReturn = 1
number_of_verdict NullReference = 2
number_of_verdict IndexOutOfRange = 3
number_of_verdict DivisionByZero = 4
number_of_verdict NegativeLength = 5
number_of_verdict HeapExhausted = 6
number_of_verdict CallStackExhausted = 7
number_of_verdict OperandStackExhausted = 8
number_of_verdict IllegalStep = 9

-- why a run stops early
abbrev pub number_of_pause : Pause → ℕ
number_of_pause Budget = 1
number_of_pause Input = 2
number_of_pause Output = 3

-- the stages of the translator, in their order
abbrev pub number_of_stage : Stage → ℕ
number_of_stage Scan = 1
number_of_stage Parse = 2
number_of_stage Resolve = 3
number_of_stage Generate = 4

-- 1 to 12 refuse a text, 13 to 15 an object file, 16 the stores of a start, 17 those of a run, 18 to 20 a call of a console
abbrev pub number_of_refusal : Refusal → ℕ
number_of_refusal TextTooLong = 1
number_of_refusal NoToken = 2
number_of_refusal NumberTooLarge = 3
number_of_refusal UnexpectedToken = 4
number_of_refusal NestingTooDeep = 5
number_of_refusal UnfitName = 6
number_of_refusal ContextRule = 7
number_of_refusal TooManyNames = 8
number_of_refusal NoMain = 9
number_of_refusal TooManyOperands = 10
number_of_refusal CodeTooLong = 11
number_of_refusal BufferTooShort = 12
number_of_refusal UnfitHeader = 13
number_of_refusal UnfitInstruction = 14
number_of_refusal UnfitTarget = 15
number_of_refusal UnfitStore = 16
number_of_refusal StoreLengthChanged = 17
number_of_refusal NoWordWaiting = 18
number_of_refusal NoRoom = 19
number_of_refusal InputFull = 20

-- the stage that refuses a text
abbrev pub stage_of : Refusal → Option Stage
stage_of TextTooLong = Some Scan
stage_of NoToken = Some Scan
stage_of NumberTooLarge = Some Scan
stage_of UnexpectedToken = Some Parse
stage_of NestingTooDeep = Some Parse
stage_of UnfitName = Some Resolve
stage_of ContextRule = Some Resolve
stage_of TooManyNames = Some Resolve
stage_of NoMain = Some Generate
stage_of TooManyOperands = Some Generate
stage_of CodeTooLong = Some Generate
stage_of BufferTooShort = Some Generate
stage_of UnfitHeader = None
stage_of UnfitInstruction = None
stage_of UnfitTarget = None
stage_of UnfitStore = None
stage_of StoreLengthChanged = None
stage_of NoWordWaiting = None
stage_of NoRoom = None
stage_of InputFull = None
