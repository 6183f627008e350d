-- The texts that verdicts, pauses and refusals print as.
use Rattle.std.specs.Prelude.{ℕ, List, codes}
use Rattle.outcomes.specs.declared.Verdict.{Verdict}
use Rattle.outcomes.specs.declared.Verdict.TheVariants.{Finished, MissingReturn, NullReference, IndexOutOfRange, DivisionByZero, NegativeLength, HeapExhausted, CallStackExhausted, OperandStackExhausted, IllegalStep}
use Rattle.outcomes.specs.declared.Pause.{Pause}
use Rattle.outcomes.specs.declared.Pause.TheVariants.{Budget, Input, Output}
use Rattle.outcomes.specs.declared.Refusal.{Refusal}
use Rattle.outcomes.specs.declared.Refusal.TheVariants.{TextTooLong, NoToken, NumberTooLarge, UnexpectedToken, NestingTooDeep, UnfitName, ContextRule, TooManyNames, NoMain, TooManyOperands, CodeTooLong, BufferTooShort, UnfitHeader, UnfitInstruction, UnfitTarget, UnfitStore, StoreLengthChanged, NoWordWaiting, NoRoom, InputFull}

-- a verdict and a pause are called as in the code
abbrev pub name_of_verdict : Verdict → List ℕ
name_of_verdict Finished = codes "Finished"
name_of_verdict MissingReturn = codes "MissingReturn"
name_of_verdict NullReference = codes "NullReference"
name_of_verdict IndexOutOfRange = codes "IndexOutOfRange"
name_of_verdict DivisionByZero = codes "DivisionByZero"
name_of_verdict NegativeLength = codes "NegativeLength"
name_of_verdict HeapExhausted = codes "HeapExhausted"
name_of_verdict CallStackExhausted = codes "CallStackExhausted"
name_of_verdict OperandStackExhausted = codes "OperandStackExhausted"
name_of_verdict IllegalStep = codes "IllegalStep"

abbrev pub name_of_pause : Pause → List ℕ
name_of_pause Budget = codes "Budget"
name_of_pause Input = codes "Input"
name_of_pause Output = codes "Output"

-- what a reader is told of a refusal
abbrev pub words_for : Refusal → List ℕ
words_for TextTooLong = codes "the text has more than 65,536 bytes"
words_for NoToken = codes "no token begins here"
words_for NumberTooLarge = codes "the number is above 2,147,483,647"
words_for UnexpectedToken = codes "this cannot follow here"
words_for NestingTooDeep = codes "the nesting is too deep"
words_for UnfitName = codes "the name is unknown, or declared twice"
words_for ContextRule = codes "a rule about names, types or their use is broken"
words_for TooManyNames = codes "there are too many names"
words_for NoMain = codes "there is no main without parameters and result"
words_for TooManyOperands = codes "the method holds more than 32 operands at once"
words_for CodeTooLong = codes "the code has more than 8,192 bytes"
words_for BufferTooShort = codes "the buffer is too short for the object"
words_for UnfitHeader = codes "the header or the length of the file is unfit"
words_for UnfitInstruction = codes "no complete instruction stands here"
words_for UnfitTarget = codes "main, a jump or a call does not go to an instruction"
words_for UnfitStore = codes "the length of a store is unfit"
words_for StoreLengthChanged = codes "the length of a store has changed"
words_for NoWordWaiting = codes "no word waits"
words_for NoRoom = codes "there is too little room"
words_for InputFull = codes "256 words wait already"
