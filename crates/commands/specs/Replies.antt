-- What a command prints, and where.
use Rattle.std.specs.Prelude.{ℕ, Bool, true, false, List, vec_items}
use Rattle.commands.specs.declared.answer.Answer.{Answer}
use Rattle.commands.specs.declared.answer.Answer.TheVariants.{Accepted, FileRefused, StartRefused, Ran}
use Rattle.commands.specs.declared.reply.Reply.{Reply}
use Rattle.commands.specs.declared.reply.Reply.TheVariants.{Answered, Refused}
use Rattle.commands.specs.Json.{json_of}
use Rattle.commands.specs.Report.{summary_line, fault_line, refusal_line, output}

pub data Printed : Type 0 where
  -- to the standard output, with status 0
  answered : List ℕ → Printed
  -- to the standard error output, with status 1
  refused : List ℕ → Printed

abbrev pub printed_by : Reply → Printed
printed_by (Answered bytes) = answered (vec_items bytes)
printed_by (Refused bytes) = refused (vec_items bytes)

-- JSON is always an answer; for a reader a refusal is none
abbrev pub reply_to : List ℕ → Bool → Answer → Printed
reply_to path true a = answered (json_of a)
reply_to path false (Accepted s) = answered (summary_line s)
reply_to path false (FileRefused f) = refused (fault_line path f)
reply_to path false (StartRefused r) = refused (refusal_line path r)
reply_to path false (Ran r) = answered (output r)
