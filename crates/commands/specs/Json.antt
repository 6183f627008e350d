-- Answers as JSON: one object on a line, keys in alphabetical order, no blanks.
use Rattle.std.specs.Prelude.{ℕ, List, [], ◌∷◌, ◌++◌, vec_items, codes, decimal}
use Rattle.outcomes.specs.Numbers.{number_of_verdict, number_of_refusal}
use Rattle.commands.specs.declared.answer.Answer.{Answer}
use Rattle.commands.specs.declared.answer.Answer.TheVariants.{Accepted, FileRefused, StartRefused, Ran}
use Rattle.commands.specs.declared.answer.Report.{Report}
use Rattle.outcomes.specs.declared.Pause.{Pause}
use Rattle.outcomes.specs.declared.Pause.TheVariants.{Budget, Input, Output}
use Rattle.outcomes.specs.declared.Stop.{Stop}
use Rattle.outcomes.specs.declared.Stop.TheVariants.{Ended, Paused}
use Rattle.commands.specs.Texts.{texts}
use Rattle.commands.specs.Words.{listed, hex_of}

-- a letter stands for a pause
abbrev pub letter_of : Pause → List ℕ
letter_of Budget = codes "A"
letter_of Input = codes "B"
letter_of Output = codes "C"

-- the value of the key `stop`
abbrev pub stop_name : Stop → List ℕ
stop_name (Ended v) = codes "verdict"
stop_name (Paused p) = letter_of p

-- the key `verdict` is there only where the program ended
abbrev pub verdict_key : Stop → List ℕ
verdict_key (Ended v) = codes ",\"verdict\":" ++ decimal (number_of_verdict v)
verdict_key (Paused p) = []

abbrev pub report_json : Report → List ℕ
report_json r =
    texts
    (codes "{\"bytes\":\"" ∷ hex_of (vec_items r.bytes)
    ∷ codes "\",\"globals\":[" ∷ listed (vec_items r.globals)
    ∷ codes "],\"ok\":true,\"steps\":" ∷ decimal r.steps
    ∷ codes ",\"stop\":\"" ∷ stop_name r.stop
    ∷ codes "\",\"taken\":" ∷ decimal r.taken ∷ verdict_key r.stop ∷ codes "}\n" ∷ [])

abbrev pub json_of : Answer → List ℕ
json_of (Accepted s) =
    texts
    (codes "{\"codesize\":" ∷ decimal s.code_size
    ∷ codes ",\"globals\":" ∷ decimal s.globals
    ∷ codes ",\"mainpc\":" ∷ decimal s.main ∷ codes ",\"ok\":true}\n" ∷ [])
json_of (FileRefused f) =
    texts
    (codes "{\"at\":" ∷ decimal f.offset
    ∷ codes ",\"number\":" ∷ decimal (number_of_refusal f.refusal) ∷ codes ",\"ok\":false}\n" ∷ [])
json_of (StartRefused r) = texts (codes "{\"number\":" ∷ decimal (number_of_refusal r) ∷ codes ",\"ok\":false}\n" ∷ [])
json_of (Ran r) = report_json r
