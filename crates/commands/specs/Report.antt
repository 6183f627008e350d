-- Answers for a reader.
use Rattle.std.specs.Prelude.{ℕ, ◌-◌, cond, List, [], ◌∷◌, ◌++◌, length, ℤ, vec_items, codes, decimal, ◌==◌, slice_index}
use Rattle.outcomes.specs.Numbers.{number_of_verdict, number_of_pause, number_of_refusal}
use Rattle.outcomes.specs.declared.Refusal.{Refusal}
use Rattle.object.specs.File.{Object}
use Rattle.object.specs.declared.checked.ObjectFault.{ObjectFault}
use Rattle.commands.specs.declared.answer.Report.{Report}
use Rattle.outcomes.specs.declared.Stop.{Stop}
use Rattle.outcomes.specs.declared.Stop.TheVariants.{Ended, Paused}
use Rattle.commands.specs.declared.answer.Summary.{Summary}
use Rattle.outcomes.specs.Names.{name_of_verdict, name_of_pause, words_for}
use Rattle.commands.specs.Texts.{texts}
use Rattle.commands.specs.Words.{each_behind}

-- what the header of an object says
abbrev pub summary_of : Object → Summary
summary_of o = record { code_size = length o.code; globals = o.globals; main = o.main }

abbrev pub summary_line : Summary → List ℕ
summary_line s =
    texts
    (codes "code size " ∷ decimal s.code_size
    ∷ codes ", globals " ∷ decimal s.globals
    ∷ codes ", main address " ∷ decimal s.main ∷ codes "\n" ∷ [])

-- the code offset stands behind the path
abbrev pub fault_line : List ℕ → ObjectFault → List ℕ
fault_line path f =
    texts
    (path ∷ codes ":" ∷ decimal f.offset
    ∷ codes ": refusal " ∷ decimal (number_of_refusal f.refusal) ∷ codes ": " ∷ words_for f.refusal ∷ codes "\n" ∷ [])

abbrev pub refusal_line : List ℕ → Refusal → List ℕ
refusal_line path r =
    texts (path ∷ codes ": refusal " ∷ decimal (number_of_refusal r) ∷ codes ": " ∷ words_for r ∷ codes "\n" ∷ [])

abbrev pub stop_line : Stop → List ℕ
stop_line (Ended v) = texts (codes "verdict " ∷ decimal (number_of_verdict v) ∷ codes ": " ∷ name_of_verdict v ∷ codes "\n" ∷ [])
stop_line (Paused p) = texts (codes "pause " ∷ decimal (number_of_pause p) ∷ codes ": " ∷ name_of_pause p ∷ codes "\n" ∷ [])

-- a blank in front of each value
abbrev pub globals_text : List ℤ → List ℕ
globals_text [] = codes " none"
globals_text (w ∷ ws) = each_behind (codes " ") (w ∷ ws)

abbrev pub report_lines : Report → List ℕ
report_lines r =
    texts
    (stop_line r.stop
    ∷ codes "steps: " ∷ decimal r.steps
    ∷ codes "\nwords taken: " ∷ decimal r.taken
    ∷ codes "\nbytes written: " ∷ decimal (length (vec_items r.bytes))
    ∷ codes "\nglobals:" ∷ globals_text (vec_items r.globals) ∷ codes "\n" ∷ [])

-- bytes that do not end a line have a line feed added
abbrev pub line_end : List ℕ → List ℕ
line_end bytes = cond (length bytes == 0) [] (cond (slice_index bytes (length bytes - 1) == 10) [] (codes "\n"))

-- the bytes that the program wrote, and then what its run did
abbrev pub output : Report → List ℕ
output r = (vec_items r.bytes ++ line_end (vec_items r.bytes)) ++ report_lines r
