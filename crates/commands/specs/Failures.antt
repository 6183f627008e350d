-- What is printed where a command gives no answer.
use Rattle.std.specs.Prelude.{ℕ, List, ◌++◌, string_bytes, codes}
use Rattle.commands.specs.declared.failure.Failure.{Failure}
use Rattle.commands.specs.declared.failure.Failure.TheVariants.{Unreadable, Unclear, NotText, Missing, NoMemory}

-- the commands that there are
abbrev pub usage : List ℕ
usage =
    codes "jelpuma\n"
    ++ codes "jelpuma check OBJECT [--json]\n"
    ++ codes "jelpuma list OBJECT\n"
    ++ codes "jelpuma run OBJECT [WORD..] [--budget N] [--heap N] [--call N] [--operand N] [--room N] [--json]\n"

-- a line that says what is wrong; where the arguments are, the usage too
abbrev pub failure_text : Failure → List ℕ
failure_text (Unreadable path) = codes "jelpuma: cannot read " ++ (string_bytes path ++ codes "\n")
failure_text (Unclear argument) = codes "jelpuma: cannot understand " ++ (string_bytes argument ++ (codes "\n" ++ usage))
failure_text NotText = codes "jelpuma: an argument is no UTF-8 text\n" ++ usage
failure_text Missing = codes "jelpuma: an argument is missing\n" ++ usage
failure_text NoMemory = codes "jelpuma: not enough memory\n"
