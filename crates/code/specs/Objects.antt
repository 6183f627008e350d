-- The object that a program is translated to, and refusals 9 to 12.
use Rattle.std.specs.Prelude.{◌≡◌, ℕ, ◌+◌, Bool, cond, List, [], ◌∷◌, length, Some, None, Ok, Err, Option, Result, nat_lt}
use Rattle.std.specs.List.{flat_map, list_any}
use Rattle.std.specs.Option.{option_or}
use Rattle.outcomes.specs.declared.Fault.{Fault}
use Rattle.outcomes.specs.declared.Position.{Position}
use Rattle.outcomes.specs.declared.Refusal.{Refusal}
use Rattle.outcomes.specs.declared.Refusal.TheVariants.{NoMain, TooManyOperands, CodeTooLong, BufferTooShort}
use Rattle.object.specs.File.{Object, file_of}
use Rattle.program.specs.Core.{Method, Program}
use Rattle.code.specs.Encoding.{encode}
use Rattle.code.specs.Patterns.{Line, entry_of, size_method, size_methods, code_method, lines_of}

abbrev pub bytes_of : List Line → List ℕ
bytes_of ls = flat_map (λ l. encode l.instruction) ls

-- the main method's first byte
abbrev pub main_entry : Program → ℕ → ℕ
main_entry p m = entry_of p.methods m

abbrev pub object_of : Program → ℕ → Object
object_of p m = record { code = bytes_of (lines_of p); globals = length p.globals; main = main_entry p m }

-- more than 32 operands are held before some instruction
abbrev pub high : List Line → Bool
high ls = list_any (λ l. nat_lt 32 l.height) ls

abbrev pub fault : Refusal → Position → Fault
fault r p = record { refusal = r; position = p }

-- the first method that holds more than 32 operands, at its name
abbrev pub too_high : (ℕ → ℕ) → List Method → ℕ → Option Fault
too_high entry [] pc = None
too_high entry (m ∷ ms) pc = cond (high (code_method entry m pc)) (Some (fault TooManyOperands m.position)) (too_high entry ms (pc + size_method m))

abbrev pub no_main : Position → Option ℕ → Option Fault
no_main end None = Some (fault NoMain end)
no_main end (Some m) = None

-- code has at most 8,192 bytes
abbrev pub too_long : Position → Program → Option Fault
too_long end p = cond (nat_lt 8192 (size_methods p.methods)) (Some (fault CodeTooLong end)) None

-- the buffer has room for 14 bytes of header and the code
abbrev pub too_short : Position → Program → ℕ → Option Fault
too_short end p buffer = cond (nat_lt buffer (14 + size_methods p.methods)) (Some (fault BufferTooShort end)) None

-- the earliest fault of the last stage: 10 at a method's name; then 9, 11 and 12 at the end of the text, in turn
abbrev pub refusal_of : Program → Position → ℕ → Option Fault
refusal_of p end buffer =
    option_or (too_high (entry_of p.methods) p.methods 0) (option_or (no_main end p.main) (option_or (too_long end p) (too_short end p buffer)))

-- the last stage's answer for a program: its object file, or the earliest fault
abbrev pub GeneratedAs : Program → Position → ℕ → Result (List ℕ) Fault → Type 0
GeneratedAs p end buffer (Ok file) = (refusal_of p end buffer ≡ None) × ((m : ℕ) → p.main ≡ Some m → file ≡ file_of (object_of p m))
GeneratedAs p end buffer (Err f) = refusal_of p end buffer ≡ Some f
