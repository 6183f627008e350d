-- What a command line asks for.
use Rattle.std.specs.Prelude.{ℕ, Bool, true, false, cond, List, [], ◌∷◌, ◌++◌, map, ℤ, Some, None, vec_items, string_bytes, codes, Option}
use Rattle.std.specs.Borrow.{Bor}
use Rattle.std.specs.Option.{option_map}
use Rattle.std.specs.Str.{bytes_eq}
use Rattle.commands.specs.declared.arguments.Argument.{Argument}
use Rattle.commands.specs.declared.arguments.Argument.TheVariants as argument
use Rattle.commands.specs.declared.arguments.Command.{Command}
use Rattle.commands.specs.declared.arguments.Command.TheVariants as command
use Rattle.commands.specs.declared.arguments.Reading.{Reading}
use Rattle.commands.specs.declared.arguments.Setting.{Setting}
use Rattle.commands.specs.declared.arguments.Setting.TheVariants as setting
use Rattle.commands.specs.declared.request.Options.{Options}
use Rattle.commands.specs.declared.request.Request.{Request}
use Rattle.commands.specs.declared.request.Request.TheVariants as request
use Rattle.commands.specs.Numbers.{number_in, word_in}
use Rattle.commands.specs.Understood.{Understood, asks, unclear, missing, and_then}

-- a request, by what its text and words are
pub data Asked : Type 0 where
  sample : Asked
  check : (path : List ℕ) (json : Bool) → Asked
  list : (path : List ℕ) → Asked
  run : (path : List ℕ) (words : List ℤ) (options : Options) (json : Bool) → Asked

abbrev pub asked_of : Request → Asked
asked_of request.Sample = sample
asked_of (request.Check path json) = check (string_bytes path) json
asked_of (request.List path) = list (string_bytes path)
asked_of (request.Run path words options json) = run (string_bytes path) (vec_items words) options json

-- what the arguments behind the path have said so far
pub record Said : Type 0 where
  pub words : List ℤ
  pub options : Options
  pub json : Bool
  -- an option whose number must come next
  pub awaited : Option Setting

abbrev pub reading_of : Reading → Said
reading_of r = record { words = vec_items r.words; options = r.options; json = r.json; awaited = r.awaited }

abbrev pub texts_of : List (Bor (List ℕ)) → List (List ℕ)
texts_of texts = map (λ x. x.now) texts

-- where no option is given
abbrev pub defaults : Options
defaults = record { budget = 1000000; heap = 4096; call = 4096; operand = 1024; room = 1000000 }

abbrev pub nothing_said : Said
nothing_said = record { words = []; options = defaults; json = false; awaited = None }

-- the first entry of a table that has this name
abbrev pub named : {A : Type 0} → List (List ℕ × A) → List ℕ → Option A
named [] text = None
named (entry ∷ entries) text = cond (bytes_eq text entry.0) (Some entry.1) (named entries text)

abbrev pub command_named : List ℕ → Option Command
command_named = named ((codes "check", command.Check) ∷ (codes "list", command.List) ∷ (codes "run", command.Run) ∷ [])

abbrev pub or_word : Option Argument → Option ℤ → Option Argument
or_word (Some a) w = Some a
or_word None w = option_map argument.Word w

abbrev pub option_named : List ℕ → Option Argument
option_named =
    named
    ((codes "--json", argument.Json)
    ∷ (codes "--budget", argument.Setting setting.Budget)
    ∷ (codes "--heap", argument.Setting setting.Heap)
    ∷ (codes "--call", argument.Setting setting.Call)
    ∷ (codes "--operand", argument.Setting setting.Operand)
    ∷ (codes "--room", argument.Setting setting.Room) ∷ [])

-- an option by its name, else a word
abbrev pub argument_in : List ℕ → Option Argument
argument_in text = or_word (option_named text) (word_in text)

-- `run` takes every argument, `check` takes `--json`, and `list` takes none
abbrev pub takes : Command → Argument → Bool
takes command.Run a = true
takes command.Check argument.Json = true
takes command.Check (argument.Setting s) = false
takes command.Check (argument.Word w) = false
takes command.List a = false

abbrev pub set : Setting → ℕ → Options → Options
set setting.Budget n o = record { budget = n; heap = o.heap; call = o.call; operand = o.operand; room = o.room }
set setting.Heap n o = record { budget = o.budget; heap = n; call = o.call; operand = o.operand; room = o.room }
set setting.Call n o = record { budget = o.budget; heap = o.heap; call = n; operand = o.operand; room = o.room }
set setting.Operand n o = record { budget = o.budget; heap = o.heap; call = o.call; operand = n; room = o.room }
set setting.Room n o = record { budget = o.budget; heap = o.heap; call = o.call; operand = o.operand; room = n }

-- words are kept in their order
abbrev pub added : Argument → Said → Said
added argument.Json s = record { words = s.words; options = s.options; json = true; awaited = s.awaited }
added (argument.Setting o) s = record { words = s.words; options = s.options; json = s.json; awaited = Some o }
added (argument.Word w) s = record { words = s.words ++ w ∷ []; options = s.options; json = s.json; awaited = s.awaited }

-- the option's value is the number that came, whatever was given before
abbrev pub settled : Setting → ℕ → Said → Said
settled o n s = record { words = s.words; options = set o n s.options; json = s.json; awaited = None }

abbrev pub or_unclear : List ℕ → Option Said → Understood Said
or_unclear text None = unclear text
or_unclear text (Some s) = asks s

abbrev pub added_if : Command → Option Argument → Said → Option Said
added_if c None s = None
added_if c (Some a) s = cond (takes c a) (Some (added a s)) None

-- behind an option that has a number stands its number
abbrev pub accepted_behind : Option Setting → Command → List ℕ → Said → Option Said
accepted_behind (Some o) c text s = option_map (λ n. settled o n s) (number_in text)
accepted_behind None c text s = added_if c (argument_in text) s

abbrev pub accepted : Command → List ℕ → Said → Understood Said
accepted c text s = or_unclear text (accepted_behind s.awaited c text s)

abbrev pub accepted_all : Command → List (List ℕ) → Said → Understood Said
accepted_all c [] s = asks s
accepted_all c (text ∷ texts) s = and_then (accepted c text s) (λ t. accepted_all c texts t)

abbrev pub requested : Command → List ℕ → Said → Asked
requested command.Check path s = check path s.json
requested command.List path s = list path
requested command.Run path s = run path s.words s.options s.json

abbrev pub none_awaited : Option Setting → Asked → Understood Asked
none_awaited (Some o) a = missing
none_awaited None a = asks a

-- the number of an option must not be missing at the end
abbrev pub finished : Command → List ℕ → Said → Understood Asked
finished c path s = none_awaited s.awaited (requested c path s)

abbrev pub understood_behind : Command → List ℕ → List (List ℕ) → Understood Asked
understood_behind c path texts = and_then (accepted_all c texts nothing_said) (finished c path)

-- the path must not be missing
abbrev pub understood_at : List (List ℕ) → Command → Understood Asked
understood_at [] c = missing
understood_at (path ∷ texts) c = understood_behind c path texts

abbrev pub or_unknown : List ℕ → Option Command → (Command → Understood Asked) → Understood Asked
or_unknown name None f = unclear name
or_unknown name (Some c) f = f c

-- no arguments: the sample; else a command, the path of a file, and what the command takes
abbrev pub understood : List (List ℕ) → Understood Asked
understood [] = asks sample
understood (name ∷ texts) = or_unknown name (command_named name) (understood_at texts)
