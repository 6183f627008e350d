-- Arguments that ask for something, or for nothing that can be understood.
use Rattle.std.specs.Prelude.{◌≡◌, ℕ, List, Ok, Err, string_bytes, Result}
use Rattle.commands.specs.declared.failure.Failure.{Failure}
use Rattle.commands.specs.declared.failure.Failure.TheVariants as failure

pub data Understood (A : Type 0) : Type 0 where
  asks : A → Understood A
  -- the first argument from the left that cannot be understood
  unclear : List ℕ → Understood A
  -- all can be understood, but one is missing
  missing : Understood A

abbrev pub and_then : {A B : Type 0} → Understood A → (A → Understood B) → Understood B
and_then (asks a) f = f a
and_then (unclear text) f = unclear text
and_then missing f = missing

-- a failure that names this argument, unless memory fails
abbrev pub Unclear : List ℕ → Failure → Type 0
Unclear text (failure.Unreadable path) = ⊥
Unclear text (failure.Unclear argument) = string_bytes argument ≡ text
Unclear text failure.NotText = ⊥
Unclear text failure.Missing = ⊥
Unclear text failure.NoMemory = Unit {0}

-- a failure for this reason, unless memory fails
abbrev pub FailsAs : {A : Type 0} → Understood A → Failure → Type 0
FailsAs u (failure.Unreadable path) = ⊥
FailsAs u (failure.Unclear argument) = u ≡ unclear (string_bytes argument)
FailsAs u failure.NotText = ⊥
FailsAs u failure.Missing = u ≡ missing
FailsAs u failure.NoMemory = Unit {0}

-- an answer that stands for what was understood
abbrev pub UnderstoodAs : {A B : Type 0} → (B → A) → Understood A → Result B Failure → Type 0
UnderstoodAs view u (Ok b) = u ≡ asks (view b)
UnderstoodAs view u (Err f) = FailsAs u f
