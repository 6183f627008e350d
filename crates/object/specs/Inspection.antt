-- Which files are object files, and which refusal any other file gets, and where.
use Rattle.std.specs.Prelude.{◌≡◌, ℕ, List, length, Some, Ok, Err, Result}
use Rattle.outcomes.specs.declared.Refusal.TheVariants.{UnfitHeader, UnfitInstruction, UnfitTarget}
use Rattle.object.specs.declared.checked.ObjectFault.{ObjectFault}
use Rattle.object.specs.declared.header.Header.{Header}
use Rattle.object.specs.File.{Object, file_of}
pub use Rattle.object.specs.Fit.{Headed, WellFormed}
use Rattle.object.specs.Code.{Boundary, Unreadable}
use Rattle.object.specs.Targets.{UnfitTargetAt, Lowest}

-- the refusals, in turn: the header; else the first unreadable instruction; else the lowest offset with an unfit target
pub data RefusedFor (bytes : List ℕ) : ObjectFault → Type 0 where
  header : ((o : Object) → Headed bytes o → ⊥) → RefusedFor bytes (record { refusal = UnfitHeader; offset = 0 })
  instruction : (o : Object) (at : ℕ) → Headed bytes o → Unreadable o.code at → RefusedFor bytes (record { refusal = UnfitInstruction; offset = at })
  target : (o : Object) (at : ℕ) → Headed bytes o → Boundary o.code (length o.code) → Lowest (UnfitTargetAt o.code o.main) (Some at) → RefusedFor bytes (record { refusal = UnfitTarget; offset = at })

-- the answer of reading a header
abbrev pub HeaderRead : List ℕ → Result Header ObjectFault → Type 0
HeaderRead bytes (Ok h) = Headed bytes (record { code = h.code.now; globals = h.globals; main = h.main })
HeaderRead bytes (Err f) = RefusedFor bytes f

-- what an inspection of these bytes finds: the object that they are a file of, or a refusal
abbrev pub FoundIn : List ℕ → Result Object ObjectFault → Type 0
FoundIn bytes (Ok o) = (bytes ≡ file_of o) × WellFormed o
FoundIn bytes (Err f) = RefusedFor bytes f

-- no bytes have two answers
abbrev pub InspectionHasOneAnswer : Type 0
InspectionHasOneAnswer = (bytes : List ℕ) (r s : Result Object ObjectFault) → FoundIn bytes r → FoundIn bytes s → r ≡ s
