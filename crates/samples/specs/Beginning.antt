-- A machine of the bytes of a file, or which refusal is handed on.
use Rattle.std.specs.Prelude.{◌≡◌, ℕ, List, Ok, Err, Result}
use Rattle.outcomes.specs.declared.Refusal.TheVariants.{UnfitStore}
use Rattle.object.specs.File.{Object, file_of}
use Rattle.object.specs.Inspection.{WellFormed, RefusedFor}
use Rattle.machine.specs.declared.machine.Machine.{Machine}
use Rattle.machine.specs.Machines.{Stores, lengths_of, Suffices, cleared, Begins}
use Rattle.samples.specs.declared.begin.Unfit.{Unfit}
use Rattle.samples.specs.declared.begin.Unfit.TheVariants.{Object as ObjectUnfit, Stores as StoresUnfit}

-- the bytes are an object's, and the machine stands at its start
pub record Begun (m : Machine) (bytes : List ℕ) (s : Stores) : Type 0 where
  pub object : Object
  pub file : bytes ≡ file_of object
  pub formed : WellFormed object
  pub fit : Suffices object.globals (lengths_of s)
  pub begins : Begins object s m

-- the bytes are an object's, and the stores do not suffice for it
pub record TooSmall (bytes : List ℕ) (s : Stores) : Type 0 where
  pub object : Object
  pub file : bytes ≡ file_of object
  pub formed : WellFormed object
  pub unfit : Suffices object.globals (lengths_of s) → ⊥

-- begin: a machine in cleared stores; or the refusal of the inspection or of the start, with nothing changed
abbrev pub BegunAs : Result Machine Unfit → List ℕ → Stores → Stores → Type 0
BegunAs (Ok m) bytes s s' = Begun m bytes s × (s' ≡ cleared s)
BegunAs (Err (ObjectUnfit fault)) bytes s s' = RefusedFor bytes fault × (s' ≡ s)
BegunAs (Err (StoresUnfit refusal)) bytes s s' = (refusal ≡ UnfitStore) × TooSmall bytes s × (s' ≡ s)
