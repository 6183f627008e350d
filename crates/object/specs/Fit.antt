-- Which bytes have a fit header, and which objects are fit.
use Rattle.std.specs.Prelude.{◌≡◌, List, ℕ, length, None}
use Rattle.object.specs.File.{Object, file_of, Limits}
use Rattle.object.specs.Code.{Boundary}
use Rattle.object.specs.Targets.{UnfitTargetAt, Lowest}

-- the bytes begin with a header within its limits, and the code is as long as it says
pub record Headed (bytes : List ℕ) (o : Object) : Type 0 where
  pub file : bytes ≡ file_of o
  pub limits : Limits o

-- an object whose code is whole instructions, and whose jumps, calls and main address all lead to one
pub record WellFormed (o : Object) : Type 0 where
  pub limits : Limits o
  pub whole : Boundary o.code (length o.code)
  pub targets : Lowest (UnfitTargetAt o.code o.main) None
