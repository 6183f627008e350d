-- The inspection's marks: a flag for each offset that a code may have.
use Rattle.std.specs.Prelude.{◌≡◌, ℕ, Bool, false, List, length, Ok, Err, Decides, Result, slice_index_or}
use Rattle.outcomes.specs.declared.Refusal.TheVariants.{UnfitInstruction}
use Rattle.object.specs.declared.checked.ObjectFault.{ObjectFault}
use Rattle.object.specs.Code.{Boundary, Begins, Unreadable}

-- exactly the offsets where an instruction begins are marked
abbrev pub Marks : List ℕ → List Bool → Type 0
Marks code starts = (k : ℕ) → Decides (slice_index_or starts k false) (Begins code k)

-- all instructions of the code are readable, or one is not
abbrev pub StartsFound : List ℕ → Result (List ℕ) ObjectFault → Type 0
StartsFound code (Ok seen) = (seen ≡ code) × Boundary code (length code)
StartsFound code (Err fault) = (fault.refusal ≡ UnfitInstruction) × Unreadable code fault.offset
