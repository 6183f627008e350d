-- Laws of the patterns.
use Rattle.std.specs.Prelude.{◌≡◌, length}
use Rattle.program.specs.Core.{Program}
use Rattle.code.specs.Patterns.{lines_of, size_methods}
use Rattle.code.specs.Objects.{bytes_of}

-- the code has as many bytes as the sizes of its methods add up to
abbrev pub CodeHasItsSize : Type 0
CodeHasItsSize = (p : Program) → length (bytes_of (lines_of p)) ≡ size_methods p.methods
