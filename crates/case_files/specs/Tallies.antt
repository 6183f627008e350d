-- What came of cases, and how many came out how.
use Rattle.std.specs.Prelude.{ℕ, Bool, true, false, not, List, ◌++◌, String, string_bytes, codes, decimal, if◌then◌else◌}
use Rattle.std.specs.Str.{bytes_eq}
use Rattle.std.specs.declared.alloc.Global.{Global}
use Rattle.case_files.specs.declared.tally.Finding.{Finding}
use Rattle.case_files.specs.declared.tally.Finding.TheVariants.{AsExpected, Differs, LeftOut}
use Rattle.case_files.specs.declared.tally.Tally.{Tally}

-- a text that is the expected one, byte for byte, is as expected; any other is kept, to be shown
abbrev pub compared : String Global → List ℕ → Finding
compared found expected = if bytes_eq (string_bytes found) expected then AsExpected else Differs found

abbrev pub is_as_expected : Finding → Bool
is_as_expected AsExpected = true
is_as_expected (Differs found) = false
is_as_expected LeftOut = false

abbrev pub differs : Finding → Bool
differs AsExpected = false
differs (Differs found) = true
differs LeftOut = false

-- a case that cannot be compared
abbrev pub is_left_out : Finding → Bool
is_left_out AsExpected = false
is_left_out (Differs found) = false
is_left_out LeftOut = true

abbrev pub is_compared : Finding → Bool
is_compared f = not (is_left_out f)

-- as in `40 cases, 39 as expected`
abbrev pub tally_text : Tally → List ℕ
tally_text t = decimal t.cases ++ (codes " cases, " ++ (decimal t.fit ++ codes " as expected"))
