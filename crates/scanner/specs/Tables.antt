-- The tables of symbols that the code holds, as those of the definitions.
use Rattle.std.specs.Prelude.{List, map}
use Rattle.syntax.specs.Lexemes.{Spelt}
use Rattle.scanner.specs.declared.symbols.Spelling.{Spelling}

abbrev pub spelt_by : Spelling → Spelt
spelt_by s = (s.0.now, s.1)

abbrev pub table : List Spelling → List Spelt
table ss = map spelt_by ss
