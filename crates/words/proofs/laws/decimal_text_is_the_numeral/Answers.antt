use Rattle.words.proofs.Numerals.{decimal_text}
use Rattle.words.proofs.laws.decimal_text_is_the_numeral.Goals as goal

pub returns : goal.returns
returns c = decimal_text
