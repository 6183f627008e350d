use Rattle.std.proofs.Common.{rules, tests, ◌≡◌, ◌∙◌}
use Rattle.std.specs.Option.{option_map}
use Rattle.std.specs.Str.{bytes_eq}
use Rattle.std.proofs.lemmas.Iterator.{YieldsList-from_slice}
use Rattle.std.proofs.lemmas.Iterator.Search.{find_from_yields_List}
use Rattle.scanner.proofs.Seeking.{seek_found}
use Rattle.scanner.proofs.symbols.sought.Goals as goal

pub returns : goal.returns
returns c =
    let word = c.args.word.now in
    let found = find_from_yields_List (λ s. bytes_eq s.0.now word) _ _ c.find.result c.find.ensures.ran (YieldsList-from_slice c.args.spellings.now cc) (λ x b q k. search (rules, tests)) in
    let symbol : c.map.result ≡ option_map (λ x. x.now.1) c.find.result = search (rules, tests) in
    symbol ∙ seek_found c.args.spellings.now word c.find.result found
