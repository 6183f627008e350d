use Rattle.std.proofs.Common.{◌≡◌, [], ◌∷◌, ◌++◌, length, take, sym, ap, ◌∙◌, arith, w32, SFits}
use Rattle.std.proofs.lemmas.Int.{to_z-of_z}
use Rattle.words.specs.Printing.{shown}
use Rattle.words.proofs.Blanks.{sets_last}
use Rattle.words.proofs.text.write_shown.Goals as goal

pub returns-in-Char : goal.returns-in-Char
returns-in-Char c =
    let f : SFits w32 c.args.value = c.ranges.value in
    let old = c.args.out.now in
    let b = c.low_byte.result in
    let low = simp to_z-of_z at c.low_byte.ensures in
    let same : b ∷ [] ≡ shown c.args.kind c.args.value = ap (λ k. k ∷ []) low ∙ ap (λ k. shown k c.args.value) (sym c.in-Char.is) in
    record {
      text = sets_last b 254 old c.told-out ∙ ap (λ l. take 254 old ++ l) same;
      place = omega (arith, ap length same);
    }
