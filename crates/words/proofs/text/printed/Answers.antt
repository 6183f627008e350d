use Rattle.std.proofs.Common.{◌≡◌, drop, ap, ◌∙◌, w32, SFits}
use Rattle.std.proofs.lemmas.Int.{to_z-of_z}
use Rattle.words.specs.Printing.{printed_as, padded, shown, clamped}
use Rattle.words.proofs.Blanks.{reads_padded}
use Rattle.words.proofs.text.printed.Goals as goal

pub returns : goal.returns
unfolding printed_as
returns c =
    let f : SFits w32 c.args.value = c.ranges.value in
    let g : SFits w32 c.args.width = c.ranges.width in
    let s = c.write_shown-begin in
    let text = shown c.args.kind c.args.value in
    let w : c.clamped.result ≡ clamped c.args.width = simp to_z-of_z at c.clamped.ensures.value in
    let filled = simp to_z-of_z at s.ensures.text in
    let placed = simp to_z-of_z at s.ensures.place in
    ap (λ k. drop k s.new.out) c.min-from.ensures ∙
    reads_padded 255 c.clamped.result s.result s.new.out text c.clamped.ensures.bound placed filled ∙
    ap (λ k. padded k text) w
