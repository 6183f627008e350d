use Rattle.std.proofs.Common.{◌%◌, ◌^◌, ◌<◌, ap, ◌∙◌, arith, w32, SFits, to_z, of_z, rules}
use Rattle.std.proofs.lemmas.Int.{to_z-of_z}
use Rattle.words.proofs.Replaced.{replaces_byte}
use Rattle.words.proofs.bytes.with_byte.Goals as goal

pub returns : goal.returns
returns c =
    let f : SFits w32 c.args.word = c.ranges.word in
    let h : SFits w32 c.from_le_bytes.result = search rules in
    let small : of_z w32 c.args.word < 2 ^ 32 = search rules in
    let within : c.args.index % 4 < 4 = omega arith in
    let bytes = simp to_z-of_z at c.to_le_bytes-bytes.ensures in
    to_z-of_z w32 _ h ∙ c.from_le_bytes.ensures ∙ ap (to_z w32) (replaces_byte (c.args.index % 4) (of_z w32 c.args.word) c.args.byte c.to_le_bytes-bytes.result within small bytes)
