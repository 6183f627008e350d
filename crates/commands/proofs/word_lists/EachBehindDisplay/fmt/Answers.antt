use Rattle.std.proofs.Common.{get_or, take, pos, sym, ap, ◌∙◌, rules}
use Rattle.std.proofs.lemmas.List.{take_more}
use Rattle.std.proofs.Output.{has_written_append, has_written_of_eq}
use Rattle.commands.specs.Words.{each_behind}
use Rattle.commands.proofs.Appending.{each_behind_push}
use Rattle.commands.proofs.word_lists.EachBehindDisplay.fmt.Goals as goal

pub loop-word-preserved : goal.loop-word-preserved
loop-word-preserved g c = λ plain.
    let ws = c.args.self.now.words.now in
    let mark = c.args.self.now.mark.now in
    let i = c.loop-word.word-index in
    let more = ap (each_behind mark) (take_more ws i (pos 0) c.loop-word-test.true) ∙ each_behind_push mark (take i ws) (get_or ws i (pos 0)) in
    has_written_of_eq _ _ _ _ _ (sym more) (has_written_append _ _ _ _ _ _ (c.loop-word.invariant plain) (search rules))
