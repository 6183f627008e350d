use Rattle.std.proofs.Common.{◌+◌, ◌-◌, length, take, drop, ap, ◌∙◌, arith, ltb-false, ltb-true}
use Rattle.std.proofs.lemmas.List.{take_rest}
use Rattle.std.proofs.lemmas.Result.{err_from_is_err_and}
use Rattle.commands.specs.Arguments.{reading_of, accepted_all, texts_of}
use Rattle.commands.specs.Understood.{and_then}
use Rattle.commands.proofs.Reading.{fails_like, fails_then, found, one_more, known, with_path}
use Rattle.commands.proofs.arguments.read_arguments.Goals as goal

pub returns-in_err-accept : goal.returns-in_err-accept
returns-in_err-accept c =
    let l = c.loop-text in
    let command = c.in_ok-command.command in
    let xs = c.args.arguments.now in
    let rest = take (length xs - 1) (drop 1 xs) in
    let texts = take (length rest - 1) (drop 1 rest) in
    let name = found _ _ command c.in_ok-command.ensures.cases ∙ c.ok.ensures.value ∙ c.parse.ensures.value in
    let whole = known xs rest command (take_rest xs 1) (omega (arith, ltb-true, ltb-false)) name ∙ with_path rest command (omega (arith, ltb-true, ltb-false)) in
    let e = l.invariant.left ∙ one_more l.reading.command texts l.text-index (reading_of l.reading) c.loop-text-test.true in
    let same = l.invariant.command in
    let p = err_from_is_err_and c.from_residual-in_err-accept.result c.from_residual-in_err-accept.ensures.1 in
    let failed = fails_like _ e (fails_then _ _ _ c.in_err-accept.ensures.reading) in
    rw (p.1, p.2) (fails_like _ whole (fails_then _ _ _ (rw same at failed)))

pub loop-text-preserved : goal.loop-text-preserved
loop-text-preserved c =
    let l = c.loop-text in
    let rest = take (length c.args.arguments.now - 1) (drop 1 c.args.arguments.now) in
    let texts = take (length rest - 1) (drop 1 rest) in
    let e = l.invariant.left ∙ one_more l.reading.command texts l.text-index (reading_of l.reading) c.loop-text-test.true in
    record {
      command = c.accept.ensures.command ∙ l.invariant.command;
      path = c.accept.ensures.path ∙ l.invariant.path;
      left = rw c.accept.ensures.command (e ∙ ap (λ u. and_then u (λ t. accepted_all l.reading.command (drop (l.text-index + 1) (texts_of texts)) t)) c.in_ok-accept.ensures.reading);
    }
