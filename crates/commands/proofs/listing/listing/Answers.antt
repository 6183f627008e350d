use Rattle.std.proofs.Common.{drop, string_bytes, sym, ap, ◌∙◌, arith, length-drop}
use Rattle.std.proofs.lemmas.List.{take_rest}
use Rattle.instructions.specs.Decode.{decoded}
use Rattle.object.proofs.Sizes.{decoded_size}
use Rattle.commands.proofs.Lines.{left_all, left_more, left_none}
use Rattle.commands.proofs.listing.listing.Goals as goal

pub loop-found-init : goal.loop-found-init
loop-found-init c = let e = c.in_ok-text.ensures in rw e.ok (left_all c.args.summary c.args.code.now)

pub loop-found-smaller : goal.loop-found-smaller
loop-found-smaller c =
    let code = c.args.code.now in
    let reads = ap decoded (sym (take_rest code c.loop-found.at)) ∙ sym c.decode.ensures ∙ c.in-Some.is in
    let size = decoded_size (drop c.loop-found.at code) c.in-Some.found reads in
    omega (arith, size.some, simp length-drop at size.within)

pub loop-found-preserved : goal.loop-found-preserved
loop-found-preserved c =
    let code = c.args.code.now in
    let l = c.loop-found in
    let reads = ap decoded (sym (take_rest code l.at)) ∙ sym c.decode.ensures ∙ c.in-Some.is in
    left_more c.args.summary code (string_bytes l.text) _ l.at c.in-Some.found l.invariant reads c.in_ok-write.ensures.bytes

pub returns : goal.returns
returns c =
    let l = c.loop-found in
    left_none c.args.summary c.args.code.now _ l.at l.invariant (ap decoded (sym (take_rest c.args.code.now l.at)) ∙ sym c.in_default.ensures)
