use Rattle.std.proofs.Common.{ap, ◌∙◌}
use Rattle.commands.specs.Words.{hex_of}
use Rattle.commands.proofs.json.report_json.Goals as goal

pub returns : goal.returns
returns c =
    let bytes = c.in_ok-bytes.ensures ∙ ap hex_of c.deref.ensures.value in
    rw (← bytes, ← c.deref-2.ensures.value, ← c.stop_name-stop.ensures) c.format.ensures.ok
