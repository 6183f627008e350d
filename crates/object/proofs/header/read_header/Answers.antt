use Rattle.std.proofs.Common.{◌≡◌, ◌-◌, length, take, drop, ap, ◌∙◌, arith, length-drop, rules}
use Rattle.std.proofs.lemmas.List.{take_rest}
use Rattle.object.specs.Inspection.{header}
use Rattle.object.proofs.Headers.{headed}
use Rattle.object.proofs.header.read_header.Goals as goal

pub returns-in_default : goal.returns-in_default
returns-in_default c = header (search rules)

pub returns-then-code-size : goal.returns-then-code-size
returns-then-code-size c = header (search rules)

pub returns : goal.returns
returns c =
    let bytes = c.args.bytes.now in
    let size = c.from_be_bytes-size in
    let code : take (length bytes - 14) (drop 14 bytes) ≡ drop 14 bytes = take_rest bytes 14 in
    let long : length (take (length bytes - 14) (drop 14 bytes)) ≡ size.result = ap length code ∙ simp length-drop (omega arith) in
    headed bytes (take (length bytes - 14) (drop 14 bytes)) size.result c.from_be_bytes-globals.result c.from_be_bytes-main.result c.type_inv.bytes (omega arith) (search rules) (search rules)
    size.ensures c.from_be_bytes-globals.ensures c.from_be_bytes-main.ensures code long (omega arith) (omega arith) (omega arith) (omega arith)
