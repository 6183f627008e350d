use Rattle.commands.proofs.Hex.{encode_lower_is}
use Rattle.commands.proofs.json.hex_text.Goals as goal

pub returns : goal.returns
returns c = rw (← encode_lower_is c.args.bytes.now (λ i. (c.type_inv.bytes i).fits)) c.encode.ensures
