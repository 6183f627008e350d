use Rattle.std.proofs.Common.{ℕ, List, Bor, refl, arith}
use Rattle.std.proofs.Math.ListN.{get_or-map}
use Rattle.commands.proofs.mnemonics.mnemonic.Goals as goal

pub returns : goal.returns
returns c = rw (c.unwrap_or.ensures, c.copied.ensures, c.get.ensures.lookup.4 (omega arith)) (rw (← get_or-map (λ (x : Bor (List ℕ)). x.now)) refl)
