use Rattle.std.proofs.Common.{sym, ◌∙◌, arith}
use Rattle.console.proofs.Rounds.{along_pop}
use Rattle.console.proofs.ring.Ring.pop.Goals as goal

pub returns-clause-pops : goal.returns-clause-pops
returns-clause-pops g c =
    let r = c.self.inside in
    let full = c.self.invariant.0 in
    let e = along_pop r.first r.count r.items c.index-self-self.result (omega arith) (omega arith) (omega arith) in
    sym c.self.view_is ∙ simp full at e
