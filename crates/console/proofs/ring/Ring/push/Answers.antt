use Rattle.std.proofs.Common.{[], ◌∷◌, ◌++◌, ◌<◌, length, ap, ◌∙◌, arith}
use Rattle.console.proofs.Rounds.{along_push, length_along}
use Rattle.console.proofs.ring.Ring.push.Goals as goal

pub returns : goal.returns
returns g c =
    let r = c.self.inside in
    let full = c.self.invariant.0 in
    let counted = length_along r.first r.count r.items (omega arith) (omega arith) in
    let room : r.count < g.row.N = omega (arith, counted, ap length c.self.view_is) in
    let e = along_push r.first r.count r.items c.args.item (omega arith) (omega arith) in
    simp full at e ∙ ap (λ l. l ++ c.args.item ∷ []) c.self.view_is
