use Rattle.std.proofs.Common.{◌≡◌, drop, Some, sym, ap, ◌∙◌, w16, SFits, rules}
use Rattle.std.proofs.lemmas.List.{take_rest}
use Rattle.std.proofs.lemmas.Int.{to_z-of_z}
use Rattle.instructions.specs.Decode.{decoded}
use Rattle.object.proofs.Straying.{leads, leads_by, decides_unfit}
use Rattle.object.proofs.starts.Starts.unfit.Goals as goal

pub returns : goal.returns
returns c =
    let f : SFits w16 c.in-Some.by = search rules in
    let read : c.decode-found.result ≡ decoded (drop c.args.at c.args.self.now) = c.decode-found.ensures ∙ ap decoded (take_rest c.self.inside.code.now c.args.at) ∙ ap (λ code. decoded (drop c.args.at code)) c.self.view_is in
    let e : leads (decoded (drop c.args.at c.args.self.now)) ≡ Some c.in-Some.by = ap leads (sym read) ∙ leads_by c.decode-found.result c.and_then.result _ c.and_then.ensures (λ d p. search rules) ∙ c.in-Some.is in
    decides_unfit c.args.self.now c.args.main c.args.at c.in-Some.by c.lands.result e (search rules) (simp to_z-of_z at c.lands.ensures)
