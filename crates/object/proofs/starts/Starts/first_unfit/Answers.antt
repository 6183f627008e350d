use Rattle.std.proofs.Common.{ℕ, ◌<◌, length, ap, ⊎_elim, arith, rules}
use Rattle.std.proofs.lemmas.Iterator.{first_from_Range}
use Rattle.object.specs.Targets.{UnfitTargetAt}
use Rattle.object.proofs.Straying.{lowest}
use Rattle.object.proofs.starts.Starts.first_unfit.Goals as goal

pub returns : goal.returns
returns c =
    let P = UnfitTargetAt c.args.self.now c.args.main in
    let within : (k : ℕ) → P k → k < length c.self.inside.code.now =
    λ k u. ⊎_elim (λ s. omega (arith, s.begins.inside, ap length c.self.view_is)) (λ p. omega (arith, p.0, ap length c.self.view_is)) u in
    lowest P _ c.find.result within (first_from_Range _ _ _ _ P (λ k. P k → ⊥) c.find.ensures.ran (λ x q k. search rules) (λ x q k. search rules))
