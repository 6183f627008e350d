use Rattle.std.proofs.Common.{◌≡◌, ℕ, ◌+◌, ◌≤◌, sym, refl, ◌∙◌, arith, rules}
use Rattle.machine.proofs.Stepping.{led_none}
use Rattle.samples.proofs.Joining.{led_joined, ends_joined, pauses_joined, same_stores_on, as_long}
use Rattle.samples.proofs.execute.drive.Goals as goal

pub loop-verdict-init : goal.loop-verdict-init
loop-verdict-init g c = (search rules, refl, c.requires, omega arith, led_none _ _)

pub returns-in-Ended-clause-drove : goal.returns-in-Ended-clause-drove
returns-in-Ended-clause-drove g c =
    let l = c.loop-verdict in
    let fits : l.made + c.min-portion.result ≤ c.args.budget = search rules in
    ends_joined c.in-Ended.verdict l.made c.in-Ended.steps c.min-portion.result c.args.budget _ _ _ _ _ _ l.invariant.1 l.invariant.4 c.in-Ended.ensures.advanced.1 fits

pub loop-verdict-preserved : goal.loop-verdict-preserved
loop-verdict-preserved g c =
    let l = c.loop-verdict in
    let same = c.in-Paused.ensures.same in
    let h = c.in-Paused.ensures.advanced in
    let on = c.if-not-goes_on.ensures.0 refl in
    (same_stores_on _ _ _ l.invariant.0 same, h.3.code ∙ l.invariant.1, as_long _ _ same ∙ l.invariant.2 ∙ sym h.3.lengths, omega (arith, on.1), led_joined l.made c.in-Paused.steps _ _ _ _ _ l.invariant.1 l.invariant.4 h.1)

pub returns-then-not-goes_on-clause-drove : goal.returns-then-not-goes_on-clause-drove
returns-then-not-goes_on-clause-drove g c =
    let l = c.loop-verdict in
    let h = c.in-Paused.ensures.advanced in
    let fits : l.made + c.min-portion.result ≤ c.args.budget = search rules in
    pauses_joined c.in-Paused.pause l.made c.in-Paused.steps c.min-portion.result c.args.budget _ _ _ _ c.in-Paused.paused.registers _ _ l.invariant.1 l.invariant.4 h.1 h.2 fits
    (λ e less. let clash = c.if-not-goes_on.ensures.1 (e, less) in let z : ◌≡◌ {A = ℕ} 0 1 = cc in omega arith)
