use Rattle.std.proofs.Common.{ap, ◌∙◌, sym, rules}
use Rattle.step.specs.Promises.{state_of}
use Rattle.machine.specs.Runs.{Scene, scene, view, turn}
use Rattle.machine.proofs.Stepping.{led_none, led_more, same_loans_on}
use Rattle.machine.proofs.advance.drive.Goals as goal

pub loop-steps-init : goal.loop-steps-init
loop-steps-init g c = (search rules, led_none _ _)

pub loop-steps-preserved : goal.loop-steps-preserved
loop-steps-preserved g c =
    let k = g.C.Console in
    let i = c.args.machine.now in
    let l = c.loop-steps in
    let n = c.turn.new in
    let mid : Scene = scene (state_of l.machine) (view (k.waiting l.console) (k.written l.console) (k.room l.console)) in
    let to : Scene = scene (state_of n.machine) (view (k.waiting n.console) (k.written n.console) (k.room n.console)) in
    let made = c.in_default.ensures in
    (same_loans_on i l.machine n.machine l.invariant.0 made.0, led_more i.code.now l.steps _ mid to l.invariant.1 (ap (λ code. turn code mid) (sym l.invariant.0.code) ∙ made.1))
