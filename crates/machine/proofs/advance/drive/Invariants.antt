use Rattle.step.specs.Promises.{SameLoans, state_of}
use Rattle.machine.specs.Runs.{scene, view, Led}
use Rattle.machine.proofs.advance.drive.Given as goal

abbrev pub invariant-loop-steps : goal.invariant-loop-steps
invariant-loop-steps g l =
    let k = g.C.Console in
    SameLoans l.initial.machine l.machine ×
    Led l.initial.machine.code.now l.steps
    (scene (state_of l.initial.machine) (view (k.waiting l.initial.console) (k.written l.initial.console) (k.room l.initial.console)))
    (scene (state_of l.machine) (view (k.waiting l.console) (k.written l.console) (k.room l.console)))
