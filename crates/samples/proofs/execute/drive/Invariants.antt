use Rattle.std.proofs.Common.{◌≡◌, ◌-◌, ◌≤◌}
use Rattle.machine.specs.Machines.{SameStores, contents, lengths_of, state_in}
use Rattle.machine.specs.Runs.{scene, view, Led}
use Rattle.samples.proofs.execute.drive.Given as goal

abbrev pub invariant-loop-verdict : goal.invariant-loop-verdict
invariant-loop-verdict g l =
    let k = g.C.Console in
    SameStores l.initial.stores l.stores ×
    (l.machine.code.now ≡ l.initial.machine.code.now) ×
    (lengths_of (contents l.stores) ≡ l.machine.lengths) ×
    (l.made ≤ l.budget) ×
    Led l.initial.machine.code.now l.made
    (scene (state_in l.initial.machine (contents l.initial.stores)) (view (k.waiting l.initial.console) (k.written l.initial.console) (k.room l.initial.console)))
    (scene (state_in l.machine (contents l.stores)) (view (k.waiting l.console) (k.written l.console) (k.room l.console)))

abbrev pub decreases-loop-verdict : goal.decreases-loop-verdict
decreases-loop-verdict g l = l.budget - l.made
