use Rattle.std.proofs.Common.{subst}
use Rattle.machine.specs.Machines.{Stores, contents, state_in}
use Rattle.machine.specs.Runs.{View, scene, view}
use Rattle.samples.specs.Executing.{Drove}
use Rattle.samples.proofs.execute.execute.Goals as goal

pub returns-clause-executed : goal.returns-clause-executed
returns-clause-executed g c =
    let o = g.C.Console in
    let m = c.in_ok-machine.machine in
    let x = c.args.console.now in
    let n = c.drive.new in
    let v : View = view (o.waiting x) (o.written x) (o.room x) in
    let w : View = view (o.waiting n.console) (o.written n.console) (o.room n.console) in
    let begun = c.in_ok-machine.ensures.begun in
    record {
      machine = m;
      begun = begun.0;
      drove = subst (λ (s : Stores). Drove c.drive.result m.code.now c.args.budget (scene (state_in m s) v) (contents n.stores) w) begun.1 c.drive.ensures.drove;
    }
