use Rattle.std.proofs.Common.{◌≡◌, take, drop}
use Rattle.step.specs.Arrays.{over}
use Rattle.step.specs.State.{with_call}
use Rattle.step.specs.Promises.{SameLoans, state_of}
use Rattle.step.proofs.interpreter.Interpreter.pass_arguments.Given as goal

abbrev pub invariant-loop-k : goal.invariant-loop-k
invariant-loop-k l =
    let i = l.initial.self in
    SameLoans i l.self × (state_of l.self ≡ with_call i.frame i.top (over i.call.now l.first (take l.k (drop l.left i.operand.now))) (state_of i))
