use Rattle.std.proofs.Common.{◌≡◌, ◌+◌, ◌-◌, ◌≤◌, List, ◌∷◌, ◌++◌, length, take, drop, replicate, ℤ, pos, sym, ap, ◌∙◌, arith, rules, w32, SFits, to_z, length-take, length-drop}
use Rattle.std.proofs.lemmas.Int.{to_z-of_z, to_z_pos}
use Rattle.step.specs.State.{State, state, Step, moves, with_call}
use Rattle.step.specs.Arrays.{over}
use Rattle.step.specs.Promises.{state_of}
use Rattle.step.proofs.Entering.{enters}
use Rattle.step.proofs.Passing.{passed_over}
use Rattle.step.proofs.interpreter.Interpreter.enter.Goals as goal

pub returns : goal.returns
returns c =
    let i = c.args.self.now in
    let p = c.args.parameters in
    let n = c.args.locals in
    let s : State = state_of i in
    let q = c.pass_arguments.new.self in
    let args : List ℤ = take p (drop (i.height - p) i.operand.now) in
    let f : SFits w32 i.frame = search rules in
    let few : p ≤ n = c.if-parameters-locals.false in
    let fits : i.top + 1 + n ≤ length i.call.now = c.if-top-self.false in
    let there : p ≤ i.height = c.if-self-count.false in
    let long : length args ≡ p = simp (length-take, length-drop) (omega (arith, there)) in
    let left : ℤ → ℤ → State → Step = λ pc frame t. moves (state (record { pc = pc; frame = frame; top = i.top + 1 + n; height = i.height - p; free = t.registers.free }) t.datas t.heap t.call t.operand) in
    let block : c.write_block.new.store ≡ over i.call.now i.top (i.frame ∷ replicate n (pos 0)) = simp to_z-of_z at c.write_block.ensures in
    let frame : over (over i.call.now i.top (i.frame ∷ replicate n (pos 0))) (i.top + 1) args ≡ over i.call.now i.top (i.frame ∷ (args ++ replicate (n - p) (pos 0))) =
    passed_over i.call.now args i.top n i.frame fits (omega (arith, long, few)) ∙ ap (λ k. over i.call.now i.top (i.frame ∷ (args ++ replicate (n - k) (pos 0)))) long in
    let passed : state_of q ≡ with_call i.frame i.top (over i.call.now i.top (i.frame ∷ (args ++ replicate (n - p) (pos 0)))) s =
    c.pass_arguments.ensures.1 ∙ ap (λ (x : List ℤ). with_call i.frame i.top (over x (i.top + 1) args) s) block ∙ ap (λ (x : List ℤ). with_call i.frame i.top x s) frame in (
      search rules,
      enters p n (pos c.args.next) s few fits there (omega (arith, c.if-self-left-lt32.false)) ∙
          ap (left (pos c.args.next) (pos (i.top + 1))) (sym passed) ∙
          ap (λ z. left z (pos (i.top + 1)) (state_of q)) (sym (to_z_pos w32 c.args.next (omega arith))) ∙
          ap (λ z. left (to_z w32 c.args.next) z (state_of q)) (sym (to_z_pos w32 (i.top + 1) (omega (arith, fits)))),
    )
