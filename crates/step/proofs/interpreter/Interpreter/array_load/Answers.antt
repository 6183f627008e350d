use Rattle.std.proofs.Common.{◌≡◌, ℕ, ◌+◌, ◌-◌, get_or, set, ℤ, pos, Ok, Err, sym, refl, ap, ◌∙◌, arith, w32, SFits, to_z, of_z, rules}
use Rattle.std.proofs.lemmas.Result.{err_from_is_err_and}
use Rattle.std.proofs.lemmas.Int.{to_z-of_z, to_z_pos}
use Rattle.words.specs.declared.printing.Kind.{Kind}
use Rattle.step.specs.State.{State, Step, with_operand}
use Rattle.step.specs.Stacks.{word_at, go_to, push}
use Rattle.step.specs.Arrays.{element, element_in}
use Rattle.step.specs.Promises.{state_of}
use Rattle.step.proofs.Elements.{found_at}
use Rattle.step.proofs.Stacking.{pops_two, pushes, uppermost_two}
use Rattle.step.proofs.interpreter.Interpreter.array_load.Goals as goal

-- what follows once the element is found
abbrev load : Kind → ℤ → State → ℕ → ℕ → Step
load kind next u w j = push (element_in kind j (word_at u.heap w)) u (go_to next)

pub returns-in_err-at : goal.returns-in_err-at
returns-in_err-at c =
    let p = err_from_is_err_and c.from_residual-in_err-at.result c.from_residual-in_err-at.ensures.1 in
    rw (p.1, p.2)
    (let r = c.args.self.now in
    let o = r.operand.now in
    let s : State = state_of r in
    let ws = c.in_ok-reference.field-0 in
    let top = uppermost_two ws r c.in_ok-reference.ensures in
    let f : SFits w32 (get_or ws 0 (pos 0)) = search rules in
    let g : SFits w32 (get_or ws 1 (pos 0)) = search rules in
    let found = found_at c.args.kind _ (get_or o (r.height - 2) (pos 0)) _ (get_or o (r.height - 1) (pos 0)) r.free r.heap.now (Err c.in_err-at.field-0.0) (to_z-of_z w32 _ f ∙ top.1) (to_z-of_z w32 _ g ∙ top.2) c.in_err-at.ensures.found in (
      search rules,
      (
        pops_two s (λ i a u. element c.args.kind a i u.registers.free u.heap (load c.args.kind (pos c.args.next) u)) (omega arith) ∙ found (load c.args.kind (pos c.args.next) (with_operand (r.height - 2) o s)),
        refl,
      ),
    ))

pub returns : goal.returns
returns c =
    let r = c.args.self.now in
    let o = r.operand.now in
    let kind = c.args.kind in
    let at = c.in_ok-at.at in
    let s : State = state_of r in
    let u : State = with_operand (r.height - 2) o s in
    let ws = c.in_ok-reference.field-0 in
    let top = uppermost_two ws r c.in_ok-reference.ensures in
    let f : SFits w32 (get_or ws 0 (pos 0)) = search rules in
    let g : SFits w32 (get_or ws 1 (pos 0)) = search rules in
    let x : SFits w32 (get_or r.heap.now at.word (pos 0)) = search rules in
    let found = found_at kind _ (get_or o (r.height - 2) (pos 0)) _ (get_or o (r.height - 1) (pos 0)) r.free r.heap.now (Ok at) (to_z-of_z w32 _ f ∙ top.1) (to_z-of_z w32 _ g ∙ top.2) c.in_ok-at.ensures.found in
    let word : element_in kind at.index (get_or r.heap.now at.word (pos 0)) ≡ c.element_in.result = sym (simp to_z-of_z at c.element_in.ensures) in
    let up : r.height - 2 + 1 ≡ r.height - 1 = omega arith in
    let e = to_z_pos w32 c.args.next (omega arith) in
    let y : SFits w32 c.element_in.result = record { sfits = c.element_in.type_inv } in (
      search rules,
      pops_two s (λ i a u. element kind a i u.registers.free u.heap (load kind (pos c.args.next) u)) (omega arith) ∙
          found (load kind (pos c.args.next) u) ∙
          pushes _ u (go_to (pos c.args.next)) (omega arith) ∙
          ap (λ (w : ℤ). go_to (pos c.args.next) (with_operand (r.height - 2 + 1) (set o (r.height - 2) w) u)) word ∙
          ap (λ (n : ℕ). go_to (pos c.args.next) (with_operand n (set o (r.height - 2) c.element_in.result) u)) up ∙
          ap (λ (w : ℤ). go_to (pos c.args.next) (with_operand (r.height - 1) (set o (r.height - 2) w) u)) (sym (to_z-of_z w32 c.element_in.result y)) ∙
          ap (λ (z : ℤ). go_to z (with_operand (r.height - 1) (set o (r.height - 2) (to_z w32 (of_z w32 c.element_in.result))) u)) (sym e),
    )
