use Rattle.std.proofs.Common.{◌≡◌, ℕ, ◌-◌, get_or, set, ℤ, pos, Ok, Err, sym, refl, ap, ◌∙◌, arith, w32, SFits, to_z, of_z, rules}
use Rattle.std.proofs.lemmas.Result.{err_from_is_err_and}
use Rattle.std.proofs.lemmas.Int.{to_z-of_z, to_z_pos}
use Rattle.words.specs.declared.printing.Kind.{Kind}
use Rattle.step.specs.State.{State, Step, with_operand, with_heap}
use Rattle.step.specs.Stacks.{word_at, go_to}
use Rattle.step.specs.Arrays.{element, with_element}
use Rattle.step.specs.Promises.{state_of}
use Rattle.step.proofs.Elements.{found_at}
use Rattle.step.proofs.Stacking.{pops_three, uppermost_three}
use Rattle.step.proofs.interpreter.Interpreter.array_store.Goals as goal

-- what follows once the element is found
abbrev put : Kind → ℤ → ℤ → State → ℕ → ℕ → Step
put kind next v x w j = go_to next (with_heap x.registers.free (set x.heap w (with_element kind j v (word_at x.heap w))) x)

pub returns-in_err-at : goal.returns-in_err-at
returns-in_err-at c =
    let p = err_from_is_err_and c.from_residual-in_err-at.result c.from_residual-in_err-at.ensures.1 in
    rw (p.1, p.2)
    (let r = c.args.self.now in
    let o = r.operand.now in
    let v = get_or o (r.height - 1) (pos 0) in
    let s : State = state_of r in
    let ws = c.in_ok-reference.field-0 in
    let top = uppermost_three ws r c.in_ok-reference.ensures in
    let f : SFits w32 (get_or ws 0 (pos 0)) = search rules in
    let g : SFits w32 (get_or ws 1 (pos 0)) = search rules in
    let found = found_at c.args.kind _ (get_or o (r.height - 3) (pos 0)) _ (get_or o (r.height - 2) (pos 0)) r.free r.heap.now (Err c.in_err-at.field-0.0) (to_z-of_z w32 _ f ∙ top.1) (to_z-of_z w32 _ g ∙ top.2) c.in_err-at.ensures.found in (
      search rules,
      (
        pops_three s (λ v i a x. element c.args.kind a i x.registers.free x.heap (put c.args.kind (pos c.args.next) v x)) (omega arith) ∙ found (put c.args.kind (pos c.args.next) v (with_operand (r.height - 3) o s)),
        refl,
      ),
    ))

pub returns : goal.returns
returns c =
    let r = c.args.self.now in
    let o = r.operand.now in
    let h = r.heap.now in
    let kind = c.args.kind in
    let at = c.in_ok-at.at in
    let v = get_or o (r.height - 1) (pos 0) in
    let s : State = state_of r in
    let x : State = with_operand (r.height - 3) o s in
    let ws = c.in_ok-reference.field-0 in
    let top = uppermost_three ws r c.in_ok-reference.ensures in
    let f : SFits w32 (get_or ws 0 (pos 0)) = search rules in
    let g : SFits w32 (get_or ws 1 (pos 0)) = search rules in
    let i : SFits w32 (get_or ws 2 (pos 0)) = search rules in
    let j : SFits w32 (get_or h at.word (pos 0)) = search rules in
    let y : SFits w32 c.with_element.result = record { sfits = c.with_element.type_inv } in
    let found = found_at kind _ (get_or o (r.height - 3) (pos 0)) _ (get_or o (r.height - 2) (pos 0)) r.free h (Ok at) (to_z-of_z w32 _ f ∙ top.1) (to_z-of_z w32 _ g ∙ top.2) c.in_ok-at.ensures.found in
    let word : with_element kind at.index v (get_or h at.word (pos 0)) ≡ c.with_element.result = ap (λ z. with_element kind at.index z (get_or h at.word (pos 0))) (sym top.3) ∙ sym (simp to_z-of_z at c.with_element.ensures) in (
      search rules,
      pops_three s (λ v i a x. element kind a i x.registers.free x.heap (put kind (pos c.args.next) v x)) (omega arith) ∙
          found (put kind (pos c.args.next) v x) ∙
          ap (λ (w : ℤ). go_to (pos c.args.next) (with_heap r.free (set h at.word w) x)) (word ∙ sym (to_z-of_z w32 c.with_element.result y)) ∙
          ap (λ (z : ℤ). go_to z (with_heap r.free (set h at.word (to_z w32 (of_z w32 c.with_element.result))) x)) (sym (to_z_pos w32 c.args.next (omega arith))),
    )
