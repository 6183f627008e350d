-- The operand stack, where the words are there.
use Rattle.std.proofs.Common.{◌≡◌, ◌+◌, ◌-◌, ◌<◌, ◌≤◌, true, cond, ltb, List, length, ℤ, Ok, ap, ◌∙◌, arith}
use Rattle.std.proofs.lemmas.Bool.{lt-ltb}
use Rattle.step.specs.State.{State, Step, with_operand}
use Rattle.step.specs.Stacks.{illegal, word_at, pop, push, pushed}
use Rattle.step.specs.Promises.{Uppermost}
use Rattle.step.specs.declared.interpreter.Interpreter.{Interpreter}

pub pops_two : (s : State) (f : ℤ → ℤ → State → Step) → 2 ≤ s.registers.height →
    pop s (λ b t. pop t (λ a u. f b a u)) ≡
    f (word_at s.operand (s.registers.height - 1)) (word_at s.operand (s.registers.height - 2)) (with_operand (s.registers.height - 2) s.operand s)
pops_two s f h =
    let n = s.registers.height in
    let first = word_at s.operand (n - 1) in
    let one : ltb 0 n ≡ true = lt-ltb 0 n (omega arith) in
    let two : ltb 0 (n - 1) ≡ true = lt-ltb 0 (n - 1) (omega arith) in
    let e : n - 1 - 1 ≡ n - 2 = omega arith in
    ap (λ b. cond b (pop (with_operand (n - 1) s.operand s) (λ a u. f first a u)) illegal) one ∙
    ap (λ b. cond b (f first (word_at s.operand (n - 1 - 1)) (with_operand (n - 1 - 1) s.operand s)) illegal) two ∙
    ap (λ k. f first (word_at s.operand k) (with_operand k s.operand s)) e

pub pops_three : (s : State) (f : ℤ → ℤ → ℤ → State → Step) → 3 ≤ s.registers.height →
    pop s (λ c t. pop t (λ b u. pop u (λ a x. f c b a x))) ≡
    f (word_at s.operand (s.registers.height - 1)) (word_at s.operand (s.registers.height - 2)) (word_at s.operand (s.registers.height - 3)) (with_operand (s.registers.height - 3) s.operand s)
pops_three s f h =
    let n = s.registers.height in
    let first = word_at s.operand (n - 1) in
    let second = word_at s.operand (n - 2) in
    let three : ltb 0 (n - 2) ≡ true = lt-ltb 0 (n - 2) (omega arith) in
    let e : n - 2 - 1 ≡ n - 3 = omega arith in
    pops_two s (λ c b u. pop u (λ a x. f c b a x)) (omega arith) ∙
    ap (λ b. cond b (f first second (word_at s.operand (n - 2 - 1)) (with_operand (n - 2 - 1) s.operand s)) illegal) three ∙
    ap (λ k. f first second (word_at s.operand k) (with_operand k s.operand s)) e

pub pushes : (w : ℤ) (s : State) (go : State → Step) → s.registers.height < length s.operand → push w s go ≡ go (pushed w s)
pushes w s go h = ap (λ b. cond b (go (pushed w s)) illegal) (lt-ltb s.registers.height (length s.operand) h)

-- the two uppermost operands, by their places
pub uppermost_two : (ws : List ℤ) (i : Interpreter) → Uppermost 2 (Ok ws) i →
    (2 ≤ i.height) × (word_at ws 0 ≡ word_at i.operand.now (i.height - 2)) × (word_at ws 1 ≡ word_at i.operand.now (i.height - 1))
uppermost_two ws i u =
    let first : i.height - 2 + 0 ≡ i.height - 2 = omega arith in
    let second : i.height - 2 + 1 ≡ i.height - 1 = omega (arith, u.0) in
    (u.0, u.1 0 (omega arith) ∙ ap (word_at i.operand.now) first, u.1 1 (omega arith) ∙ ap (word_at i.operand.now) second)

-- the three uppermost operands, by their places
pub uppermost_three : (ws : List ℤ) (i : Interpreter) → Uppermost 3 (Ok ws) i →
    (3 ≤ i.height) × (word_at ws 0 ≡ word_at i.operand.now (i.height - 3)) × (word_at ws 1 ≡ word_at i.operand.now (i.height - 2)) × (word_at ws 2 ≡ word_at i.operand.now (i.height - 1))
uppermost_three ws i u =
    let first : i.height - 3 + 0 ≡ i.height - 3 = omega arith in
    let second : i.height - 3 + 1 ≡ i.height - 2 = omega (arith, u.0) in
    let third : i.height - 3 + 2 ≡ i.height - 1 = omega (arith, u.0) in
    (u.0, u.1 0 (omega arith) ∙ ap (word_at i.operand.now) first, u.1 1 (omega arith) ∙ ap (word_at i.operand.now) second, u.1 2 (omega arith) ∙ ap (word_at i.operand.now) third)
