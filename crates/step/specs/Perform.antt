-- What each instruction does, in the order of the instruction set's table; `next` is the offset behind it.
use Rattle.std.specs.Prelude.{ℕ, cond, List, length, drop, ℤ, pos, negsuc, ◌+ℤ◌, Some, None, Option, ◌==◌, nat_lt, slice_set}
use Rattle.outcomes.specs.declared.Verdict.TheVariants.{MissingReturn, DivisionByZero}
use Rattle.words.specs.Arithmetic.{wrap, compute, negation, holds}
use Rattle.words.specs.Bytes.{kept}
use Rattle.words.specs.Printing.{printed_as}
use Rattle.instructions.specs.declared.Decoded.{Decoded}
use Rattle.instructions.specs.declared.Instruction.{Instruction}
use Rattle.instructions.specs.declared.Instruction.TheVariants.{Load, Store, GetStatic, PutStatic, Const, Binary, Negate, Increment, NewArray, ArrayLoad, ArrayStore, ArrayLength, Pop, Dup, Dup2, Jump, JumpIf, Call, Return, Enter, Exit, Read, Print, Trap}
use Rattle.instructions.specs.Decode.{decoded}
use Rattle.step.specs.State.{State, Step, takes, writes, ends, at, with_heap, with_call, with_data}
use Rattle.step.specs.Stacks.{illegal, word_at, go_to, pushed, push, pop, inside, local}
use Rattle.step.specs.Arrays.{element, element_in, with_element, new_array, not_null, length_word}
use Rattle.step.specs.Calls.{call, return, enter, exit}

-- a result, unless the divisor was 0
abbrev pub result : Option ℤ → (ℤ → Step) → Step
result None go = ends DivisionByZero
result (Some w) go = go w

abbrev pub perform : Instruction → ℤ → State → Step
perform (Load n) next s = local n s λ i. push (word_at s.call i) s (go_to next)
perform (Store n) next s = local n s λ i. pop s λ w t. go_to next (with_call t.registers.frame t.registers.top (slice_set t.call i w) t)
perform (GetStatic n) next s = inside (pos n) (length s.datas) λ i. push (word_at s.datas i) s (go_to next)
perform (PutStatic n) next s = inside (pos n) (length s.datas) λ i. pop s λ w t. go_to next (with_data (slice_set t.datas i w) t)
perform (Const w) next s = push w s (go_to next)
perform (Binary o) next s = pop s λ b t. pop t λ a u. result (compute o a b) λ w. push w u (go_to next)
perform Negate next s = pop s λ a t. push (negation a) t (go_to next)
perform (Increment n by) next s = local n s λ i. go_to next (with_call s.registers.frame s.registers.top (slice_set s.call i (wrap (word_at s.call i +ℤ by))) s)
perform (NewArray k) next s = pop s λ n t. new_array k n t λ reference u. push reference u (go_to next)
perform (ArrayLoad k) next s = pop s λ i t. pop t λ a u. element k a i u.registers.free u.heap λ w j. push (element_in k j (word_at u.heap w)) u (go_to next)
perform (ArrayStore k) next s =
    pop s λ v t. pop t λ i u. pop u λ a x. element k a i x.registers.free x.heap λ w j. go_to next (with_heap x.registers.free (slice_set x.heap w (with_element k j v (word_at x.heap w))) x)
perform ArrayLength next s = pop s λ a t. not_null a (length_word a t.registers.free λ r. push (word_at t.heap r) t (go_to next))
perform Pop next s = pop s λ w t. go_to next t
perform Dup next s = pop s λ w t. push w s (go_to next)
perform Dup2 next s = pop s λ b t. pop t λ a u. push a s λ x. push b x (go_to next)
perform (Jump by) next s = go_to (s.registers.pc +ℤ by) s
perform (JumpIf r by) next s = pop s λ b t. pop t λ a u. go_to (cond (holds r a b) (s.registers.pc +ℤ by) next) u
perform (Call by) next s = call (s.registers.pc +ℤ by) next s
perform Return next s = return s
perform (Enter parameters locals) next s = enter parameters locals next s
perform Exit next s = exit next s
perform (Read k) next s = cond (nat_lt s.registers.height (length s.operand)) (takes λ w. at next (pushed (kept k w) s)) illegal
perform (Print k) next s = pop s λ w t. pop t λ v u. writes (printed_as k v w) (at next u)
perform (Trap n) next s = cond (n == 1) (ends MissingReturn) illegal

-- the instruction at pc; there is none outside the code
abbrev pub fetched : List ℕ → ℤ → Option Decoded
fetched code (pos pc) = decoded (drop pc code)
fetched code (negsuc n) = None

abbrev pub performed : Option Decoded → State → Step
performed None s = illegal
performed (Some d) s = perform d.instruction (s.registers.pc +ℤ pos d.size) s

-- one step
unfoldable pub step : List ℕ → State → Step
step code s = performed (fetched code s.registers.pc) s
