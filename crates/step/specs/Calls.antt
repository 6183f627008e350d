-- Calls: a frame is the return address, the caller's frame, and the locals, the parameters first.
use Rattle.std.specs.Prelude.{ℕ, zero, suc, ◌+◌, ◌-◌, cond, List, ◌∷◌, ◌++◌, length, take, drop, replicate, ℤ, pos, negsuc, ◌+ℤ◌, nat_le, nat_lt, slice_set}
use Rattle.outcomes.specs.declared.Verdict.TheVariants.{Finished, CallStackExhausted, OperandStackExhausted}
use Rattle.step.specs.State.{State, Step, ends, with_call, with_operand}
use Rattle.step.specs.Stacks.{illegal, word_at, inside, go_to}
use Rattle.step.specs.Arrays.{over}

-- the return address goes onto the call stack
abbrev pub call : ℤ → ℤ → State → Step
call target next s =
    cond (nat_lt s.registers.top (length s.call))
    (go_to target (with_call s.registers.frame (s.registers.top + 1) (slice_set s.call s.registers.top next) s))
    (ends CallStackExhausted)

-- the return address −1 ends the program
abbrev pub return_to : ℤ → State → Step
return_to (pos pc) s = go_to (pos pc) (with_call s.registers.frame (s.registers.top - 1) s.call s)
return_to (negsuc zero) s = ends Finished
return_to (negsuc (suc n)) s = go_to (negsuc (suc n)) (with_call s.registers.frame (s.registers.top - 1) s.call s)

abbrev pub return : State → Step
return s = cond (nat_lt 0 s.registers.top) (return_to (word_at s.call (s.registers.top - 1)) s) illegal

-- the arguments become the first locals; the others begin as 0
abbrev pub frame_words : ℕ → ℕ → State → List ℤ
frame_words parameters locals s = s.registers.frame ∷ (take parameters (drop (s.registers.height - parameters) s.operand) ++ replicate (locals - parameters) (pos 0))

abbrev pub entered : ℕ → ℕ → State → State
entered parameters locals s =
    with_operand (s.registers.height - parameters) s.operand
    (with_call (pos (s.registers.top + 1)) (s.registers.top + 1 + locals) (over s.call s.registers.top (frame_words parameters locals s)) s)

-- with more parameters than locals it is no instruction; then tested are, in turn, the call store, the arguments, and 32 free operand words once the arguments are taken
abbrev pub enter : ℕ → ℕ → ℤ → State → Step
enter parameters locals next s =
    cond (nat_le parameters locals)
    (cond (nat_le (s.registers.top + 1 + locals) (length s.call))
    (cond (nat_le parameters s.registers.height)
    (cond (nat_le (s.registers.height - parameters + 32) (length s.operand))
    (go_to next (entered parameters locals s))
    (ends OperandStackExhausted))
    illegal)
    (ends CallStackExhausted))
    illegal

-- the frame's words leave the call stack, and the caller's frame comes back, whatever it is
abbrev pub exit : ℤ → State → Step
exit next s = inside (s.registers.frame +ℤ negsuc 0) (length s.call) λ i. go_to next (with_call (word_at s.call i) i s.call s)
