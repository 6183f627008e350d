-- A machine between the meaning and the flat stores: arrays as the meaning has them, operands and locals of each call as lists.
-- What no code of a legal program does ends with verdict 9.
use Rattle.std.proofs.Common.{ℕ, ◌+◌, cond, eqb, ltb, leb, List, [], ◌∷◌, ◌++◌, reverse, length, get_or, take, drop, set, replicate, ℤ, pos, negsuc, ◌+ℤ◌, Some, None, Option}
use Rattle.outcomes.specs.declared.Verdict.TheVariants.{Finished, MissingReturn, CallStackExhausted, OperandStackExhausted, IllegalStep}
use Rattle.words.specs.Arithmetic.{wrap, compute, negation, holds}
use Rattle.words.specs.Bytes.{kept}
use Rattle.words.specs.Printing.{printed_as}
use Rattle.instructions.specs.declared.Decoded.{Decoded}
use Rattle.instructions.specs.declared.Instruction.{Instruction}
use Rattle.instructions.specs.declared.Instruction.TheVariants.{Load, Store, GetStatic, PutStatic, Const, Binary, Negate, Increment, NewArray, ArrayLoad, ArrayStore, ArrayLength, Pop, Dup, Dup2, Jump, JumpIf, Call, Return, Enter, Exit, Read, Print, Trap}
use Rattle.meaning.specs.World.{World, Limits, Ending, verdict, Outcome, done, stop, cut, take_word, write, global, set_global, get_element, set_element, array_length, new}
use Rattle.meaning.specs.Evaluation.{computed}

-- a call that waits for another one to return: where it goes on, its operands (the uppermost first) and its locals
pub record Caller : Type 0 where
  pub back : ℕ
  pub operands : List ℤ
  pub locals : List ℤ

abbrev pub caller : ℕ → List ℤ → List ℤ → Caller
caller b os ls = record { back = b; operands = os; locals = ls }

pub data Conf : Type 0 where
  -- the next instruction, the running call's operands (the uppermost first) and locals, and the calls that wait (the latest first)
  running : ℕ → List ℤ → List ℤ → List Caller → World → Conf
  -- a call was made, and no frame yet
  entering : ℕ → List Caller → World → Conf
  -- the frame was left; its operands go to the caller
  leaving : ℕ → List ℤ → List Caller → World → Conf
  halted : Ending → World → Conf

abbrev pub wrong : World → Conf
wrong w = halted (verdict IllegalStep) w

-- the words of the waiting calls, and the operands that they hold
abbrev pub words : List Caller → ℕ
words [] = 0
words (c ∷ cs) = words cs + (2 + length c.locals)

abbrev pub pending : List Caller → ℕ
pending [] = 0
pending (c ∷ cs) = pending cs + length c.operands

abbrev pub pop : List ℤ → World → (ℤ → List ℤ → Conf) → Conf
pop [] w go = wrong w
pop (a ∷ os) w go = go a os

abbrev pub finish : {A : Type 0} → Outcome A → (A → World → Conf) → Conf
finish (done a w) go = go a w
finish (stop e w) go = halted e w
finish (cut w) go = wrong w

abbrev pub to : ℤ → World → (ℕ → Conf) → Conf
to (pos pc) w go = go pc
to (negsuc n) w go = wrong w

-- the caller's operands without its arguments
abbrev pub giving : ℕ → List Caller → List Caller
giving n [] = []
giving n (c ∷ cs) = caller c.back (drop n c.operands) c.locals ∷ cs

abbrev pub arguments_of : ℕ → List Caller → List ℤ
arguments_of n [] = []
arguments_of n (c ∷ cs) = reverse (take n c.operands)

abbrev pub enter : Limits → ℕ → ℕ → ℕ → List Caller → World → Conf
enter L parameters locals next cs w =
    cond (leb (words cs + (2 + locals)) L.call)
    (cond (leb (pending (giving parameters cs) + 32) L.operand)
    (running next [] (take locals (arguments_of parameters cs ++ replicate locals (pos 0))) (giving parameters cs) w)
    (halted (verdict OperandStackExhausted) w))
    (halted (verdict CallStackExhausted) w)

abbrev pub returned : List ℤ → List Caller → World → Conf
returned os [] w = halted (verdict Finished) w
returned os (c ∷ cs) w = running c.back (os ++ c.operands) c.locals cs w

-- what an instruction does in the running call; `next` is the offset behind it
abbrev pub act : Limits → Instruction → ℕ → ℕ → List ℤ → List ℤ → List Caller → World → Conf
act L (Load n) pc next os ls cs w = running next (get_or ls n (pos 0) ∷ os) ls cs w
act L (Store n) pc next os ls cs w = pop os w λ a os₁. running next os₁ (set ls n a) cs w
act L (GetStatic n) pc next os ls cs w = finish (global n w) λ a w₁. running next (a ∷ os) ls cs w₁
act L (PutStatic n) pc next os ls cs w = pop os w λ a os₁. finish (set_global n a w) λ _ w₁. running next os₁ ls cs w₁
act L (Const v) pc next os ls cs w = running next (v ∷ os) ls cs w
act L (Binary o) pc next os ls cs w = pop os w λ b os₁. pop os₁ w λ a os₂. finish (computed (compute o a b) w) λ v w₁. running next (v ∷ os₂) ls cs w₁
act L Negate pc next os ls cs w = pop os w λ a os₁. running next (negation a ∷ os₁) ls cs w
act L (Increment n by) pc next os ls cs w = running next os (set ls n (wrap (get_or ls n (pos 0) +ℤ by))) cs w
act L (NewArray k) pc next os ls cs w = pop os w λ n os₁. finish (new L k n w) λ r w₁. running next (r ∷ os₁) ls cs w₁
act L (ArrayLoad k) pc next os ls cs w = pop os w λ i os₁. pop os₁ w λ r os₂. finish (get_element L k r i w) λ v w₁. running next (v ∷ os₂) ls cs w₁
act L (ArrayStore k) pc next os ls cs w = pop os w λ v os₁. pop os₁ w λ i os₂. pop os₂ w λ r os₃. finish (set_element L k r i v w) λ _ w₁. running next os₃ ls cs w₁
act L ArrayLength pc next os ls cs w = pop os w λ r os₁. finish (array_length L r w) λ n w₁. running next (n ∷ os₁) ls cs w₁
act L Pop pc next os ls cs w = pop os w λ a os₁. running next os₁ ls cs w
act L Dup pc next os ls cs w = pop os w λ a os₁. running next (a ∷ os) ls cs w
act L Dup2 pc next os ls cs w = pop os w λ b os₁. pop os₁ w λ a os₂. running next (b ∷ a ∷ os) ls cs w
act L (Jump by) pc next os ls cs w = to (pos pc +ℤ by) w λ q. running q os ls cs w
act L (JumpIf r by) pc next os ls cs w = pop os w λ b os₁. pop os₁ w λ a os₂. cond (holds r a b) (to (pos pc +ℤ by) w λ q. running q os₂ ls cs w) (running next os₂ ls cs w)
act L (Call by) pc next os ls cs w = cond (ltb (words cs + (2 + length ls)) L.call) (to (pos pc +ℤ by) w λ q. entering q (caller next os ls ∷ cs) w) (halted (verdict CallStackExhausted) w)
act L Return pc next os ls cs w = wrong w
act L (Enter p l) pc next os ls cs w = wrong w
act L Exit pc next os ls cs w = leaving next os cs w
act L (Read k) pc next os ls cs w = finish (take_word w) λ v w₁. running next (kept k v ∷ os) ls cs w₁
act L (Print k) pc next os ls cs w = pop os w λ width os₁. pop os₁ w λ v os₂. finish (write (printed_as k v width) w) λ _ w₁. running next os₂ ls cs w₁
act L (Trap n) pc next os ls cs w = cond (eqb n 1) (halted (verdict MissingReturn) w) (wrong w)

-- only an `enter` makes a frame
abbrev pub entry : Limits → Instruction → ℕ → List Caller → World → Conf
entry L (Load n) next cs w = wrong w
entry L (Store n) next cs w = wrong w
entry L (GetStatic n) next cs w = wrong w
entry L (PutStatic n) next cs w = wrong w
entry L (Const v) next cs w = wrong w
entry L (Binary o) next cs w = wrong w
entry L Negate next cs w = wrong w
entry L (Increment n by) next cs w = wrong w
entry L (NewArray k) next cs w = wrong w
entry L (ArrayLoad k) next cs w = wrong w
entry L (ArrayStore k) next cs w = wrong w
entry L ArrayLength next cs w = wrong w
entry L Pop next cs w = wrong w
entry L Dup next cs w = wrong w
entry L Dup2 next cs w = wrong w
entry L (Jump by) next cs w = wrong w
entry L (JumpIf r by) next cs w = wrong w
entry L (Call by) next cs w = wrong w
entry L Return next cs w = wrong w
entry L (Enter p l) next cs w = enter L p l next cs w
entry L Exit next cs w = wrong w
entry L (Read k) next cs w = wrong w
entry L (Print k) next cs w = wrong w
entry L (Trap n) next cs w = wrong w

-- only a `return` goes back to the caller
abbrev pub departure : Instruction → List ℤ → List Caller → World → Conf
departure (Load n) os cs w = wrong w
departure (Store n) os cs w = wrong w
departure (GetStatic n) os cs w = wrong w
departure (PutStatic n) os cs w = wrong w
departure (Const v) os cs w = wrong w
departure (Binary o) os cs w = wrong w
departure Negate os cs w = wrong w
departure (Increment n by) os cs w = wrong w
departure (NewArray k) os cs w = wrong w
departure (ArrayLoad k) os cs w = wrong w
departure (ArrayStore k) os cs w = wrong w
departure ArrayLength os cs w = wrong w
departure Pop os cs w = wrong w
departure Dup os cs w = wrong w
departure Dup2 os cs w = wrong w
departure (Jump by) os cs w = wrong w
departure (JumpIf r by) os cs w = wrong w
departure (Call by) os cs w = wrong w
departure Return os cs w = returned os cs w
departure (Enter p l) os cs w = wrong w
departure Exit os cs w = wrong w
departure (Read k) os cs w = wrong w
departure (Print k) os cs w = wrong w
departure (Trap n) os cs w = wrong w

-- the instruction at each offset, and how many operands the running call holds there; no step looks at the latter
pub record Code : Type 0 where
  pub fetch : ℕ → Option Decoded
  pub height : ℕ → ℕ

abbrev pub by_fetched : Option Decoded → World → (Instruction → ℕ → Conf) → Conf
by_fetched None w go = wrong w
by_fetched (Some d) w go = go d.instruction d.size

abbrev pub advance : Code → Limits → Conf → Conf
advance M L (running pc os ls cs w) = by_fetched (M.fetch pc) w λ i n. act L i pc (pc + n) os ls cs w
advance M L (entering pc cs w) = by_fetched (M.fetch pc) w λ i n. entry L i (pc + n) cs w
advance M L (leaving pc os cs w) = by_fetched (M.fetch pc) w λ i n. departure i os cs w
advance M L (halted e w) = halted e w

abbrev pub world_of : Conf → World
world_of (running pc os ls cs w) = w
world_of (entering pc cs w) = w
world_of (leaving pc os cs w) = w
world_of (halted e w) = w
