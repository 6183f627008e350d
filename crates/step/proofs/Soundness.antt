-- A step from a sound state leads to a sound state.
use Rattle.std.proofs.Common.{◌≡◌, ℕ, zero, suc, ◌+◌, ◌-◌, ◌<◌, ◌≤◌, Bool, true, false, cond, eqb, ltb, leb, List, ◌∷◌, length, set, replicate, ℤ, pos, negsuc, ◌+ℤ◌, Some, None, Option, refl, arith, length-append, length-drop, length-set, length-take}
use lib.ListN.{length-replicate}
use lib.Signed.{lt_z}
use Rattle.std.proofs.lemmas.Bool.{ltb-true, leb-true}
use Rattle.words.specs.declared.printing.Kind.{Kind}
use Rattle.words.specs.declared.printing.Kind.TheVariants.{Int, Char}
use Rattle.outcomes.specs.declared.Verdict.TheVariants.{MissingReturn}
use Rattle.words.specs.Arithmetic.{wrap, compute, negation, holds}
use Rattle.words.specs.Bytes.{kept}
use Rattle.words.specs.Printing.{printed_as}
use Rattle.instructions.specs.declared.Decoded.{Decoded}
use Rattle.instructions.specs.declared.Instruction.{Instruction}
use Rattle.instructions.specs.declared.Instruction.TheVariants.{Load, Store, GetStatic, PutStatic, Const, Binary, Negate, Increment, NewArray, ArrayLoad, ArrayStore, ArrayLength, Pop, Dup, Dup2, Jump, JumpIf, Call, Return, Enter, Exit, Read, Print, Trap}
use Rattle.step.specs.State.{State, Step, takes, writes, ends, at, with_operand, with_heap, with_call, with_data}
use Rattle.step.specs.Stacks.{illegal, word_at, go_to, pushed, push, pop, inside, local}
use Rattle.step.specs.Arrays.{over, array_words, length_word, not_null, not_negative, element, element_in, with_element, new_array}
use Rattle.step.specs.Calls.{call, return_to, frame_words, entered, enter}
use Rattle.step.specs.Perform.{result, perform, fetched, performed, step}
use Rattle.step.specs.Sound.{Sound}
use Rattle.step.specs.Laws.{Keeps}

if_keeps : (b : Bool) (x y : Step) → (b ≡ true → Keeps x) → Keeps y → Keeps (cond b x y)
if_keeps true x y f g = f refl
if_keeps false x y f g = g

length_over : (xs ws : List ℤ) (i : ℕ) → i + length ws ≤ length xs → length (over xs i ws) ≡ length xs
length_over xs ws i h = simp (length-append, length-take, length-drop) (omega arith)

elsewhere : (pc : ℤ) (s : State) → Sound s → Sound (at pc s)
elsewhere pc s k = record { height = k.height; top = k.top; free = k.free; call_short = k.call_short; heap_short = k.heap_short }

push_sound : (w : ℤ) (s : State) → Sound s → s.registers.height < length s.operand → Sound (pushed w s)
push_sound w s k h = record { height = simp length-set (omega arith); top = k.top; free = k.free; call_short = k.call_short; heap_short = k.heap_short }

pop_sound : (n : ℕ) (s : State) → Sound s → n ≤ s.registers.height → Sound (with_operand n s.operand s)
pop_sound n s k h = record { height = omega (arith, k.height); top = k.top; free = k.free; call_short = k.call_short; heap_short = k.heap_short }

call_sound : (f : ℤ) (n : ℕ) (c : List ℤ) (s : State) → Sound s → length c ≡ length s.call → n ≤ length s.call → Sound (with_call f n c s)
call_sound f n c s k e h = record { height = k.height; top = omega arith; free = k.free; call_short = omega (arith, k.call_short); heap_short = k.heap_short }

heap_sound : (n : ℕ) (m : List ℤ) (s : State) → Sound s → length m ≡ length s.heap → n ≤ length s.heap → Sound (with_heap n m s)
heap_sound n m s k e h = record { height = k.height; top = k.top; free = omega arith; call_short = k.call_short; heap_short = omega (arith, k.heap_short) }

data_sound : (d : List ℤ) (s : State) → Sound s → Sound (with_data d s)
data_sound d s k = record { height = k.height; top = k.top; free = k.free; call_short = k.call_short; heap_short = k.heap_short }

push_keeps : (w : ℤ) (s : State) (go : State → Step) → Sound s → ((t : State) → Sound t → Keeps (go t)) → Keeps (push w s go)
push_keeps w s go k f = if_keeps (ltb s.registers.height (length s.operand)) _ _ (λ e. f (pushed w s) (push_sound w s k (ltb-true _ _ e))) tt

pop_keeps : (s : State) (go : ℤ → State → Step) → Sound s → ((w : ℤ) (t : State) → Sound t → Keeps (go w t)) → Keeps (pop s go)
pop_keeps s go k f = if_keeps (ltb 0 s.registers.height) _ _ (λ e. f _ (with_operand (s.registers.height - 1) s.operand s) (pop_sound (s.registers.height - 1) s k (omega arith))) tt

pops_two_keep : (s : State) (go : ℤ → ℤ → State → Step) → Sound s → ((b a : ℤ) (u : State) → Sound u → Keeps (go b a u)) → Keeps (pop s λ b t. pop t λ a u. go b a u)
pops_two_keep s go k f = pop_keeps s (λ b t. pop t λ a u. go b a u) k λ b t m. pop_keeps t (go b) m (f b)

inside_keeps : (z : ℤ) (size : ℕ) (go : ℕ → Step) → ((i : ℕ) → i < size → Keeps (go i)) → Keeps (inside z size go)
inside_keeps (pos i) size go f = if_keeps (ltb i size) _ _ (λ e. f i (ltb-true i size e)) tt
inside_keeps (negsuc i) size go f = tt

local_keeps : (n : ℕ) (s : State) (go : ℕ → Step) → ((i : ℕ) → i < length s.call → Keeps (go i)) → Keeps (local n s go)
local_keeps n s go f = inside_keeps (s.registers.frame +ℤ pos n) (length s.call) go f

result_keeps : (o : Option ℤ) (go : ℤ → Step) → ((w : ℤ) → Keeps (go w)) → Keeps (result o go)
result_keeps None go f = tt
result_keeps (Some w) go f = f w

null_keeps : (z : ℤ) (go : Step) → Keeps go → Keeps (not_null z go)
null_keeps (pos zero) go f = tt
null_keeps (pos (suc i)) go f = f
null_keeps (negsuc i) go f = f

negative_keeps : (z : ℤ) (go : ℕ → Step) → ((i : ℕ) → Keeps (go i)) → Keeps (not_negative z go)
negative_keeps (pos i) go f = f i
negative_keeps (negsuc i) go f = tt

length_keeps : (z : ℤ) (free : ℕ) (go : ℕ → Step) → ((i : ℕ) → Keeps (go i)) → Keeps (length_word z free go)
length_keeps (pos i) free go f = if_keeps (ltb i free) _ _ (λ e. f i) tt
length_keeps (negsuc i) free go f = tt

element_keeps : (kind : Kind) (a i : ℤ) (free : ℕ) (heap : List ℤ) (go : ℕ → ℕ → Step) → ((w j : ℕ) → Keeps (go w j)) → Keeps (element kind a i free heap go)
element_keeps kind a i free heap go f =
    null_keeps a _ (negative_keeps i _ λ j. length_keeps a free _ λ r. if_keeps (lt_z (pos j) (word_at heap r)) _ _ (λ _. if_keeps (ltb _ free) _ _ (λ _. f _ j) tt) tt)

some_words : (kind : Kind) (n : ℕ) → 1 ≤ array_words kind n
some_words Int n = omega arith
some_words Char n = omega arith

array_keeps : (kind : Kind) (n : ℤ) (s : State) (go : ℤ → State → Step) → Sound s → ((w : ℤ) (t : State) → Sound t → Keeps (go w t)) → Keeps (new_array kind n s go)
array_keeps kind (negsuc n) s go k f = tt
array_keeps kind (pos n) s go k f =
    if_keeps (leb (s.registers.free + array_words kind n) (length s.heap)) _ _
    (λ e.
    let fits : s.registers.free + array_words kind n ≤ length s.heap = leb-true _ _ e in
    f _ _ (heap_sound _ _ s k (length_over s.heap (pos n ∷ replicate (array_words kind n - 1) (pos 0)) s.registers.free (simp length-replicate (omega (arith, some_words kind n)))) fits))
    tt

call_keeps : (target next : ℤ) (s : State) → Sound s → Keeps (call target next s)
call_keeps target next s k =
    if_keeps (ltb s.registers.top (length s.call)) _ _
    (λ e. let lt : s.registers.top < length s.call = ltb-true _ _ e in elsewhere target _ (call_sound _ _ _ s k (length-set s.call s.registers.top next) (omega arith)))
    tt

return_keeps : (w : ℤ) (s : State) → Sound s → Keeps (return_to w s)
return_keeps (pos pc) s k = elsewhere (pos pc) _ (call_sound _ _ _ s k refl (omega (arith, k.top)))
return_keeps (negsuc zero) s k = tt
return_keeps (negsuc (suc n)) s k = elsewhere (negsuc (suc n)) _ (call_sound _ _ _ s k refl (omega (arith, k.top)))

entered_sound : (parameters locals : ℕ) (s : State) → Sound s → parameters ≤ locals → s.registers.top + 1 + locals ≤ length s.call → parameters ≤ s.registers.height → Sound (entered parameters locals s)
entered_sound parameters locals s k few fits there =
    let long : length (frame_words parameters locals s) ≡ 1 + locals = simp (length-append, length-take, length-drop, length-replicate) (omega (arith, k.height)) in
    pop_sound (s.registers.height - parameters) _ (call_sound _ _ _ s k (length_over s.call (frame_words parameters locals s) s.registers.top (omega arith)) fits) (omega arith)

enter_keeps : (parameters locals : ℕ) (next : ℤ) (s : State) → Sound s → Keeps (enter parameters locals next s)
enter_keeps parameters locals next s k =
    if_keeps (leb parameters locals) _ _
    (λ few.
    if_keeps (leb (s.registers.top + 1 + locals) (length s.call)) _ _
    (λ fits.
    if_keeps (leb parameters s.registers.height) _ _
    (λ there.
    if_keeps (leb (s.registers.height - parameters + 32) (length s.operand)) _ _
    (λ _. elsewhere next _ (entered_sound parameters locals s k (leb-true _ _ few) (leb-true _ _ fits) (leb-true _ _ there)))
    tt)
    tt)
    tt)
    tt

perform_keeps : (i : Instruction) (next : ℤ) (s : State) → Sound s → Keeps (perform i next s)
perform_keeps (Load n) next s k =
    local_keeps n s (λ i. push (word_at s.call i) s (go_to next)) λ i lt. push_keeps (word_at s.call i) s (go_to next) k (elsewhere next)
perform_keeps (Store n) next s k =
    let go : ℕ → ℤ → State → Step = λ i w t. go_to next (with_call t.registers.frame t.registers.top (set t.call i w) t) in
    local_keeps n s (λ i. pop s (go i)) λ i lt. pop_keeps s (go i) k λ w t m. elsewhere next _ (call_sound _ _ _ t m (length-set t.call i w) m.top)
perform_keeps (GetStatic n) next s k =
    inside_keeps (pos n) (length s.datas) (λ i. push (word_at s.datas i) s (go_to next)) λ i lt. push_keeps (word_at s.datas i) s (go_to next) k (elsewhere next)
perform_keeps (PutStatic n) next s k =
    let go : ℕ → ℤ → State → Step = λ i w t. go_to next (with_data (set t.datas i w) t) in
    inside_keeps (pos n) (length s.datas) (λ i. pop s (go i)) λ i lt. pop_keeps s (go i) k λ w t m. elsewhere next _ (data_sound _ t m)
perform_keeps (Const w) next s k = push_keeps w s (go_to next) k (elsewhere next)
perform_keeps (Binary o) next s k =
    pops_two_keep s (λ b a u. result (compute o a b) λ w. push w u (go_to next)) k λ b a u m. result_keeps (compute o a b) (λ w. push w u (go_to next)) λ w. push_keeps w u (go_to next) m (elsewhere next)
perform_keeps Negate next s k = pop_keeps s (λ a t. push (negation a) t (go_to next)) k λ a t m. push_keeps (negation a) t (go_to next) m (elsewhere next)
perform_keeps (Increment n by) next s k =
    local_keeps n s (λ i. go_to next (with_call s.registers.frame s.registers.top (set s.call i (wrap (word_at s.call i +ℤ by))) s))
    λ i lt. elsewhere next _ (call_sound _ _ _ s k (length-set s.call i _) k.top)
perform_keeps (NewArray kind) next s k =
    let go : ℤ → State → Step = λ w u. push w u (go_to next) in
    pop_keeps s (λ n t. new_array kind n t go) k λ n t m. array_keeps kind n t go m λ w u o. push_keeps w u (go_to next) o (elsewhere next)
perform_keeps (ArrayLoad kind) next s k =
    let go : State → ℕ → ℕ → Step = λ u w j. push (element_in kind j (word_at u.heap w)) u (go_to next) in
    pops_two_keep s (λ i a u. element kind a i u.registers.free u.heap (go u)) k λ i a u m. element_keeps kind a i _ _ (go u) λ w j. push_keeps (element_in kind j (word_at u.heap w)) u (go_to next) m (elsewhere next)
perform_keeps (ArrayStore kind) next s k =
    let go : ℤ → State → ℕ → ℕ → Step = λ v x w j. go_to next (with_heap x.registers.free (set x.heap w (with_element kind j v (word_at x.heap w))) x) in
    pops_two_keep s (λ v i u. pop u λ a x. element kind a i x.registers.free x.heap (go v x)) k
    λ v i u m. pop_keeps u (λ a x. element kind a i x.registers.free x.heap (go v x)) m
    λ a x o. element_keeps kind a i _ _ (go v x) λ w j. elsewhere next _ (heap_sound _ _ x o (length-set x.heap w _) o.free)
perform_keeps ArrayLength next s k =
    let go : State → ℕ → Step = λ t r. push (word_at t.heap r) t (go_to next) in
    pop_keeps s (λ a t. not_null a (length_word a t.registers.free (go t))) k λ a t m. null_keeps a _ (length_keeps a t.registers.free (go t) λ r. push_keeps (word_at t.heap r) t (go_to next) m (elsewhere next))
perform_keeps Pop next s k = pop_keeps s (λ w t. go_to next t) k λ w t. elsewhere next t
perform_keeps Dup next s k = pop_keeps s (λ w t. push w s (go_to next)) k λ w t m. push_keeps w s (go_to next) k (elsewhere next)
perform_keeps Dup2 next s k =
    pops_two_keep s (λ b a u. push a s λ x. push b x (go_to next)) k λ b a u m. push_keeps a s (λ x. push b x (go_to next)) k λ x o. push_keeps b x (go_to next) o (elsewhere next)
perform_keeps (Jump by) next s k = elsewhere _ s k
perform_keeps (JumpIf r by) next s k = pops_two_keep s (λ b a u. go_to (cond (holds r a b) (s.registers.pc +ℤ by) next) u) k λ b a u. elsewhere _ u
perform_keeps (Call by) next s k = call_keeps (s.registers.pc +ℤ by) next s k
perform_keeps Return next s k = if_keeps (ltb 0 s.registers.top) (return_to (word_at s.call (s.registers.top - 1)) s) illegal (λ _. return_keeps (word_at s.call (s.registers.top - 1)) s k) tt
perform_keeps (Enter parameters locals) next s k = enter_keeps parameters locals next s k
perform_keeps Exit next s k =
    inside_keeps (s.registers.frame +ℤ negsuc 0) (length s.call) (λ i. go_to next (with_call (word_at s.call i) i s.call s))
    λ i lt. elsewhere next _ (call_sound (word_at s.call i) i s.call s k refl (omega arith))
perform_keeps (Read kind) next s k =
    if_keeps (ltb s.registers.height (length s.operand)) (takes (λ w. at next (pushed (kept kind w) s))) illegal (λ e w. elsewhere next _ (push_sound (kept kind w) s k (ltb-true _ _ e))) tt
perform_keeps (Print kind) next s k = pops_two_keep s (λ w v u. writes (printed_as kind v w) (at next u)) k λ w v u. elsewhere next u
perform_keeps (Trap n) next s k = if_keeps (eqb n 1) (ends MissingReturn) illegal (λ _. tt) tt

performed_keeps : (o : Option Decoded) (s : State) → Sound s → Keeps (performed o s)
performed_keeps None s k = tt
performed_keeps (Some d) s k = perform_keeps d.instruction _ s k

pub step_keeps : (code : List ℕ) (s : State) → Sound s → Keeps (step code s)
unfolding step
step_keeps code s k = performed_keeps (fetched code s.registers.pc) s k
