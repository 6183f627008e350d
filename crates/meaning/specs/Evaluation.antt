-- What each form of a program does. A loop is followed for k turns and calls to a depth of k: what lies beyond is cut off.
use Rattle.std.specs.Prelude.{ℕ, zero, suc, ◌+◌, Bool, true, false, List, [], ◌∷◌, ◌++◌, length, replicate, ℤ, pos, Some, None, Option, nat_le, slice_index_or, slice_set}
use Rattle.std.specs.List.{slice_get}
use Rattle.outcomes.specs.declared.Verdict.TheVariants.{MissingReturn, DivisionByZero, CallStackExhausted, OperandStackExhausted}
use Rattle.words.specs.declared.arithmetic.Operator.{Operator}
use Rattle.words.specs.declared.arithmetic.Operator.TheVariants.{Add, Subtract}
use Rattle.words.specs.declared.printing.Kind.{Kind}
use Rattle.words.specs.Arithmetic as words
use Rattle.words.specs.Bytes.{kept}
use Rattle.words.specs.Printing.{printed_as}
use Rattle.program.specs.declared.Direction.{Direction}
use Rattle.program.specs.declared.Direction.TheVariants.{Up, Down}
use Rattle.program.specs.declared.Variable.{Variable}
use Rattle.program.specs.declared.Variable.TheVariants.{Local, Global}
use Rattle.program.specs.Core.{Value, constant, load, load_element, negate, binary, new_array, length_of, convert, result, Values, no_values, and_value, Comparison, compare, Conjunction, single, both, Condition, only, either, Target, variable, element, Action, assign, step, read, print, invoke, discard, when, choose, while, break, return, give, block, nothing, Actions, no_actions, and_then, Method}
use Rattle.meaning.specs.World.{Limits, done, cut, Work, ◌>>=◌, fails, take_word, write, global, set_global, get_element, set_element, array_length, new}

-- what a call of a method does, by its number: on the arguments, the values pending in all callers, and the words of all calls
abbrev pub Calls : Type 0
Calls = ℕ → List ℤ → ℕ → ℕ → Work ℤ

-- where something is worked out
pub record Site : Type 0 where
  pub limits : Limits
  pub calls : Calls
  pub locals : List ℤ
  -- values that are worked out and not yet used, in all calls
  pub pending : ℕ
  -- the words of all calls
  pub occupied : ℕ

abbrev pub holding : ℕ → Site → Site
holding n s = record { limits = s.limits; calls = s.calls; locals = s.locals; pending = s.pending + n; occupied = s.occupied }

abbrev pub with_locals : List ℤ → Site → Site
with_locals l s = record { limits = s.limits; calls = s.calls; locals = l; pending = s.pending; occupied = s.occupied }

abbrev pub get : Variable → Site → Work ℤ
get (Local n) s = done (slice_index_or s.locals n (pos 0))
get (Global n) s = global n

-- a divisor of 0 has no result
abbrev pub computed : Option ℤ → Work ℤ
computed None = fails DivisionByZero
computed (Some v) = done v

-- `chr` and `ord` keep the word
abbrev pub converted : Kind → ℤ → ℤ
converted k v = v

-- operands, arguments, and an element's array and index are worked out left to right; what is worked out first is pending meanwhile
abbrev mutual
  pub evaluate : Value → Site → Work ℤ
  evaluate (constant n) s = done (pos n)
  evaluate (load x) s = get x s
  evaluate (load_element k x v) s = do
    r ← get x s
    i ← evaluate v (holding 1 s)
    get_element s.limits k r i
  evaluate (negate v) s = do
    a ← evaluate v s
    done (words.negation a)
  evaluate (binary o v u) s = do
    a ← evaluate v s
    b ← evaluate u (holding 1 s)
    computed (words.compute o a b)
  evaluate (new_array k v) s = do
    n ← evaluate v s
    new s.limits k n
  evaluate (length_of v) s = do
    r ← evaluate v s
    array_length s.limits r
  evaluate (convert k v) s = do
    a ← evaluate v s
    done (converted k a)
  evaluate (result m vs) s = do
    vs₁ ← evaluate_all vs s
    s.calls m vs₁ s.pending s.occupied

  pub evaluate_all : Values → Site → Work (List ℤ)
  evaluate_all no_values s = done []
  evaluate_all (and_value v vs) s = do
    a ← evaluate v s
    rest ← evaluate_all vs (holding 1 s)
    done (a ∷ rest)

abbrev pub holds : Comparison → Site → Work Bool
holds (compare r v u) s = do
  a ← evaluate v s
  b ← evaluate u (holding 1 s)
  done (words.holds r a b)

abbrev pub choice : {A : Type 0} → Bool → Work A → Work A → Work A
choice true go other = go
choice false go other = other

-- && stops at the first comparison that does not hold
abbrev pub holds_all : Conjunction → Site → Work Bool
holds_all (single c) s = holds c s
holds_all (both c k) s = do
  b ← holds c s
  choice b (holds_all k s) (done false)

-- || stops at the first term that holds
abbrev pub satisfied : Condition → Site → Work Bool
satisfied (only k) s = holds_all k s
satisfied (either k c) s = do
  b ← holds_all k s
  choice b (done true) (satisfied c s)

-- how a statement is left: it goes on with these locals, breaks out of a loop, or returns from its method
pub data Flow : Type 0 where
  goes broke : List ℤ → Flow
  returned : ℤ → Flow

abbrev pub put : Variable → ℤ → Site → Work Flow
put (Local n) v s = done (goes (slice_set s.locals n v))
put (Global n) v s = do
  _ ← set_global n v
  done (goes s.locals)

-- a target is a variable, or an element whose array and index are worked out first and pending while the value is worked out
abbrev pub store : Target → Site → (Site → Work ℤ) → Work Flow
store (variable x) s value = do
  v ← value s
  put x v s
store (element k x u) s value = do
  r ← get x s
  i ← evaluate u (holding 1 s)
  v ← value (holding 2 s)
  _ ← set_element s.limits k r i v
  done (goes s.locals)

abbrev pub stepped : Direction → Operator
stepped Up = Add
stepped Down = Subtract

-- an element is tested once, when it is read
abbrev pub step_by_one : Direction → Target → Site → Work Flow
step_by_one d (variable x) s = do
  a ← get x s
  v ← computed (words.compute (stepped d) a (pos 1))
  put x v s
step_by_one d (element k x u) s = do
  r ← get x s
  i ← evaluate u (holding 1 s)
  a ← get_element s.limits k r i
  v ← computed (words.compute (stepped d) a (pos 1))
  _ ← set_element s.limits k r i v
  done (goes s.locals)

-- a word read into a char keeps its low 8 bits
abbrev pub read_word : Kind → Site → Work ℤ
read_word k s = do
  v ← take_word
  done (kept k v)

-- statements go in order
abbrev pub on : Flow → (List ℤ → Work Flow) → Work Flow
on (goes l) go = go l
on (broke l) go = done (broke l)
on (returned v) go = done (returned v)

-- after a turn of a loop
abbrev pub again : Flow → (List ℤ → Work Flow) → Work Flow
again (goes l) go = go l
again (broke l) go = done (goes l)
again (returned v) go = done (returned v)

abbrev pub loop : ℕ → (List ℤ → Work Bool) → (List ℤ → Work Flow) → List ℤ → Work Flow
loop zero test turn l = cut
loop (suc k) test turn l = do
  b ← test l
  choice b (turn l >>= λ f. again f (loop k test turn)) (done (goes l))

abbrev mutual
  pub perform : Action → ℕ → Site → Work Flow
  perform (assign t v) k s = store t s (evaluate v)
  perform (step d t) k s = step_by_one d t s
  perform (read j t) k s = store t s (read_word j)
  perform (print j v width) k s = do
    a ← evaluate v s
    _ ← write (printed_as j a (pos width))
    done (goes s.locals)
  perform (invoke m vs) k s = do
    _ ← evaluate (result m vs) s
    done (goes s.locals)
  perform (discard m vs) k s = do
    _ ← evaluate (result m vs) s
    done (goes s.locals)
  perform (when c a) k s = do
    b ← satisfied c s
    choice b (perform a k s) (done (goes s.locals))
  perform (choose c a e) k s = do
    b ← satisfied c s
    choice b (perform a k s) (perform e k s)
  perform (while c a) k s = loop k (λ l. satisfied c (with_locals l s)) (λ l. perform a k (with_locals l s)) s.locals
  perform break k s = done (broke s.locals)
  perform return k s = done (returned (pos 0))
  perform (give v) k s = do
    a ← evaluate v s
    done (returned a)
  perform (block bs) k s = perform_all bs k s
  perform nothing k s = done (goes s.locals)

  pub perform_all : Actions → ℕ → Site → Work Flow
  perform_all no_actions k s = done (goes s.locals)
  perform_all (and_then a bs) k s = do
    f ← perform a k s
    on f (λ l. perform_all bs k (with_locals l s))

-- a function has to be left by a return; a void method need not
abbrev pub at_end : Option Kind → Work ℤ
at_end None = done (pos 0)
at_end (Some k) = fails MissingReturn

abbrev pub left : Option Kind → Flow → Work ℤ
left r (goes l) = at_end r
left r (broke l) = at_end r
left r (returned v) = done v

abbrev pub frame : Method → List ℤ → List ℤ
frame m vs = vs ++ replicate (length m.locals) (pos 0)

-- a call occupies 2 words and one for each parameter and local until it returns; then 32 values more must find a place beside those pending in all callers
abbrev pub enter : Option Method → Limits → ℕ → Calls → List ℤ → ℕ → ℕ → Work ℤ
enter None L k f vs q u = fails L.stray
enter (Some m) L k f vs q u =
    choice (nat_le (u + (2 + (length m.parameters + length m.locals))) L.call)
    (choice (nat_le (q + 32) L.operand)
    (perform_all m.body k (record { limits = L; calls = f; locals = frame m vs; pending = q; occupied = u + (2 + (length m.parameters + length m.locals)) }) >>= left m.result)
    (fails OperandStackExhausted))
    (fails CallStackExhausted)

abbrev pub calls : Limits → List Method → ℕ → Calls
calls L ms zero m vs q u = cut
calls L ms (suc k) m vs q u = enter (slice_get ms m) L k (calls L ms k) vs q u
