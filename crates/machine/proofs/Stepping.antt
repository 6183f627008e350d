-- One turn more: the steps of a run, and what it exchanges with its console.
use Rattle.std.proofs.Common.{◌≡◌, ℕ, ◌+◌, ◌-◌, ◌<◌, ◌≤◌, Bool, true, false, cond, leb, List, [], ◌∷◌, ◌++◌, length, ℤ, Ok, Err, Result, sym, refl, ap, ◌∙◌, subst, append_assoc, append-nil, add-one, arith, length-append}
use Rattle.std.proofs.lemmas.Bool.{leb-true}
use Rattle.outcomes.specs.declared.Pause.{Pause}
use Rattle.outcomes.specs.declared.Pause.TheVariants.{Budget, Input, Output}
use Rattle.outcomes.specs.declared.Verdict.{Verdict}
use Rattle.step.specs.State.{State, Step, moves, takes, writes, ends}
use Rattle.step.specs.declared.registers.Effect.{Effect}
use Rattle.step.specs.declared.registers.Effect.TheVariants.{Moved, Takes, Writes}
use Rattle.step.specs.Perform.{step}
use Rattle.std.specs.Borrow.{MutBor}
use Rattle.step.specs.Loans.{SameStore}
use Rattle.step.specs.Promises.{SameLoans, Did, state_of}
use Rattle.step.specs.declared.interpreter.Interpreter.{Interpreter}
use Rattle.outcomes.specs.declared.Stop.{Stop}
use Rattle.outcomes.specs.declared.Stop.TheVariants.{Ended, Paused}
use Rattle.machine.specs.Runs.{View, view, Scene, scene, goes, pauses, stops, with_word, turn_of, turn, made, onward, after, Exchanged, Led}
use Rattle.machine.specs.Turns.{Turned, step_of, Wanted, Halted}

no_pause : {P : Type 0} (p : Pause) (t : Scene) → pauses p ≡ goes t → P
no_pause p t e = let z : ◌≡◌ {A = ℕ} 0 1 = cc in absurd (omega arith)

no_stop : {P : Type 0} (v : Verdict) (t : Scene) → stops v ≡ goes t → P
no_stop v t e = let z : ◌≡◌ {A = ℕ} 0 1 = cc in absurd (omega arith)

same_scene : (s t : Scene) → goes s ≡ goes t → s ≡ t
same_scene s t e = cc

-- no turn says that the budget is spent
never_word : {P : Type 0} (f : ℤ → State) (v : View) (ws : List ℤ) → with_word f v ws ≡ pauses Budget → P
never_word f v [] e = let z : ◌≡◌ {A = ℕ} 0 1 = cc in absurd (omega arith)
never_word f v (w ∷ ws) e = no_pause Budget _ (sym e)

never_bytes : {P : Type 0} (b : Bool) (s : Scene) → cond b (goes s) (pauses Output) ≡ pauses Budget → P
never_bytes true s e = no_pause Budget _ (sym e)
never_bytes false s e = let z : ◌≡◌ {A = ℕ} 0 1 = cc in absurd (omega arith)

never_spent : {P : Type 0} (x : Step) (v : View) → turn_of x v ≡ pauses Budget → P
never_spent (moves s) v e = no_pause Budget _ (sym e)
never_spent (takes f) v e = never_word f v v.waiting e
never_spent (writes bytes s) v e = never_bytes (leb (length bytes) v.room) _ e
never_spent (ends verdict) v e = let z : ◌≡◌ {A = ℕ} 0 1 = cc in absurd (omega arith)

-- what is exchanged

pub nothing_exchanged : (v : View) → Exchanged v v
nothing_exchanged v = record { words = []; bytes = []; taken = refl; put = sym (append-nil v.written); left = omega arith }

pub in_turn : (v u w : View) → Exchanged v u → Exchanged u w → Exchanged v w
in_turn v u w a b = record {
  words = a.words ++ b.words;
  bytes = a.bytes ++ b.bytes;
  taken = a.taken ∙ ap (λ l. a.words ++ l) b.taken ∙ sym (append_assoc a.words b.words w.waiting);
  put = b.put ∙ ap (λ l. l ++ b.bytes) a.put ∙ append_assoc v.written a.bytes b.bytes;
  left = simp length-append (omega (arith, a.left, b.left));
}

at_scene : (v : View) (s t : Scene) → goes s ≡ goes t → Exchanged v s.console → Exchanged v t.console
at_scene v s t e x = subst (λ (y : Scene). Exchanged v y.console) (same_scene s t e) x

word_exchanged : (f : ℤ → State) (v : View) (ws : List ℤ) (t : Scene) → v.waiting ≡ ws → with_word f v ws ≡ goes t → Exchanged v t.console
word_exchanged f v [] t q e = no_pause Input t e
word_exchanged f v (w ∷ ws) t q e =
    at_scene v (scene (f w) (view ws v.written v.room)) t e
    (record { words = w ∷ []; bytes = []; taken = q; put = sym (append-nil v.written); left = omega arith })

bytes_exchanged : (bytes : List ℕ) (s : State) (v : View) (t : Scene) (b : Bool) → leb (length bytes) v.room ≡ b → cond b (goes (scene s (view v.waiting (v.written ++ bytes) (v.room - length bytes)))) (pauses Output) ≡ goes t → Exchanged v t.console
bytes_exchanged bytes s v t true q e =
    at_scene v (scene s (view v.waiting (v.written ++ bytes) (v.room - length bytes))) t e
    (record { words = []; bytes = bytes; taken = refl; put = refl; left = omega (arith, leb-true (length bytes) v.room q) })
bytes_exchanged bytes s v t false q e = no_pause Output t e

step_exchanged : (x : Step) (v : View) (t : Scene) → turn_of x v ≡ goes t → Exchanged v t.console
step_exchanged (moves s) v t e = at_scene v (scene s v) t e (nothing_exchanged v)
step_exchanged (takes f) v t e = word_exchanged f v v.waiting t refl e
step_exchanged (writes bytes s) v t e = bytes_exchanged bytes s v t (leb (length bytes) v.room) refl e
step_exchanged (ends verdict) v t e = no_stop verdict t e

-- runs

pub led_none : (code : List ℕ) (s : Scene) → Led code 0 s s
unfolding after
led_none code s = record { steps = refl; exchanged = nothing_exchanged s.console }

pub led_more : (code : List ℕ) (n : ℕ) (from mid to : Scene) → Led code n from mid → turn code mid ≡ goes to → Led code (n + 1) from to
unfolding after
led_more code n from mid to l e = record {
  steps = ap (λ k. after k code from) (add-one n) ∙ ap (onward code) l.steps ∙ ap made e;
  exchanged = in_turn from.console mid.console to.console l.exchanged (step_exchanged (step code mid.state) mid.console to e);
}

-- a turn that halts leaves the scene as it was
pub halts : (stop : Stop) (code : List ℕ) (budget n : ℕ) (before last : Scene) → n < budget → Turned (Err stop) (turn code before) before last → Halted stop code budget n last × (last ≡ before)
halts (Ended verdict) code budget n before last lt t = ((lt, ap (turn code) t.1 ∙ t.0), t.1)
halts (Paused Budget) code budget n before last lt t = never_spent (step code before.state) before.console t.0
halts (Paused Input) code budget n before last lt t = ((lt, ap (turn code) t.1 ∙ t.0), t.1)
halts (Paused Output) code budget n before last lt t = ((lt, ap (turn code) t.1 ∙ t.0), t.1)

-- a step and its exchange make a turn
pub did_turn : (o : Result (Unit {0}) Stop) (effect : Effect) (code : List ℕ) (s t : State) (v : View) (last : Scene) → Did (Ok effect) (step code s) s t → Turned o (turn_of (step_of effect t) v) (scene t v) last → Turned o (turn code (scene s v)) (scene s v) last
did_turn (Ok _) Moved code s t v last d h = ap (λ (x : Step). turn_of x v) d ∙ h
did_turn (Err (Ended verdict)) Moved code s t v last d h = no_stop verdict _ (sym h.0)
did_turn (Err (Paused pause)) Moved code s t v last d h = no_pause pause _ (sym h.0)
did_turn o (Takes kind next) code s t v last d h =
    let P : State → Type 0 = λ x. Turned o (turn_of (step_of (Takes kind next) x) v) (scene x v) last in
    let Q : Step → Type 0 = λ x. Turned o (turn_of x v) (scene s v) last in
    subst Q (sym d.0) (subst P d.2 h)
did_turn o (Writes kind value width next) code s t v last d h =
    let P : State → Type 0 = λ x. Turned o (turn_of (step_of (Writes kind value width next) x) v) (scene x v) last in
    let Q : Step → Type 0 = λ x. Turned o (turn_of x v) (scene s v) last in
    subst Q (sym d.0) (subst P d.2 h)

pub did_want : (effect : Effect) (x : Step) (s : State) (j : Interpreter) → Did (Ok effect) x s (state_of j) → Wanted effect j
did_want Moved x s j d = tt
did_want (Takes kind next) x s j d = subst (λ (y : State). y.registers.height < length y.operand) (sym d.2) d.1
did_want (Writes kind value width next) x s j d = subst (λ (y : State). 2 ≤ y.registers.height) (sym d.2) d.1

-- stores that stay the ones that were lent

pub same_store_on : (s t u : MutBor (List ℤ)) → SameStore s t → SameStore t u → SameStore s u
same_store_on s t u a b = record { name = b.name ∙ a.name; long = b.long ∙ a.long }

pub same_loans_on : (i j k : Interpreter) → SameLoans i j → SameLoans j k → SameLoans i k
same_loans_on i j k a b = record {
  code = b.code ∙ a.code;
  datas = same_store_on _ _ _ a.datas b.datas;
  heap = same_store_on _ _ _ a.heap b.heap;
  call = same_store_on _ _ _ a.call b.call;
  operand = same_store_on _ _ _ a.operand b.operand;
}
