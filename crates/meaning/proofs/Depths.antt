-- What is known at a depth stays known at a greater one.
use Rattle.std.proofs.Common.{ℕ, zero, suc, ◌+◌, ◌≤◌, Bool, true, false, leb, List, length, ℤ, pos, Some, None, Option, arith}
use Rattle.std.specs.List.{slice_get}
use Rattle.words.specs.declared.printing.Kind.{Kind}
use Rattle.words.specs.Arithmetic as words
use Rattle.words.specs.Bytes.{kept}
use Rattle.program.specs.declared.Direction.{Direction}
use Rattle.program.specs.declared.Variable.{Variable}
use Rattle.program.specs.declared.Variable.TheVariants.{Local, Global}
use Rattle.program.specs.Core.{Value, constant, load, load_element, negate, binary, new_array, length_of, convert, result, Values, no_values, and_value, Comparison, compare, Conjunction, single, both, Condition, only, either, Target, variable, element, Action, assign, step, read, print, invoke, discard, when, choose, while, break, return, give, block, nothing, Actions, no_actions, and_then, Method}
use Rattle.meaning.specs.World.{World, Limits, done, Work, ◌>>=◌}
use Rattle.meaning.specs.Evaluation.{Calls, Site, get, evaluate, evaluate_all, holds, holds_all, satisfied, Flow, goes, broke, returned, put, store, stepped, step_by_one, read_word, choice, on, again, loop, perform, perform_all, at_end, left, frame, enter, calls}
use Rattle.meaning.proofs.Logs.{Before, same}
use Rattle.meaning.proofs.Growing.{log_of, Follows, cut_grows, itself, done_follows, fails_follows, then_follows, choice_follows, itself_follows}
use Rattle.meaning.proofs.Operations.{take_word_follows, write_follows, global_follows, set_global_follows, computed_follows, get_element_follows, set_element_follows, array_length_follows, new_follows}

abbrev CallsFollow : Calls → Calls → Type 0
CallsFollow f g = (m : ℕ) (vs : List ℤ) (q u : ℕ) → Follows (f m vs q u) (g m vs q u)

on_follows : (f : Flow) {x y : List ℤ → Work Flow} → ((l : List ℤ) → Follows (x l) (y l)) → Follows (on f x) (on f y)
on_follows (goes l) h = h l
on_follows (broke l) h = done_follows _
on_follows (returned v) h = done_follows _

again_follows : (f : Flow) {x y : List ℤ → Work Flow} → ((l : List ℤ) → Follows (x l) (y l)) → Follows (again f x) (again f y)
again_follows (goes l) h = h l
again_follows (broke l) h = done_follows _
again_follows (returned v) h = done_follows _

module _ (test test₁ : List ℤ → Work Bool) (turn turn₁ : List ℤ → Work Flow) (tests : (l : List ℤ) → Follows (test l) (test₁ l)) (turns : (l : List ℤ) → Follows (turn l) (turn₁ l)) where
  turned : (x y : List ℤ → Work Flow) → ((l : List ℤ) → Follows (x l) (y l)) → (l : List ℤ) →
      Follows (test l >>= λ b. choice b (turn l >>= λ f. again f x) (done (goes l))) (test₁ l >>= λ b. choice b (turn₁ l >>= λ f. again f y) (done (goes l)))
  turned x y h l = then_follows (tests l) λ b. choice_follows b (then_follows (turns l) λ f. again_follows f h) (done_follows _)

module _ (test test₁ : List ℤ → Work Bool) (turn turn₁ : List ℤ → Work Flow) (tests : (l : List ℤ) → Follows (test l) (test₁ l)) (turns : (l : List ℤ) → Follows (turn l) (turn₁ l)) where
  loop_more : (k : ℕ) (l : List ℤ) (w : World) → Before w.log (log_of (loop k test₁ turn₁ l w))
  loop_more zero l w = same
  loop_more (suc k) l w =
      (turned test₁ test₁ turn₁ turn₁ (λ x. itself_follows (tests x)) (λ x. itself_follows (turns x)) (loop k test₁ turn₁) (loop k test₁ turn₁) (λ x u. itself (loop k test₁ turn₁ x u) (loop_more k x u)) l w).more

  loop_follows : (k j : ℕ) → k ≤ j → (l : List ℤ) → Follows (loop k test turn l) (loop j test₁ turn₁ l)
  loop_follows zero j h l w = cut_grows (loop_more j l w)
  loop_follows (suc k) zero h l w = absurd (omega arith)
  loop_follows (suc k) (suc j) h l w = turned test test₁ turn turn₁ tests turns (loop k test turn) (loop j test₁ turn₁) (loop_follows k j (omega arith)) l w

abbrev site : Limits → Calls → List ℤ → ℕ → ℕ → Site
site L f l q u = record { limits = L; calls = f; locals = l; pending = q; occupied = u }

module _ (L : Limits) (f g : Calls) (h : CallsFollow f g) where
  get_follows : (x : Variable) (l : List ℤ) (q u : ℕ) → Follows (get x (site L f l q u)) (get x (site L g l q u))
  get_follows (Local n) l q u = done_follows _
  get_follows (Global n) l q u = global_follows n

  mutual
    evaluate_follows : (v : Value) (l : List ℤ) (q u : ℕ) → Follows (evaluate v (site L f l q u)) (evaluate v (site L g l q u))
    evaluate_follows (constant n) l q u = done_follows _
    evaluate_follows (load x) l q u = get_follows x l q u
    evaluate_follows (load_element k x v) l q u = then_follows (get_follows x l q u) λ r. then_follows (evaluate_follows v l (q + 1) u) λ i. get_element_follows L k r i
    evaluate_follows (negate v) l q u = then_follows (evaluate_follows v l q u) λ a. done_follows _
    evaluate_follows (binary o v w) l q u = then_follows (evaluate_follows v l q u) λ a. then_follows (evaluate_follows w l (q + 1) u) λ b. computed_follows (words.compute o a b)
    evaluate_follows (new_array k v) l q u = then_follows (evaluate_follows v l q u) λ n. new_follows L k n
    evaluate_follows (length_of v) l q u = then_follows (evaluate_follows v l q u) λ r. array_length_follows L r
    evaluate_follows (convert k v) l q u = then_follows (evaluate_follows v l q u) λ a. done_follows _
    evaluate_follows (result m vs) l q u = then_follows (evaluate_all_follows vs l q u) λ xs. h m xs q u

    evaluate_all_follows : (vs : Values) (l : List ℤ) (q u : ℕ) → Follows (evaluate_all vs (site L f l q u)) (evaluate_all vs (site L g l q u))
    evaluate_all_follows no_values l q u = done_follows _
    evaluate_all_follows (and_value v vs) l q u = then_follows (evaluate_follows v l q u) λ a. then_follows (evaluate_all_follows vs l (q + 1) u) λ xs. done_follows _

  holds_follows : (c : Comparison) (l : List ℤ) (q u : ℕ) → Follows (holds c (site L f l q u)) (holds c (site L g l q u))
  holds_follows (compare r v w) l q u = then_follows (evaluate_follows v l q u) λ a. then_follows (evaluate_follows w l (q + 1) u) λ b. done_follows _

  holds_all_follows : (k : Conjunction) (l : List ℤ) (q u : ℕ) → Follows (holds_all k (site L f l q u)) (holds_all k (site L g l q u))
  holds_all_follows (single c) l q u = holds_follows c l q u
  holds_all_follows (both c k) l q u = then_follows (holds_follows c l q u) λ b. choice_follows b (holds_all_follows k l q u) (done_follows false)

  satisfied_follows : (c : Condition) (l : List ℤ) (q u : ℕ) → Follows (satisfied c (site L f l q u)) (satisfied c (site L g l q u))
  satisfied_follows (only k) l q u = holds_all_follows k l q u
  satisfied_follows (either k c) l q u = then_follows (holds_all_follows k l q u) λ b. choice_follows b (done_follows true) (satisfied_follows c l q u)

  put_follows : (x : Variable) (v : ℤ) (l : List ℤ) (q u : ℕ) → Follows (put x v (site L f l q u)) (put x v (site L g l q u))
  put_follows (Local n) v l q u = done_follows _
  put_follows (Global n) v l q u = then_follows (set_global_follows n v) λ _. done_follows (goes l)

  store_follows :
      (t : Target) (x y : Site → Work ℤ) → ((l : List ℤ) (q u : ℕ) → Follows (x (site L f l q u)) (y (site L g l q u))) → (l : List ℤ) (q u : ℕ) →
      Follows (store t (site L f l q u) x) (store t (site L g l q u) y)
  store_follows (variable z) x y e l q u = then_follows (e l q u) λ v. put_follows z v l q u
  store_follows (element k z i) x y e l q u =
      then_follows (get_follows z l q u) λ r. then_follows (evaluate_follows i l (q + 1) u) λ j. then_follows (e l (q + 2) u) λ v. then_follows (set_element_follows L k r j v) λ _. done_follows (goes l)

  step_follows : (d : Direction) (t : Target) (l : List ℤ) (q u : ℕ) → Follows (step_by_one d t (site L f l q u)) (step_by_one d t (site L g l q u))
  step_follows d (variable z) l q u = then_follows (get_follows z l q u) λ a. then_follows (computed_follows (words.compute (stepped d) a (pos 1))) λ v. put_follows z v l q u
  step_follows d (element k z i) l q u =
      then_follows (get_follows z l q u) λ r. then_follows (evaluate_follows i l (q + 1) u) λ j. then_follows (get_element_follows L k r j) λ a. then_follows (computed_follows (words.compute (stepped d) a (pos 1))) λ v.
      then_follows (set_element_follows L k r j v) λ _. done_follows (goes l)

  read_follows : (k : Kind) (l : List ℤ) (q u : ℕ) → Follows (read_word k (site L f l q u)) (read_word k (site L g l q u))
  read_follows k l q u = then_follows take_word_follows λ v. done_follows (kept k v)

  mutual
    perform_follows : (a : Action) (k j : ℕ) → k ≤ j → (l : List ℤ) (q u : ℕ) → Follows (perform a k (site L f l q u)) (perform a j (site L g l q u))
    perform_follows (assign t v) k j e l q u = store_follows t (evaluate v) (evaluate v) (evaluate_follows v) l q u
    perform_follows (step d t) k j e l q u = step_follows d t l q u
    perform_follows (read i t) k j e l q u = store_follows t (read_word i) (read_word i) (read_follows i) l q u
    perform_follows (print i v n) k j e l q u = then_follows (evaluate_follows v l q u) λ a. then_follows (write_follows _) λ _. done_follows (goes l)
    perform_follows (invoke m vs) k j e l q u = then_follows (evaluate_follows (result m vs) l q u) λ _. done_follows (goes l)
    perform_follows (discard m vs) k j e l q u = then_follows (evaluate_follows (result m vs) l q u) λ _. done_follows (goes l)
    perform_follows (when c a) k j e l q u = then_follows (satisfied_follows c l q u) λ b. choice_follows b (perform_follows a k j e l q u) (done_follows _)
    perform_follows (choose c a z) k j e l q u = then_follows (satisfied_follows c l q u) λ b. choice_follows b (perform_follows a k j e l q u) (perform_follows z k j e l q u)
    perform_follows (while c a) k j e l q u = loop_follows _ _ _ _ (λ x. satisfied_follows c x q u) (λ x. perform_follows a k j e x q u) k j e l
    perform_follows break k j e l q u = done_follows _
    perform_follows return k j e l q u = done_follows _
    perform_follows (give v) k j e l q u = then_follows (evaluate_follows v l q u) λ a. done_follows _
    perform_follows (block bs) k j e l q u = perform_all_follows bs k j e l q u
    perform_follows nothing k j e l q u = done_follows _

    perform_all_follows : (bs : Actions) (k j : ℕ) → k ≤ j → (l : List ℤ) (q u : ℕ) → Follows (perform_all bs k (site L f l q u)) (perform_all bs j (site L g l q u))
    perform_all_follows no_actions k j e l q u = done_follows _
    perform_all_follows (and_then a bs) k j e l q u = then_follows (perform_follows a k j e l q u) λ x. on_follows x λ y. perform_all_follows bs k j e y q u

  end_follows : (r : Option Kind) → Follows (at_end r) (at_end r)
  end_follows None = done_follows _
  end_follows (Some k) = fails_follows _

  left_follows : (r : Option Kind) (x : Flow) → Follows (left r x) (left r x)
  left_follows r (goes l) = end_follows r
  left_follows r (broke l) = end_follows r
  left_follows r (returned v) = done_follows v

  enter_follows : (m : Option Method) (k j : ℕ) → k ≤ j → (vs : List ℤ) (q u : ℕ) → Follows (enter m L k f vs q u) (enter m L j g vs q u)
  enter_follows None k j e vs q u = fails_follows _
  enter_follows (Some m) k j e vs q u =
      choice_follows (leb (u + (2 + (length m.parameters + length m.locals))) L.call)
      (choice_follows (leb (q + 32) L.operand) (then_follows (perform_all_follows m.body k j e (frame m vs) q (u + (2 + (length m.parameters + length m.locals)))) (left_follows m.result)) (fails_follows _))
      (fails_follows _)

module _ (L : Limits) (ms : List Method) where
  calls_more : (k m : ℕ) (vs : List ℤ) (q u : ℕ) (w : World) → Before w.log (log_of (calls L ms k m vs q u w))
  calls_more zero m vs q u w = same
  calls_more (suc k) m vs q u w =
      (enter_follows L (calls L ms k) (calls L ms k) (λ n xs p v z. itself (calls L ms k n xs p v z) (calls_more k n xs p v z)) (slice_get ms m) k k (omega arith) vs q u w).more

  pub calls_follow : (k j : ℕ) → k ≤ j → CallsFollow (calls L ms k) (calls L ms j)
  calls_follow zero j h m vs q u w = cut_grows (calls_more j m vs q u w)
  calls_follow (suc k) zero h m vs q u w = absurd (omega arith)
  calls_follow (suc k) (suc j) h m vs q u w = enter_follows L (calls L ms k) (calls L ms j) (calls_follow k j (omega arith)) (slice_get ms m) k j (omega arith) vs q u w
