-- The operations on the world keep the events that there are.
use Rattle.std.proofs.Common.{ℕ, zero, suc, ◌+◌, Bool, true, false, cond, ltb, leb, List, [], ◌∷◌, length, ℤ, pos, negsuc, Some, None, Option}
use Rattle.words.specs.declared.printing.Kind.{Kind}
use Rattle.program.specs.Core.{same_kind}
use Rattle.meaning.specs.World.{took, wrote, Array, World, Limits, done, Work, fails, takes, take_word, write, global, set_global, find, found, array, array_of, index, get_element, set_element, array_length, new, words_of, words_for}
use Rattle.meaning.specs.Evaluation.{computed}
use Rattle.meaning.proofs.Logs.{Before, same, one_more}
use Rattle.meaning.proofs.Growing.{Grows, Follows, done_grows, stop_grows, done_follows, fails_follows, cond_follows}

takes_grows : (xs : List ℤ) (w : World) → Grows w (takes xs w) (takes xs w)
takes_grows [] w = stop_grows same
takes_grows (x ∷ xs) w = done_grows (one_more (took x) tt)

pub take_word_follows : Follows take_word take_word
take_word_follows w = takes_grows w.input w

pub write_follows : (bs : List ℕ) → Follows (write bs) (write bs)
write_follows bs w = done_grows (one_more (wrote bs) tt)

pub global_follows : (n : ℕ) → Follows (global n) (global n)
global_follows n w = done_grows same

pub set_global_follows : (n : ℕ) (v : ℤ) → Follows (set_global n v) (set_global n v)
set_global_follows n v w = done_grows same

pub computed_follows : (o : Option ℤ) → Follows (computed o) (computed o)
computed_follows None = fails_follows _
computed_follows (Some v) = done_follows v

found_follows : {A : Type 0} (L : Limits) (o : Option Array) (go : Array → Work A) → ((a : Array) → Follows (go a) (go a)) → Follows (found L o go) (found L o go)
found_follows L None go h = fails_follows L.stray
found_follows L (Some a) go h = h a

array_follows : {A : Type 0} (L : Limits) (r : ℤ) (go : Array → Work A) → ((a : Array) → Follows (go a) (go a)) → Follows (array L r go) (array L r go)
array_follows L (pos zero) go h w = stop_grows same
array_follows L (pos (suc r)) go h w = found_follows L (find w.arrays (suc r)) go h w
array_follows L (negsuc n) go h w = stop_grows same

array_of_follows : {A : Type 0} (L : Limits) (k : Kind) (r : ℤ) (go : Array → Work A) → ((a : Array) → Follows (go a) (go a)) → Follows (array_of L k r go) (array_of L k r go)
array_of_follows L k r go h = array_follows L r _ λ a. cond_follows (same_kind k a.kind) (h a) (fails_follows L.stray)

index_follows : {A : Type 0} (i : ℤ) (n : ℕ) (go : ℕ → Work A) → ((j : ℕ) → Follows (go j) (go j)) → Follows (index i n go) (index i n go)
index_follows (pos i) n go h = cond_follows (ltb i n) (h i) (fails_follows _)
index_follows (negsuc i) n go h = fails_follows _

pub get_element_follows : (L : Limits) (k : Kind) (r i : ℤ) → Follows (get_element L k r i) (get_element L k r i)
get_element_follows L k r i = array_of_follows L k r _ λ a. index_follows i (length a.elements) _ λ j. done_follows _

pub set_element_follows : (L : Limits) (k : Kind) (r i v : ℤ) → Follows (set_element L k r i v) (set_element L k r i v)
set_element_follows L k r i v = array_of_follows L k r _ λ a. index_follows i (length a.elements) _ λ j w. done_grows same

pub array_length_follows : (L : Limits) (r : ℤ) → Follows (array_length L r) (array_length L r)
array_length_follows L r = array_follows L r _ λ a. done_follows _

made : {A : Type 0} (b : Bool) (w u : World) (a : A) (v : _) → Before w.log u.log → Grows w (cond b (done a u) (fails v w)) (cond b (done a u) (fails v w))
made true w u a v h = done_grows h
made false w u a v h = stop_grows same

pub new_follows : (L : Limits) (k : Kind) (n : ℤ) → Follows (new L k n) (new L k n)
new_follows L k (negsuc n) w = stop_grows same
new_follows L k (pos n) w = made (leb (words_of w.arrays + words_for k n + 1) L.heap) w _ _ _ same
