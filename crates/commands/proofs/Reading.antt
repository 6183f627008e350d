-- Arguments, one by one.
use Rattle.std.proofs.Common.{◌≡◌, ℕ, ◌+◌, ◌-◌, ◌<◌, ◌≤◌, List, [], ◌∷◌, length, get_or, take, drop, Some, None, Option, MatchOption, Ok, Result, sym, refl, ap, ◌∙◌, add-one, arith, drop-cons, Bor}
use Rattle.std.proofs.lemmas.List.{drop-map, take_rest}
use Rattle.commands.specs.declared.arguments.Command.{Command}
use Rattle.commands.specs.declared.failure.Failure.{Failure}
use Rattle.commands.specs.declared.failure.Failure.TheVariants as failure
use Rattle.commands.specs.Arguments.{Said, accepted, accepted_all, command_named, or_unknown, texts_of, understood, understood_at, understood_behind}
use Rattle.commands.specs.Understood.{Understood, and_then, FailsAs}

abbrev nowhere : Bor (List ℕ)
nowhere = record { ref_ptr = (0, 0); now = [] }

-- where a value is found, or else an error is made
pub found : {A : Type 0} (E : Type 0) (o : Option A) (x : A) → MatchOption o ⊥ (λ y. ◌≡◌ {A = Result A E} (Ok x) (Ok y)) → Some x ≡ o
found E None x h = absurd h
found E (Some y) x h = cc

-- a command is known, and what stands behind it decides
pub known : (xs rest : List (Bor (List ℕ))) (c : Command) → rest ≡ drop 1 xs → 1 ≤ length xs → Some c ≡ command_named (get_or xs 0 nowhere).now → understood (texts_of xs) ≡ understood_at (texts_of rest) c
known [] rest c e h f = absurd (omega arith)
known (x ∷ xs) rest c e h f = ap (λ o. or_unknown x.now o (understood_at (texts_of xs))) (sym f) ∙ ap (λ l. understood_at (texts_of l) c) (sym e)

-- the path is there too
pub with_path : (rest : List (Bor (List ℕ))) (c : Command) → 1 ≤ length rest → understood_at (texts_of rest) c ≡ understood_behind c (get_or rest 0 nowhere).now (texts_of (take (length rest - 1) (drop 1 rest)))
with_path [] c h = absurd (omega arith)
with_path (x ∷ rest) c h = ap (λ l. understood_behind c x.now (texts_of l)) (sym (take_rest (x ∷ rest) 1))

-- a failure of the first part is one of the whole
pub fails_then : {A B : Type 0} (u : Understood A) (f : A → Understood B) (why : Failure) → FailsAs u why → FailsAs (and_then u f) why
fails_then u f (failure.Unreadable path) h = h
fails_then u f (failure.Unclear argument) h = rw h refl
fails_then u f failure.NotText h = h
fails_then u f failure.Missing h = rw h refl
fails_then u f failure.NoMemory h = tt

pub fails_like : {A : Type 0} {u v : Understood A} (why : Failure) → u ≡ v → FailsAs v why → FailsAs u why
fails_like why e h = rw e h

-- the argument at an index is taken in before those behind it
pub one_more : (c : Command) (xs : List (Bor (List ℕ))) (i : ℕ) (s : Said) → i < length xs → accepted_all c (drop i (texts_of xs)) s ≡ and_then (accepted c (get_or xs i nowhere).now s) (λ t. accepted_all c (drop (i + 1) (texts_of xs)) t)
one_more c xs i s h = rw (add-one, drop-map, drop-map, drop-cons xs i nowhere h) refl
