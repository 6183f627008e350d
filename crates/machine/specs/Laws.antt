-- Laws of runs and of new arrays, and a worked sample.
use Rattle.std.specs.Prelude.{◌≡◌, ℕ, ◌+◌, ◌<◌, ◌≤◌, List, [], ◌∷◌, length, replicate, ℤ, pos, negsuc, Some, None, Option}
use Rattle.outcomes.specs.declared.Verdict.TheVariants.{Finished}
use Rattle.words.specs.declared.printing.Kind.{Kind}
use Rattle.step.specs.State.{State, state, Step}
use Rattle.step.specs.Stacks.{word_at}
use Rattle.step.specs.Arrays.{array_words, element_in, element, new_array}
use Rattle.machine.specs.Runs.{view, Scene, scene, stops, turn, after}

-- n steps more, from where others led
abbrev pub after_more : ℕ → List ℕ → Option Scene → Option Scene
after_more n code None = None
after_more n code (Some s) = after n code s

-- a run of m + n steps is a run of m and then one of n
abbrev pub RunsCompose : Type 0
RunsCompose = (m n : ℕ) (code : List ℕ) (s : Scene) → after (m + n) code s ≡ after_more n code (after m code s)

-- a new array that fits has all its elements, and each of them is 0, whatever the heap held there
abbrev pub NewArraysAreCleared : Type 0
NewArraysAreCleared =
    (kind : Kind) (n i : ℕ) (s : State) (go : ℤ → Step) → 0 < s.registers.free → s.registers.free + array_words kind n ≤ length s.heap → i < n →
    new_array kind (pos n) s (λ reference t. element kind reference (pos i) t.registers.free t.heap λ w j. go (element_in kind j (word_at t.heap w))) ≡ go (pos 0)

-- the code of a loop that counts down from 3: it writes `321` and a line feed
abbrev pub counting_loop : List ℕ
counting_loop = 51 ∷ 0 ∷ 1 ∷ 18 ∷ 7 ∷ 2 ∷ 15 ∷ 46 ∷ 0 ∷ 12 ∷ 2 ∷ 15 ∷ 54 ∷ 31 ∷ 0 ∷ 255 ∷ 42 ∷ 255 ∷ 245 ∷ 22 ∷ 0 ∷ 0 ∷ 0 ∷ 10 ∷ 15 ∷ 56 ∷ 52 ∷ 50 ∷ []

-- it starts at offset 0, in no data word, one heap word, four call words and 32 operand words, over a console with room for nine bytes
abbrev pub counting_start : Scene
counting_start = scene (state (record { pc = pos 0; frame = pos 0; top = 1; height = 0; free = 1 }) [] (pos 0 ∷ []) (negsuc 0 ∷ pos 0 ∷ pos 0 ∷ pos 0 ∷ []) (replicate 32 (pos 0))) (view [] [] 9)

-- the scene that a run leads to, and the start where it leads to none
abbrev pub led_to : Option Scene → Scene → Scene
led_to None s = s
led_to (Some t) s = t

-- after 34 steps the next one is the verdict's, so it takes 35
pub record CountsDown (last : Scene) : Type 0 where
  pub steps : after 34 counting_loop counting_start ≡ Some last
  pub written : last.console.written ≡ 51 ∷ 50 ∷ 49 ∷ 10 ∷ []
  pub room : last.console.room ≡ 5
  pub verdict : turn counting_loop last ≡ stops Finished

abbrev pub CountingLoopCounts : Type 0
CountingLoopCounts = CountsDown (led_to (after 34 counting_loop counting_start) counting_start)
