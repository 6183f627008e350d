-- Worked samples: whole texts, and what they come to.
use Rattle.std.specs.Prelude.{◌≡◌, ℕ, List, [], ◌∷◌, reverse, ℤ, pos, negsuc, Some, Ok, codes}
use Rattle.outcomes.specs.declared.Position.{Position}
use Rattle.outcomes.specs.declared.Refusal.TheVariants.{UnexpectedToken}
use Rattle.outcomes.specs.declared.Verdict.TheVariants.{Finished, HeapExhausted}
use Rattle.syntax.specs.Tokens.{Token, start, behind}
use Rattle.syntax.specs.Scanning.{Cuts}
use Rattle.syntax.specs.Trees as tree
use Rattle.syntax.specs.Reading.{Reads, Shallow, RefusedByParse}
use Rattle.context.specs.Resolving.{resolved}
use Rattle.program.specs.Core.{Program}
use Rattle.meaning.specs.World.{Event, wrote, ended, Limits, limits}
use Rattle.meaning.specs.Trace.{up_to, events_of}
use Rattle.code.specs.Objects.{object_of}
use Rattle.machine.specs.Laws.{counting_loop, CountingLoopCounts}

-- a text is cut into tokens, a tree reads them, and the tree stands for the program
pub record StandsFor (text : List ℕ) (p : Program) : Type 0 where
  pub tokens : List Token
  pub cut : Cuts text tokens
  pub tree : tree.Program
  pub reads : Reads tokens tree
  pub shallow : Shallow tree
  pub stands : resolved tree ≡ Ok p

-- the whole trace of a program that ends
pub record HasTrace (p : Program) (L : Limits) (input : List ℤ) (es : List Event) : Type 0 where
  pub depth : ℕ
  pub events : events_of (up_to p L input depth) ≡ reverse es

-- a text and its trace on no input, in stores of these lengths
abbrev pub Sample : List ℕ → Limits → List Event → Type 0
Sample text L es = (p : Program) × StandsFor text p × HasTrace p L [] es

-- an int or a char written by one print
abbrev pub prints : List ℕ → Event
prints bytes = wrote bytes

-- the counting loop
abbrev pub counting_text : List ℕ
counting_text = codes "class Van { void main() int i; { i = 3; while (i > 0) { print(i); i--; } print(eol); } }"

pub record Counting (p : Program) : Type 0 where
  pub stands : StandsFor counting_text p
  -- one heap word, four call words and 32 operand words suffice
  pub trace : HasTrace p (limits 1 4 32) [] (prints (codes "3") ∷ prints (codes "2") ∷ prints (codes "1") ∷ prints (10 ∷ []) ∷ ended Finished [] ∷ [])
  pub main : p.main ≡ Some 0
  -- 28 bytes of code, no globals, the main address 0
  pub object : object_of p 0 ≡ record { code = counting_loop; globals = 0; main = 0 }
  -- and the machine writes the same, and finishes with its 35th step
  pub machine : CountingLoopCounts

-- a text whose parse is refused with 4 at a position
pub record Unread (text : List ℕ) (at : Position) : Type 0 where
  pub tokens : List Token
  pub cut : Cuts text tokens
  pub refused : RefusedByParse tokens (behind start text) (record { refusal = UnexpectedToken; position = at })

pub record WorkedSamples : Type 0 where
  pub loop_counts : (p : Program) × Counting p
  -- a quotient is cut toward zero, and a remainder has the dividend's sign
  pub division : Sample (codes "class P int a, b; { void main() { a = (0-7)/2; b = (0-7)%2; } }") (limits 1 2 32) (ended Finished (negsuc 2 ∷ negsuc 0 ∷ []) ∷ [])
  -- arithmetic wraps around
  pub wrapping : Sample (codes "class P int a; { void main() { a = (0-2147483647-1)/(0-1); } }") (limits 1 2 32) (ended Finished (negsuc 2147483647 ∷ []) ∷ [])
  -- a char keeps its word, but for the low 8 bits in an array
  pub wide_chars :
      Sample (codes "class P char c, d[]; int i, j; { void main() { c = chr(300); i = ord(c); d = new char[1]; d[0] = c; j = ord(d[0]); } }") (limits 3 2 34)
      (ended Finished (pos 300 ∷ pos 1 ∷ pos 300 ∷ pos 44 ∷ []) ∷ [])
  -- blanks stand before a value up to its width
  pub widths : Sample (codes "class P { void main() { print(-5, 4); } }") (limits 1 2 32) (prints (codes "  -5") ∷ ended Finished [] ∷ [])
  -- the arrays and one word more fit a heap, or do not
  pub full_heap : Sample (codes "class P int a[]; char c[]; { void main() { a = new int[2]; c = new char[0]; } }") (limits 4 2 32) (ended HeapExhausted (pos 1 ∷ pos 0 ∷ []) ∷ [])
  -- the empty text ends too early
  pub empty_text : Unread [] (record { line = 1; column = 1 })
  -- the longest token is read, and two minus signs are one
  pub decrement : Unread (codes "class P int x, a, b; { void main() { x = a--b; } }") (record { line = 1; column = 43 })
