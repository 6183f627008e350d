-- What a program touches: the input, the events so far, the globals and the arrays. And how working something out can come to an end.
use Rattle.std.specs.Prelude.{ℕ, zero, suc, ◌+◌, ◌/◌, cond, List, [], ◌∷◌, length, replicate, ℤ, pos, negsuc, Some, None, Option, ◌==◌, nat_le, nat_lt, slice_index_or, slice_set}
use Rattle.outcomes.specs.declared.Verdict.{Verdict}
use Rattle.outcomes.specs.declared.Verdict.TheVariants.{NullReference, IndexOutOfRange, NegativeLength, HeapExhausted}
use Rattle.words.specs.declared.printing.Kind.{Kind}
use Rattle.words.specs.declared.printing.Kind.TheVariants.{Int, Char}
use Rattle.words.specs.Bytes.{kept}
use Rattle.program.specs.Core.{same_kind}

infixl 20 ◌>>=◌
pub data Event : Type 0 where
  -- a word was taken from the input
  took : ℤ → Event
  -- the bytes of one print
  wrote : List ℕ → Event
  -- the verdict, with the value of each global
  ended : Verdict → List ℤ → Event

pub record Array : Type 0 where
  pub kind : Kind
  pub elements : List ℤ

pub record World : Type 0 where
  pub input : List ℤ
  -- the latest first, in the log and among the arrays
  pub log : List Event
  pub globals : List ℤ
  pub arrays : List Array

-- the lengths of the stores
pub record Limits : Type 0 where
  pub heap : ℕ
  pub call : ℕ
  pub operand : ℕ
  -- what using a reference that no array has comes to; no legal text does that, so it makes no difference
  pub stray : Verdict

abbrev pub limits : ℕ → ℕ → ℕ → Limits
limits h c o = record { heap = h; call = c; operand = o; stray = NullReference }

pub data Ending : Type 0 where
  verdict : Verdict → Ending
  -- a word is wanted, and none is left
  starved : Ending

-- what working something out comes to, as far as it is known
pub data Outcome (A : Type 0) : Type 0 where
  done : A → World → Outcome A
  stop : Ending → World → Outcome A
  -- more than the depth that is looked at
  cut : World → Outcome A

-- working something out, which may change the world
abbrev pub Work : Type 0 → Type 0
Work A = World → Outcome A

abbrev pub bind : {A B : Type 0} → Outcome A → (A → Work B) → Outcome B
bind (done a w) f = f a w
bind (stop e w) f = stop e w
bind (cut w) f = cut w

-- one thing after another
abbrev pub ◌>>=◌ : {A B : Type 0} → Work A → (A → Work B) → Work B
◌>>=◌ m f w = bind (m w) f

abbrev pub fails : {A : Type 0} → Verdict → Work A
fails v w = stop (verdict v) w

abbrev pub noting : Event → World → World
noting e w = record { input = w.input; log = e ∷ w.log; globals = w.globals; arrays = w.arrays }

-- the next word of the input
abbrev pub takes : List ℤ → Work ℤ
takes [] w = stop starved w
takes (x ∷ xs) w = done x (record { input = xs; log = took x ∷ w.log; globals = w.globals; arrays = w.arrays })

abbrev pub take_word : Work ℤ
take_word w = takes w.input w

abbrev pub write : List ℕ → Work (Unit {0})
write bytes w = done tt (noting (wrote bytes) w)

abbrev pub global : ℕ → Work ℤ
global n w = done (slice_index_or w.globals n (pos 0)) w

abbrev pub set_global : ℕ → ℤ → Work (Unit {0})
set_global n v w = done tt (record { input = w.input; log = w.log; globals = slice_set w.globals n v; arrays = w.arrays })

-- the words of an array of n elements: one for its length, and one for each int or for each four chars
abbrev pub words_for : Kind → ℕ → ℕ
words_for Int n = 1 + n
words_for Char n = 1 + (n + 3) / 4

-- the words of all arrays
abbrev pub words_of : List Array → ℕ
words_of [] = 0
words_of (a ∷ rest) = words_of rest + words_for a.kind (length a.elements)

-- the reference of an array: 1 plus the words of all earlier ones
abbrev pub find : List Array → ℕ → Option Array
find [] r = None
find (a ∷ rest) r = cond (r == 1 + words_of rest) (Some a) (find rest r)

abbrev pub replace : List Array → ℕ → Array → List Array
replace [] r b = []
replace (a ∷ rest) r b = cond (r == 1 + words_of rest) (b ∷ rest) (a ∷ replace rest r b)

abbrev pub found : {A : Type 0} → Limits → Option Array → (Array → Work A) → Work A
found L None go = fails L.stray
found L (Some a) go = go a

-- null is 0
abbrev pub array : {A : Type 0} → Limits → ℤ → (Array → Work A) → Work A
array L (pos zero) go w = fails NullReference w
array L (pos (suc r)) go w = found L (find w.arrays (suc r)) go w
array L (negsuc n) go w = fails L.stray w

abbrev pub array_of : {A : Type 0} → Limits → Kind → ℤ → (Array → Work A) → Work A
array_of L k r go = array L r λ a. cond (same_kind k a.kind) (go a) (fails L.stray)

-- an index is from 0 on and below the length
abbrev pub index : {A : Type 0} → ℤ → ℕ → (ℕ → Work A) → Work A
index (pos i) n go = cond (nat_lt i n) (go i) (fails IndexOutOfRange)
index (negsuc i) n go = fails IndexOutOfRange

-- an element is tested for null, and then for its index
abbrev pub get_element : Limits → Kind → ℤ → ℤ → Work ℤ
get_element L k r i = array_of L k r λ a. index i (length a.elements) λ j. done (slice_index_or a.elements j (pos 0))

abbrev pub number_of : ℤ → ℕ
number_of (pos n) = n
number_of (negsuc n) = 0

-- an element of a char array keeps the low 8 bits
abbrev pub changed : ℤ → Array → ℕ → ℤ → World → World
changed r a j v w =
    record { input = w.input; log = w.log; globals = w.globals; arrays = replace w.arrays (number_of r) (record { kind = a.kind; elements = slice_set a.elements j (kept a.kind v) }) }

abbrev pub set_element : Limits → Kind → ℤ → ℤ → ℤ → Work (Unit {0})
set_element L k r i v = array_of L k r λ a. index i (length a.elements) λ j w. done tt (changed r a j v w)

abbrev pub array_length : Limits → ℤ → Work ℤ
array_length L r = array L r λ a. done (pos (length a.elements))

abbrev pub added : Kind → ℕ → World → World
added k n w = record { input = w.input; log = w.log; globals = w.globals; arrays = record { kind = k; elements = replicate n (pos 0) } ∷ w.arrays }

-- a negative length comes before a heap that is too short for the arrays and one word more
abbrev pub new : Limits → Kind → ℤ → Work ℤ
new L k (negsuc n) w = fails NegativeLength w
new L k (pos n) w = cond (nat_le (words_of w.arrays + words_for k n + 1) L.heap) (done (pos (1 + words_of w.arrays)) (added k n w)) (fails HeapExhausted w)
