-- Arrays in the heap: a word with the length, and then the elements, an int a word, four chars a word.
use Rattle.std.specs.Prelude.{ℕ, zero, suc, ◌+◌, ◌-◌, ◌/◌, ◌%◌, cond, List, ◌∷◌, ◌++◌, length, take, drop, replicate, ℤ, pos, negsuc, int_lt, nat_le, nat_lt}
use Rattle.outcomes.specs.declared.Verdict.TheVariants.{NullReference, IndexOutOfRange, NegativeLength, HeapExhausted}
use Rattle.words.specs.declared.printing.Kind.{Kind}
use Rattle.words.specs.declared.printing.Kind.TheVariants.{Int, Char}
use Rattle.words.specs.Bytes.{byte_of, with_byte}
use Rattle.step.specs.State.{State, Step, ends, with_heap}
use Rattle.step.specs.Stacks.{illegal, word_at}

-- the words of an array of n elements
abbrev pub array_words : Kind → ℕ → ℕ
array_words Int n = n + 1
array_words Char n = (n + 3) / 4 + 1

-- how many words behind the length word an element stands
abbrev pub element_word : Kind → ℕ → ℕ
element_word Int i = i + 1
element_word Char i = i / 4 + 1

-- an element in its word: all of it, or byte i % 4
abbrev pub element_in : Kind → ℕ → ℤ → ℤ
element_in Int i w = w
element_in Char i w = pos (byte_of (i % 4) w)

abbrev pub with_element : Kind → ℕ → ℤ → ℤ → ℤ
with_element Int i v w = v
with_element Char i v w = with_byte (i % 4) (byte_of 0 v) w

-- words written over a store from a place on
abbrev pub over : List ℤ → ℕ → List ℤ → List ℤ
over store i ws = take i store ++ (ws ++ drop (i + length ws) store)

-- a heap word is in use below the next free one
abbrev pub used : ℕ → ℕ → (ℕ → Step) → Step
used i free go = cond (nat_lt i free) (go i) illegal

-- the length word of a reference that is not null
abbrev pub length_word : ℤ → ℕ → (ℕ → Step) → Step
length_word (pos i) free go = used i free go
length_word (negsuc i) free go = illegal

-- null is the reference 0
abbrev pub not_null : ℤ → Step → Step
not_null (pos zero) go = ends NullReference
not_null (pos (suc i)) go = go
not_null (negsuc i) go = go

abbrev pub not_negative : ℤ → (ℕ → Step) → Step
not_negative (pos i) go = go i
not_negative (negsuc i) go = ends IndexOutOfRange

abbrev pub below : ℕ → ℤ → Step → Step
below i size go = cond (int_lt (pos i) size) go (ends IndexOutOfRange)

-- the heap word of an element, and its index; tested are, in turn, null, an index below 0, the length word, an index not below the length, the element's word
abbrev pub element : Kind → ℤ → ℤ → ℕ → List ℤ → (ℕ → ℕ → Step) → Step
element kind reference index free heap go =
    not_null reference (not_negative index λ i. length_word reference free λ r. below i (word_at heap r) (used (r + element_word kind i) free λ w. go w i))

-- a new array: its length and zeros, from the next free word on
abbrev pub new_array : Kind → ℤ → State → (ℤ → State → Step) → Step
new_array kind (negsuc n) s go = ends NegativeLength
new_array kind (pos n) s go =
    cond (nat_le (s.registers.free + array_words kind n) (length s.heap))
    (go (pos s.registers.free) (with_heap (s.registers.free + array_words kind n) (over s.heap s.registers.free (pos n ∷ replicate (array_words kind n - 1) (pos 0))) s))
    (ends HeapExhausted)
