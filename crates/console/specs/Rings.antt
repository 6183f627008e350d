-- What a console over two rings holds, and what feeding it does.
use Rattle.std.specs.Prelude.{◌≡◌, ℕ, ◌-◌, ◌<◌, List, [], ◌∷◌, ◌++◌, length, ℤ, Ok, Err, Result}
use Rattle.outcomes.specs.declared.Refusal.{Refusal}
use Rattle.outcomes.specs.declared.Refusal.TheVariants.{InputFull}
use Rattle.console.specs.declared.ring_console.RingConsole.{RingConsole}

-- how many words can wait
abbrev pub word_places : ℕ
word_places = 256

-- how many bytes can be written and not drained
abbrev pub byte_places : ℕ
byte_places = 512

-- the words that wait
abbrev pub waiting : RingConsole → List ℤ
waiting console = console.input

-- the bytes written and not drained
abbrev pub written : RingConsole → List ℕ
written console = console.output

-- how many bytes more fit
abbrev pub room : RingConsole → ℕ
room console = byte_places - length (written console)

-- feed: the word waits behind the others; it is refused exactly if as many wait as can, and these stay
abbrev pub Feeds : Result (Unit {0}) Refusal → ℤ → List ℤ → List ℤ → Type 0
Feeds (Ok _) word before after = (length before < word_places) × (after ≡ before ++ word ∷ [])
Feeds (Err why) word before after = (why ≡ InputFull) × (length before ≡ word_places) × (after ≡ before)
