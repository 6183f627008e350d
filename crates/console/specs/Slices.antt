-- What a console over lent memory holds.
use Rattle.std.specs.Prelude.{◌≡◌, ℕ, ◌-◌, List, length, take, drop, ℤ}
use Rattle.console.specs.declared.slice_console.SliceConsole.{SliceConsole}

-- the lent list of words
abbrev pub lent_words : SliceConsole → List ℤ
lent_words console = console.words.now

-- what the lent buffer holds
abbrev pub lent_bytes : SliceConsole → List ℕ
lent_bytes console = console.buffer.now

-- the words that wait: the lent ones without those taken
abbrev pub waiting : SliceConsole → List ℤ
waiting console = drop console.taken (lent_words console)

-- the bytes written: the first ones of the buffer
abbrev pub written : SliceConsole → List ℕ
written console = take console.filled (lent_bytes console)

-- how many bytes more fit: the rest of the buffer
abbrev pub room : SliceConsole → ℕ
room console = length (lent_bytes console) - console.filled

-- what a call leaves as it was: the lent words, and the bytes of the buffer behind those written
pub record LeavesLent (before after : SliceConsole) : Type 0 where
  pub words : lent_words after ≡ lent_words before
  pub rest : drop after.filled (lent_bytes after) ≡ drop after.filled (lent_bytes before)
