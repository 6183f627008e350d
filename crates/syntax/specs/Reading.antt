-- Which tokens are a program, and which refusal any others get, and where.
use Rattle.std.specs.Prelude.{◌≡◌, ℕ, suc, ◌<◌, ◌≤◌, true, List, [], ◌∷◌, ◌++◌, length, take, Ok, Err, Result, slice_index, slice_index_or}
use Rattle.outcomes.specs.declared.Fault.{Fault}
use Rattle.outcomes.specs.declared.Position.{Position}
use Rattle.outcomes.specs.declared.Refusal.TheVariants.{UnexpectedToken, NestingTooDeep}
use Rattle.syntax.specs.Tokens.{Token}
use Rattle.syntax.specs.Trees.{Program, nearest_in}
use Rattle.syntax.specs.Spelling.{spell, levels}

-- the tree spells these tokens; each `else` belongs to the nearest `if` that has none
pub record Reads (ts : List Token) (t : Program) : Type 0 where
  pub tokens : ts ≡ spell t
  pub else_nearest : nearest_in t.methods ≡ true

-- no statement or expression of the tree stands deeper than level 64
abbrev pub Shallow : Program → Type 0
Shallow t = (k : ℕ) → slice_index (levels t) k ≤ 64

-- the first k tokens begin what some tree spells
pub record Begins (ts : List Token) (k : ℕ) (t : Program) : Type 0 where
  pub within : k ≤ length ts
  pub more : List Token
  pub reads : Reads (take k ts ++ more) t

-- token k is t
abbrev pub TokenAt : List Token → ℕ → Token → Type 0
TokenAt ts k t = take (suc k) ts ≡ take k ts ++ t ∷ []

-- token k cannot follow those before it
pub record Unexpected (ts : List Token) (k : ℕ) : Type 0 where
  pub tree : Program
  pub follows : Begins ts k tree
  pub stuck : (t : Program) → Begins ts (suc k) t → ⊥

-- token k is the first of a statement or expression at level 65
pub record Deep (ts : List Token) (k : ℕ) : Type 0 where
  pub tree : Program
  pub follows : Begins ts (suc k) tree
  pub level : slice_index_or (levels tree) k 0 ≡ 65

-- nothing before token k stands too deep
abbrev pub NoneDeepBefore : List Token → ℕ → Type 0
NoneDeepBefore ts k = (j : ℕ) → j < k → Deep ts j → ⊥

-- at one token, one that cannot follow comes before one that stands too deep; end is the position behind the text's last byte
pub data RefusedByParse (ts : List Token) (end : Position) : Fault → Type 0 where
  unexpected : (k : ℕ) (t : Token) → Unexpected ts k → TokenAt ts k t → NoneDeepBefore ts k → RefusedByParse ts end (record { refusal = UnexpectedToken; position = t.position })
  incomplete : (t : Program) → Begins ts (length ts) t → ((u : Program) → Reads ts u → ⊥) → NoneDeepBefore ts (length ts) → RefusedByParse ts end (record { refusal = UnexpectedToken; position = end })
  deep : (k : ℕ) (t : Token) → Deep ts k → TokenAt ts k t → NoneDeepBefore ts k → RefusedByParse ts end (record { refusal = NestingTooDeep; position = t.position })

-- the second stage's answer for the tokens of a text: a tree that reads them, or the earliest fault
abbrev pub ParsedAs : List Token → Position → Result Program Fault → Type 0
ParsedAs ts end (Ok t) = Reads ts t × Shallow t
ParsedAs ts end (Err f) = RefusedByParse ts end f

-- a list of tokens has at most one tree
abbrev pub OneReading : Type 0
OneReading = (ts : List Token) (t u : Program) → Reads ts t → Reads ts u → t ≡ u
