-- The places of a ring, read round from any of them.
use Rattle.std.specs.Prelude.{◌≡◌, ℕ, List, [], ◌∷◌, ◌++◌, take, drop, Some, None, Option}

-- all items, read round from the place `first`
abbrev pub round : {A : Type 0} → ℕ → List A → List A
round first items = drop first items ++ take first items

-- the first `count` of them
abbrev pub along : {A : Type 0} → ℕ → ℕ → List A → List A
along first count items = take count (round first items)

-- pop: the oldest item leaves and is given, or there is none
abbrev pub Pops : {A : Type 0} → Option A → List A → List A → Type 0
Pops (Some item) before after = before ≡ item ∷ after
Pops None before after = (before ≡ []) × (after ≡ [])
