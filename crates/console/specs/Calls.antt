-- What the calls of a console answer and change, over the words that wait, the bytes written and the room.
use Rattle.std.specs.Prelude.{◌≡◌, ℕ, ◌+◌, ◌<◌, List, [], ◌∷◌, ◌++◌, length, ℤ, Ok, Err, Result}
use Rattle.outcomes.specs.declared.Refusal.{Refusal}
use Rattle.outcomes.specs.declared.Refusal.TheVariants.{NoWordWaiting, NoRoom}

-- take: the first word leaves and is given; it is refused exactly if none waits
abbrev pub Takes : Result ℤ Refusal → List ℤ → List ℤ → Type 0
Takes (Ok word) before after = before ≡ word ∷ after
Takes (Err why) before after = (why ≡ NoWordWaiting) × (before ≡ []) × (after ≡ [])

-- put: all the bytes come behind those written, or none of them
abbrev pub Puts : Result (Unit {0}) Refusal → List ℕ → List ℕ → List ℕ → Type 0
Puts (Ok _) bytes before after = after ≡ before ++ bytes
Puts (Err _) bytes before after = after ≡ before

-- put: the room falls by the number of bytes; it is refused exactly if they are more than the room, which then stays
abbrev pub Fits : Result (Unit {0}) Refusal → List ℕ → ℕ → ℕ → Type 0
Fits (Ok _) bytes before after = before ≡ after + length bytes
Fits (Err why) bytes before after = (why ≡ NoRoom) × (before < length bytes) × (after ≡ before)
