-- How a text is worked out: its tokens, its tree and its core program are computed.
use Rattle.std.proofs.Common.{◌≡◌, ℕ, zero, suc, ◌≤◌, Bool, true, false, ◌&&◌, leb, List, [], ◌∷◌, get_or, Some, None, Ok, Err, Option, Result, refl, arith}
use Rattle.std.proofs.lemmas.Bool.{leb-true}
use Rattle.outcomes.specs.declared.Fault.{Fault}
use Rattle.outcomes.specs.declared.Position.{Position}
use Rattle.syntax.specs.Tokens.{Token}
use Rattle.syntax.specs.Trees as tree
use Rattle.syntax.specs.Spelling.{spell, levels}
use Rattle.syntax.proofs.Parser.{Parsed, took, failed, p_program}
use Rattle.syntax.proofs.Scanned.{scanned, scanned_cuts}
use Rattle.context.specs.Resolving.{resolved}
use Rattle.program.specs.Core.{Program}
use Rattle.worked.specs.Samples.{StandsFor}

abbrev pub or_none : Option (List Token) → List Token
or_none None = []
or_none (Some ts) = ts

abbrev pub nowhere : Position
nowhere = record { line = 0; column = 0 }

abbrev pub or_empty : Parsed tree.Program → tree.Program
or_empty (took t ts) = t
or_empty failed = record { class = nowhere; name = record { text = []; position = nowhere }; declarations = []; begins = nowhere; methods = []; ends = nowhere }

abbrev pub or_nothing : Result Program Fault → Program
or_nothing (Ok p) = p
or_nothing (Err f) = record { globals = []; methods = []; main = None }

unfoldable pub tokens_of : List ℕ → List Token
unfolding scanned
tokens_of text = or_none (scanned text)

-- forty calls deep is enough for the samples
unfoldable pub tree_of : List ℕ → tree.Program
unfolding tokens_of
tree_of text = or_empty (p_program 40 (tokens_of text))

unfoldable pub program_of : List ℕ → Program
unfolding tree_of
program_of text = or_nothing (resolved (tree_of text))

abbrev pub all_within : List ℕ → Bool
all_within [] = true
all_within (n ∷ ns) = leb n 64 && all_within ns

split : (a b : Bool) → (a && b) ≡ true → (a ≡ true) × (b ≡ true)
split true b h = (refl, h)
split false b h = absurd cc

within : (ns : List ℕ) → all_within ns ≡ true → (k : ℕ) → get_or ns k 0 ≤ 64
within [] h k = omega arith
within (n ∷ ns) h zero = leb-true n 64 (split (leb n 64) (all_within ns) h).0
within (n ∷ ns) h (suc k) = within ns (split (leb n 64) (all_within ns) h).1 k

-- what is computed of a text is what it stands for
pub worked_out :
    (text : List ℕ) → scanned text ≡ Some (tokens_of text) → tokens_of text ≡ spell (tree_of text) → tree.nearest_in (tree_of text).methods ≡ true → all_within (levels (tree_of text)) ≡ true →
    resolved (tree_of text) ≡ Ok (program_of text) → StandsFor text (program_of text)
worked_out text s e n l r =
    record {
      tokens = tokens_of text;
      cut = scanned_cuts text (tokens_of text) s;
      tree = tree_of text;
      reads = record { tokens = e; else_nearest = n };
      shallow = within (levels (tree_of text)) l;
      stands = r;
    }
