-- The texts that are no programs, worked out.
use Rattle.std.proofs.Common.{◌≡◌, ℕ, zero, suc, ◌<◌, ◌≤◌, List, [], ◌++◌, take, drop, codes, sym, refl, ap, ◌∙◌, arith}
use Rattle.syntax.specs.declared.symbol.Symbol.TheVariants as sym
use Rattle.syntax.specs.Tokens.{Token, token, symbol}
use Rattle.syntax.specs.Trees.{Program}
use Rattle.syntax.specs.Spelling.{spell}
use Rattle.syntax.specs.Reading.{Reads, Begins, NoneDeepBefore, unexpected, incomplete}
use Rattle.syntax.proofs.Parser.{took, failed, p_program}
use Rattle.syntax.proofs.CompletePrograms.{program_reads}
use Rattle.syntax.proofs.Levels.{level_at}
use Rattle.syntax.proofs.Scanned.{scanned, scanned_cuts}
use Rattle.worked.specs.Samples.{Unread}
use Rattle.worked.proofs.Working.{tokens_of, tree_of, or_empty}

-- nothing among the first 60 tokens stands at level 65
shallow_front : (ts : List Token) (k : ℕ) → k < 60 → NoneDeepBefore ts k
shallow_front ts k h j l d = omega (arith, level_at d.tree j, d.level)

-- some program
abbrev any : Program
any = or_empty failed

nothing_reads : (t : Program) → Reads [] t → ⊥
nothing_reads t r = let e = r.tokens in cc

pub empty_text : Unread [] (record { line = 1; column = 1 })
empty_text =
    record {
      tokens = [];
      cut = scanned_cuts [] [] (unfold scanned in refl);
      refused = incomplete any (record { within = omega arith; more = spell any; reads = record { tokens = refl; else_nearest = refl } }) nothing_reads (shallow_front [] 0 (omega arith));
    }

abbrev text : List ℕ
text = codes "class P int x, a, b; { void main() { x = a--b; } }"

-- a text that begins alike and is a program
abbrev other : List ℕ
other = codes "class P int x, a, b; { void main() { x = a; } }"

-- so many calls deeper
abbrev deeper : ℕ → ℕ → ℕ
deeper zero n = n
deeper (suc k) n = suc (deeper k n)

at_least : (k n : ℕ) → n ≤ deeper k n
at_least zero n = omega arith
at_least (suc k) n = omega (arith, at_least k n)

-- whatever follows, the parser fails behind these tokens
fails : (n : ℕ) (more : List Token) → p_program (deeper 40 n) ((take 19 (tokens_of text) ++ more) ++ []) ≡ failed
unfolding tokens_of
fails n more = refl

stuck : (t : Program) → Begins (tokens_of text) 19 t → ⊥
stuck t b =
    let r = program_reads t b.reads.else_nearest in
    let x = r.reads (deeper 40 r.need) [] (at_least 40 r.need) tt in
    let e : failed ≡ took t [] = sym (fails r.need b.more) ∙ ap (λ ts. p_program (deeper 40 r.need) (ts ++ [])) b.reads.tokens ∙ x in
    cc

follows : Begins (tokens_of text) 18 (tree_of other)
unfolding tokens_of tree_of
follows = record { within = omega arith; more = drop 18 (tokens_of other); reads = record { tokens = refl; else_nearest = refl } }

pub decrement : Unread text (record { line = 1; column = 43 })
decrement =
    record {
      tokens = tokens_of text;
      cut = scanned_cuts text (tokens_of text) (unfold scanned tokens_of in refl);
      refused = unexpected 18 (token (symbol sym.Decrement) (record { line = 1; column = 43 })) (record { tree = tree_of other; follows = follows; stuck = stuck }) (unfold tokens_of in refl) (shallow_front (tokens_of text) 18 (omega arith));
    }
