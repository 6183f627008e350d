-- The samples, worked out.
use Rattle.std.proofs.Common.{ℕ, List, [], codes, refl}
use Rattle.std.specs.Fmt.{digits}
use Rattle.std.specs.Int.{int_wrap}
use Rattle.words.specs.Arithmetic.{wrap}
use Rattle.words.specs.Printing.{printed_as}
use Rattle.meaning.specs.World.{Event, Limits}
use Rattle.machine.proofs.Counting.{counts_down}
use Rattle.program.specs.Core.{Program}
use Rattle.syntax.proofs.Scanned.{scanned}
use Rattle.worked.specs.Samples.{StandsFor, HasTrace, Sample, Counting, counting_text, WorkedSamples}
use Rattle.worked.proofs.Working.{tokens_of, tree_of, program_of, worked_out}
use Rattle.worked.proofs.Refusals.{empty_text, decrement}

counting_stands : StandsFor counting_text (program_of counting_text)
counting_stands =
    let text = counting_text in
    worked_out text (unfold scanned tokens_of in refl) (unfold tokens_of tree_of in refl) (unfold tree_of in refl) (unfold tree_of in refl) (unfold program_of in refl)

pub counting : (p : Program) × Counting p
unfolding program_of wrap int_wrap printed_as digits
counting = (program_of counting_text, record { stands = counting_stands; trace = record { depth = 5; events = refl }; main = refl; object = refl; machine = counts_down })

abbrev division_text : List ℕ
division_text = codes "class P int a, b; { void main() { a = (0-7)/2; b = (0-7)%2; } }"

division_stands : StandsFor division_text (program_of division_text)
division_stands = worked_out division_text (unfold scanned tokens_of in refl) (unfold tokens_of tree_of in refl) (unfold tree_of in refl) (unfold tree_of in refl) (unfold program_of in refl)

abbrev wrapping_text : List ℕ
wrapping_text = codes "class P int a; { void main() { a = (0-2147483647-1)/(0-1); } }"

wrapping_stands : StandsFor wrapping_text (program_of wrapping_text)
wrapping_stands = worked_out wrapping_text (unfold scanned tokens_of in refl) (unfold tokens_of tree_of in refl) (unfold tree_of in refl) (unfold tree_of in refl) (unfold program_of in refl)

abbrev wide_chars_text : List ℕ
wide_chars_text = codes "class P char c, d[]; int i, j; { void main() { c = chr(300); i = ord(c); d = new char[1]; d[0] = c; j = ord(d[0]); } }"

wide_chars_stands : StandsFor wide_chars_text (program_of wide_chars_text)
wide_chars_stands = worked_out wide_chars_text (unfold scanned tokens_of in refl) (unfold tokens_of tree_of in refl) (unfold tree_of in refl) (unfold tree_of in refl) (unfold program_of in refl)

abbrev widths_text : List ℕ
widths_text = codes "class P { void main() { print(-5, 4); } }"

widths_stands : StandsFor widths_text (program_of widths_text)
widths_stands = worked_out widths_text (unfold scanned tokens_of in refl) (unfold tokens_of tree_of in refl) (unfold tree_of in refl) (unfold tree_of in refl) (unfold program_of in refl)

abbrev full_heap_text : List ℕ
full_heap_text = codes "class P int a[]; char c[]; { void main() { a = new int[2]; c = new char[0]; } }"

full_heap_stands : StandsFor full_heap_text (program_of full_heap_text)
full_heap_stands = worked_out full_heap_text (unfold scanned tokens_of in refl) (unfold tokens_of tree_of in refl) (unfold tree_of in refl) (unfold tree_of in refl) (unfold program_of in refl)

-- a text that stands for a program, and its trace
sample : (text : List ℕ) (L : Limits) (es : List Event) → StandsFor text (program_of text) → HasTrace (program_of text) L [] es → Sample text L es
sample text L es s t = (program_of text, s, t)

pub worked_samples : WorkedSamples
unfolding program_of wrap int_wrap printed_as digits
worked_samples =
    record {
      loop_counts = counting;
      division = sample division_text _ _ division_stands (record { depth = 1; events = refl });
      wrapping = sample wrapping_text _ _ wrapping_stands (record { depth = 1; events = refl });
      wide_chars = sample wide_chars_text _ _ wide_chars_stands (record { depth = 1; events = refl });
      widths = sample widths_text _ _ widths_stands (record { depth = 1; events = refl });
      full_heap = sample full_heap_text _ _ full_heap_stands (record { depth = 1; events = refl });
      empty_text = empty_text;
      decrement = decrement;
    }
