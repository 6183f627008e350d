use Rattle.std.proofs.Common.{length, sym, ap, ◌∙◌, arith}
use Rattle.console.specs.Rings.{written}
use Rattle.console.proofs.Moved.{length_left, moved_more, rest_is}
use Rattle.console.proofs.ring_console.RingConsole.drain.Goals as goal

pub loop-i-preserved : goal.loop-i-preserved
loop-i-preserved c =
    let i = c.loop-i.i in
    let old = written c.args.self.now in
    let left = c.pop.new.self in
    let byte = c.in-Some.byte in
    let inv = c.loop-i.invariant in
    let e = sym inv.left ∙ c.in-Some.ensures.pops in
    let n = length_left old left byte i e in
    record {
      words = inv.words;
      count = omega arith;
      free = omega (arith, ap length c.in-Some.ensures.pops);
      left = rest_is old left byte i e;
      moved = moved_more old left c.args.out.now c.loop-i.out byte i e c.loop-i-test.true inv.moved;
    }
