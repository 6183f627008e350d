use Rattle.std.proofs.Common.{◌+◌, ◌-◌, length, refl, arith, rules}
use Rattle.std.proofs.lemmas.Slice.{drop-put_mid}
use Rattle.console.proofs.slice_console.SliceConsoleConsole.put.Goals as goal

pub returns-clause-lent : goal.returns-clause-lent
returns-clause-lent c =
    let s = c.args.self.now in
    let n = s.filled + length c.args.bytes.now in
    record { words = refl; rest = drop-put_mid s.filled (n - s.filled) s.buffer.now c.copy_from_slice.new.self n (omega arith) (omega arith) (search rules) }
