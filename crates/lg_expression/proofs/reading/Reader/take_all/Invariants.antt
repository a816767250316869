use Rattle.std.proofs.Common.{◌≡◌, drop}
use Rattle.lg_expression.specs.Reading.{read_on, shown}
use Rattle.lg_expression.proofs.reading.Reader.take_all.Given as goal

abbrev pub invariant-bytes : goal.invariant-bytes
invariant-bytes l = read_on (shown l.self) (drop l.byte-index l.text) ≡ read_on (shown l.fn.self) l.text
