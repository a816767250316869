use Rattle.std.proofs.Common.{◌+◌, sym, arith}
use Rattle.lg_host.proofs.StringLemmas.{number-top}
use Rattle.lg_host.proofs.strings.number_after.Goals as goal

pub returns-in-None : goal.returns-in-None
returns-in-None g c = sym (number-top c.args.negative 0 (g.S.Space.byte_of c.args.mem.now) (c.args.at + 1) (omega arith))
