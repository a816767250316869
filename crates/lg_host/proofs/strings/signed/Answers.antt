use Rattle.std.proofs.Common.{sym, ◌∙◌, arith}
use Rattle.lg_host.proofs.StringLemmas.{signed-minus, signed-plus, signed-none}
use Rattle.lg_host.proofs.strings.signed.Goals as goal

pub returns-then-byte-eq45 : goal.returns-then-byte-eq45
returns-then-byte-eq45 g c = c.number_after.ensures ∙ sym (signed-minus (g.S.Space.byte_of c.args.mem.now) _ _ (omega arith) c.requires.here c.if-byte-eq45.true)

pub returns-then-byte-eq43 : goal.returns-then-byte-eq43
returns-then-byte-eq43 g c = c.number_after-then-byte-eq43.ensures ∙ sym (signed-plus (g.S.Space.byte_of c.args.mem.now) _ _ (omega arith) c.requires.here c.if-byte-eq43.true)

pub returns-else-byte-eq43 : goal.returns-else-byte-eq43
returns-else-byte-eq43 g c = c.number.ensures ∙ sym (signed-none (g.S.Space.byte_of c.args.mem.now) _ _ (omega arith) c.requires.here c.if-byte-eq45.false c.if-byte-eq43.false)
