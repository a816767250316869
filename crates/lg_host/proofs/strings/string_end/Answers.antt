use Rattle.std.proofs.Common.{◌+◌, sym, ◌∙◌, arith}
use Rattle.lg_host.proofs.StringLemmas.{end-none, end-top, end-zero, end-more}
use Rattle.lg_host.proofs.strings.string_end.Goals as goal

pub returns-in_default-clause-value : goal.returns-in_default-clause-value
returns-in_default-clause-value g c = sym (c.loop-at.invariant ∙ end-none (g.S.Space.byte_of c.args.mem.now) _ c.in_default.ensures)

pub returns-then-byte-eq0-clause-value : goal.returns-then-byte-eq0-clause-value
returns-then-byte-eq0-clause-value g c = sym (c.loop-at.invariant ∙ end-zero (g.S.Space.byte_of c.args.mem.now) _ _ (omega arith) c.in-Some.ensures c.if-byte-eq0.true)

pub loop-at-preserved : goal.loop-at-preserved
loop-at-preserved g c = c.loop-at.invariant ∙ end-more (g.S.Space.byte_of c.args.mem.now) _ _ (omega arith) c.in-Some.ensures c.if-byte-eq0.false

pub returns-clause-value : goal.returns-clause-value
returns-clause-value g c = sym (c.loop-at.invariant ∙ end-top (g.S.Space.byte_of c.args.mem.now) _ (omega arith))

pub returns-else-byte-eq0-clause-value : goal.returns-else-byte-eq0-clause-value
returns-else-byte-eq0-clause-value g c = sym (c.loop-at.invariant ∙ end-more (g.S.Space.byte_of c.args.mem.now) _ _ (omega arith) c.in-Some.ensures c.if-byte-eq0.false ∙ end-top (g.S.Space.byte_of c.args.mem.now) (c.loop-at.at + 1) (omega arith))
