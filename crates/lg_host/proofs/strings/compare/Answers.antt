use Rattle.std.proofs.Common.{◌+◌, sym, ◌∙◌, arith}
use Rattle.lg_host.proofs.StringLemmas.{compare-none, compare-none2, compare-less, compare-more, compare-zero, compare-next, compare-top, again, reached}
use Rattle.lg_host.proofs.strings.compare.Goals as goal

pub returns-in_default : goal.returns-in_default
returns-in_default g c = sym (c.loop-i.invariant ∙ compare-none (g.S.Space.byte_of c.args.mem.now) _ _ c.in_default.ensures)

pub returns-in_default-get : goal.returns-in_default-get
returns-in_default-get g c = sym (c.loop-i.invariant ∙ compare-none2 (g.S.Space.byte_of c.args.mem.now) _ _ c.in_default-get.ensures)

pub returns-then-a-b : goal.returns-then-a-b
returns-then-a-b g c = sym (c.loop-i.invariant ∙ compare-less (g.S.Space.byte_of c.args.mem.now) _ _ _ _ (omega arith) (omega arith) c.in-Some.ensures c.in-Some-get.ensures c.if-a-b.true)

pub returns-then-a-b-2 : goal.returns-then-a-b-2
returns-then-a-b-2 g c = sym (c.loop-i.invariant ∙ compare-more (g.S.Space.byte_of c.args.mem.now) _ _ _ _ (omega arith) (omega arith) c.in-Some.ensures c.in-Some-get.ensures c.if-a-b-2.true)

pub returns-then-a-eq0 : goal.returns-then-a-eq0
returns-then-a-eq0 g c = sym (c.loop-i.invariant ∙ compare-zero (g.S.Space.byte_of c.args.mem.now) _ _ _ _ (omega arith) (omega arith) c.in-Some.ensures c.in-Some-get.ensures (omega arith) c.if-a-eq0.true)

pub loop-i-preserved : goal.loop-i-preserved
loop-i-preserved g c = c.loop-i.invariant ∙ compare-next (g.S.Space.byte_of c.args.mem.now) _ _ _ _ (omega arith) (omega arith) c.in-Some.ensures c.in-Some-get.ensures (omega arith) c.if-a-eq0.false ∙ again _ c.args.first c.args.second c.loop-i.i

pub returns : goal.returns
returns g c = sym (c.loop-i.invariant ∙ compare-top (g.S.Space.byte_of c.args.mem.now) _ _ (reached c.args.first c.args.second c.loop-i.i (omega arith)))

pub returns-else-a-eq0 : goal.returns-else-a-eq0
returns-else-a-eq0 g c =
    let m = g.S.Space.byte_of c.args.mem.now in
    sym (c.loop-i.invariant ∙ compare-next m _ _ _ _ (omega arith) (omega arith) c.in-Some.ensures c.in-Some-get.ensures (omega arith) c.if-a-eq0.false
    ∙ again m c.args.first c.args.second c.loop-i.i ∙ compare-top m _ _ (reached c.args.first c.args.second (c.loop-i.i + 1) (omega arith)))
