use Rattle.std.proofs.Common.{◌+◌, sym, ◌∙◌, arith}
use Rattle.lg_host.proofs.StringLemmas.{atoi-none, atoi-signed, atoi-space, atoi-top}
use Rattle.lg_host.proofs.strings.atoi.Goals as goal

pub returns-in_default : goal.returns-in_default
returns-in_default g c = sym (c.loop-at.invariant ∙ atoi-none (g.S.Space.byte_of c.args.mem.now) _ c.in_default.ensures)

pub returns-then-not-is_space : goal.returns-then-not-is_space
returns-then-not-is_space g c = c.signed.ensures ∙ sym (c.loop-at.invariant ∙ atoi-signed (g.S.Space.byte_of c.args.mem.now) _ _ (omega arith) c.in-Some.ensures (sym c.is_space.ensures ∙ c.if-not-is_space.true))

pub loop-at-preserved : goal.loop-at-preserved
loop-at-preserved g c = c.loop-at.invariant ∙ atoi-space (g.S.Space.byte_of c.args.mem.now) _ _ (omega arith) c.in-Some.ensures (sym c.is_space.ensures ∙ c.if-not-is_space.false)

pub returns : goal.returns
returns g c = sym (c.loop-at.invariant ∙ atoi-top (g.S.Space.byte_of c.args.mem.now) _ (omega arith))

pub returns-else-not-is_space : goal.returns-else-not-is_space
returns-else-not-is_space g c =
    let m = g.S.Space.byte_of c.args.mem.now in
    sym (c.loop-at.invariant ∙ atoi-space m _ _ (omega arith) c.in-Some.ensures (sym c.is_space.ensures ∙ c.if-not-is_space.false) ∙ atoi-top m (c.loop-at.at + 1) (omega arith))
