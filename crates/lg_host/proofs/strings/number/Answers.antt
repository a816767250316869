use Rattle.std.proofs.Common.{◌+◌, sym, ◌∙◌, inl, inr, arith}
use Rattle.lg_host.proofs.StringLemmas.{number-none, number-end, number-over, number-more, number-top}
use Rattle.lg_host.proofs.strings.number.Goals.{then-byte-lt48-via-then-byte-lt48, then-byte-lt48-via-else-byte-lt48+then-byte-gt57}
use Rattle.lg_host.proofs.strings.number.Goals as goal

pub returns-in_default : goal.returns-in_default
returns-in_default g c = sym (c.loop-at.invariant.told ∙ number-none _ _ (g.S.Space.byte_of c.args.mem.now) _ c.in_default.ensures)

pub returns-then-byte-lt48 : goal.returns-then-byte-lt48
returns-then-byte-lt48 g c = c.int_word.ensures ∙ sym (c.loop-at.invariant.told ∙ number-end _ _ (g.S.Space.byte_of c.args.mem.now) _ _ (omega arith) c.in-Some.ensures (elim c.then-byte-lt48.branch [ then-byte-lt48-via-then-byte-lt48 w ↦ inl w.if-byte-lt48.true | then-byte-lt48-via-else-byte-lt48+then-byte-gt57 w ↦ inr w.if-byte-gt57.true ]))

pub returns-then-value-gt2147483648 : goal.returns-then-value-gt2147483648
returns-then-value-gt2147483648 g c = sym (c.loop-at.invariant.told ∙ number-over _ _ (g.S.Space.byte_of c.args.mem.now) _ _ (omega arith) c.in-Some.ensures (omega arith) (omega arith) c.if-value-gt2147483648.true)

pub loop-at-preserved : goal.loop-at-preserved
loop-at-preserved g c = record {
  small = omega arith;
  told = c.loop-at.invariant.told ∙ number-more _ _ (g.S.Space.byte_of c.args.mem.now) _ _ (omega arith) c.in-Some.ensures (omega arith) (omega arith);
}

pub returns : goal.returns
returns g c = sym (c.loop-at.invariant.told ∙ number-top _ _ (g.S.Space.byte_of c.args.mem.now) _ (omega arith))

pub returns-else-value-gt2147483648 : goal.returns-else-value-gt2147483648
returns-else-value-gt2147483648 g c =
    let m = g.S.Space.byte_of c.args.mem.now in
    sym (c.loop-at.invariant.told ∙ number-more _ _ m _ _ (omega arith) c.in-Some.ensures (omega arith) (omega arith) ∙ number-top _ _ m (c.loop-at.at + 1) (omega arith))
