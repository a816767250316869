use Rattle.std.proofs.Common.{sym, ap, ◌∙◌}
use Rattle.std.specs.Prelude.{if◌then◌else◌}
use Rattle.lg_op.specs.declared.operand.Reg.TheVariants.{R0, R1, R2, V0, V1, V2}
use Rattle.lg_dead.specs.Known.{none_known, known_after}
use Rattle.lg_dead.specs.Tables.{known_of}
use Rattle.lg_dead.proofs.list.pass.Goals as goal

pub returns-then-leaps-clause-r0 : goal.returns-then-leaps-clause-r0
returns-then-leaps-clause-r0 c = c.none.ensures R0 ∙ ap (λ b. (if b then none_known else known_after (known_of c.args.known.now) c.args.node.now) R0) (sym (sym c.leaps.ensures ∙ c.if-leaps.true))

pub returns-then-leaps-clause-r1 : goal.returns-then-leaps-clause-r1
returns-then-leaps-clause-r1 c = c.none.ensures R1 ∙ ap (λ b. (if b then none_known else known_after (known_of c.args.known.now) c.args.node.now) R1) (sym (sym c.leaps.ensures ∙ c.if-leaps.true))

pub returns-then-leaps-clause-r2 : goal.returns-then-leaps-clause-r2
returns-then-leaps-clause-r2 c = c.none.ensures R2 ∙ ap (λ b. (if b then none_known else known_after (known_of c.args.known.now) c.args.node.now) R2) (sym (sym c.leaps.ensures ∙ c.if-leaps.true))

pub returns-then-leaps-clause-v0 : goal.returns-then-leaps-clause-v0
returns-then-leaps-clause-v0 c = c.none.ensures V0 ∙ ap (λ b. (if b then none_known else known_after (known_of c.args.known.now) c.args.node.now) V0) (sym (sym c.leaps.ensures ∙ c.if-leaps.true))

pub returns-then-leaps-clause-v1 : goal.returns-then-leaps-clause-v1
returns-then-leaps-clause-v1 c = c.none.ensures V1 ∙ ap (λ b. (if b then none_known else known_after (known_of c.args.known.now) c.args.node.now) V1) (sym (sym c.leaps.ensures ∙ c.if-leaps.true))

pub returns-then-leaps-clause-v2 : goal.returns-then-leaps-clause-v2
returns-then-leaps-clause-v2 c = c.none.ensures V2 ∙ ap (λ b. (if b then none_known else known_after (known_of c.args.known.now) c.args.node.now) V2) (sym (sym c.leaps.ensures ∙ c.if-leaps.true))
