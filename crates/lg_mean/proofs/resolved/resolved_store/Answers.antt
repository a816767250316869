use Rattle.std.proofs.Common.{List, ℕ, sym, ◌∙◌, subst, refl}
use Rattle.lg_op.specs.declared.operand.Operand.{Operand}
use Rattle.lg_meaning.specs.Steps.{operand_at}
use Rattle.lg_mean.specs.declared.resolved.Act.TheVariants as act
use Rattle.lg_mean.specs.declared.resolved.ResolvedNode.{ResolvedNode}
use Rattle.lg_mean.specs.Resolved.{IsSource, IsRegister}
use Rattle.lg_mean.proofs.ResolvedLemmas.{store_sum_resolved}
use Rattle.lg_mean.proofs.resolved.resolved_store.Goals as goal

pub returns-then-is_indexed : goal.returns-then-is_indexed
returns-then-is_indexed c t e =
    let n = c.args.node.now in
    let q : ResolvedNode = record { act = act.StoreSum c.args.store_type; first = c.in_ok-register.field-0; second = c.in_ok-second.second; third = c.in_ok-third.third.place; target = 0; number = c.in_ok-third.third.number } in
    let third : IsSource t.addresses (operand_at n 0) q.third q.number = subst (λ (A : List ℕ). IsSource A (operand_at n 0) q.third q.number) (sym e) (subst (λ (x : Operand). IsSource c.args.labels.now x q.third q.number) c.operand.ensures c.in_ok-third.ensures) in
    let second : IsRegister (operand_at n 1) q.second = subst (λ (x : Operand). IsRegister x q.second) c.operand-2.ensures c.in_ok-second.ensures in
    let first : IsRegister (operand_at n 2) q.first = subst (λ (x : Operand). IsRegister x q.first) c.operand-then-is_indexed.ensures c.in_ok-register.ensures in
    store_sum_resolved t n q c.args.store_type c.args.addressing c.requires.op (sym c.is_indexed.ensures ∙ c.if-is_indexed.true) refl first second third
