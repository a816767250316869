use Rattle.std.proofs.Common.{◌≡◌, length, take, ap, arith}
use Rattle.lg_op.specs.declared.operand.Operands.TheInside.{Inside}
use Rattle.lg_op.proofs.OperandLemmas.{pushed}
use Rattle.lg_op.proofs.operand.Operands.push.Goals as goal

pub invariant_of-self : goal.invariant_of-self
invariant_of-self c =
    let o = c.self.inside in
    let view : length (take o.len o.list) ≡ length c.args.self.now = ap length c.self.view_is in
    let len : length (take o.len o.list) ≡ o.len = ap (λ (i : Inside). i.len) c.self.invariant.rest in
    pushed o.list o.len c.args.operand c.self.invariant (omega (arith, view, len, c.requires))
