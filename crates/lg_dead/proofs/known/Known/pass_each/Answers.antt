use Rattle.lg_op.specs.declared.operand.Reg.TheVariants.{R0, R1, R2, V0, V1, V2}
use Rattle.lg_dead.specs.Tables.{known_of}
use Rattle.lg_dead.proofs.NoneLemmas.{passed}
use Rattle.lg_dead.proofs.known.Known.pass_each.Goals as goal

pub returns-clause-r0 : goal.returns-clause-r0
returns-clause-r0 c =
    passed c.args.node.now R0 c.writes.result (known_of c.args.self.now R0) (known_of c.begin.new.self R0) (known_of c.forget.new.self R0) (known_of c.note.new.self R0)
    c.writes.ensures.registers c.begin.ensures.r0 c.forget.ensures.r0 c.note.ensures.r0

pub returns-clause-r1 : goal.returns-clause-r1
returns-clause-r1 c =
    passed c.args.node.now R1 c.writes.result (known_of c.args.self.now R1) (known_of c.begin.new.self R1) (known_of c.forget.new.self R1) (known_of c.note.new.self R1)
    c.writes.ensures.registers c.begin.ensures.r1 c.forget.ensures.r1 c.note.ensures.r1

pub returns-clause-r2 : goal.returns-clause-r2
returns-clause-r2 c =
    passed c.args.node.now R2 c.writes.result (known_of c.args.self.now R2) (known_of c.begin.new.self R2) (known_of c.forget.new.self R2) (known_of c.note.new.self R2)
    c.writes.ensures.registers c.begin.ensures.r2 c.forget.ensures.r2 c.note.ensures.r2

pub returns-clause-v0 : goal.returns-clause-v0
returns-clause-v0 c =
    passed c.args.node.now V0 c.writes.result (known_of c.args.self.now V0) (known_of c.begin.new.self V0) (known_of c.forget.new.self V0) (known_of c.note.new.self V0)
    c.writes.ensures.registers c.begin.ensures.v0 c.forget.ensures.v0 c.note.ensures.v0

pub returns-clause-v1 : goal.returns-clause-v1
returns-clause-v1 c =
    passed c.args.node.now V1 c.writes.result (known_of c.args.self.now V1) (known_of c.begin.new.self V1) (known_of c.forget.new.self V1) (known_of c.note.new.self V1)
    c.writes.ensures.registers c.begin.ensures.v1 c.forget.ensures.v1 c.note.ensures.v1

pub returns-clause-v2 : goal.returns-clause-v2
returns-clause-v2 c =
    passed c.args.node.now V2 c.writes.result (known_of c.args.self.now V2) (known_of c.begin.new.self V2) (known_of c.forget.new.self V2) (known_of c.note.new.self V2)
    c.writes.ensures.registers c.begin.ensures.v2 c.forget.ensures.v2 c.note.ensures.v2
