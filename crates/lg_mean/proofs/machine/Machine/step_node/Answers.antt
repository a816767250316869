use Rattle.lg_meaning.specs.Steps.{node_step}
use Rattle.lg_mean.specs.Machines.{state_of}
use Rattle.lg_mean.specs.Programs.{text_of}
use Rattle.lg_mean.proofs.StepLemmas.{does_steps}
use Rattle.lg_mean.proofs.machine.Machine.step_node.Goals as goal

pub returns-then-stays-clause-says : goal.returns-then-stays-clause-says
returns-then-stays-clause-says g c = does_steps (node_step (text_of c.args.program.now) c.args.node.now c.args.node.now.op (state_of c.args.self.now)) c.args.node.now.line (state_of c.args.self.now) c.stay-went.result c.answer.result (state_of c.stay-went.new.self) (g.O.Sink.taken c.args.out.now) (g.O.Sink.faults c.args.out.now) c.answer.ensures c.stay-went.ensures
