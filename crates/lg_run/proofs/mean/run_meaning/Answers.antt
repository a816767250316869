use Rattle.lg_mean.specs.Machines.{state_of}
use Rattle.lg_io.specs.SinkChanges.{on_sink}
use Rattle.lg_run.proofs.MeanLemmas.{told, writes}
use Rattle.lg_run.proofs.mean.run_meaning.Goals as goal

pub returns : goal.returns
returns g c =
    let out = on_sink g.O.Sink.taken g.O.Sink.faults c.args.out.now c.run-end.new.out in
    let start = c.args.machine.now in
    record {
      says = told c.args.unit.now.nodes c.args.shape.now start.labels.addresses (state_of start.machine) c.run-end.result c.answer_of.result start.steps c.run-end.new.self.steps c.steps.result c.args.most (state_of c.run-end.new.self.machine) out
          c.requires.steps c.steps.ensures c.answer_of.ensures c.run-end.ensures.says;
      writes = writes c.args.unit.now.nodes c.args.shape.now start.labels.addresses (state_of start.machine) c.run-end.result c.answer_of.result _ c.args.most _ (state_of c.run-end.new.self.machine) out
          c.answer_of.ensures c.run-end.ensures.kept c.run-end.ensures.says;
    }
