use Rattle.std.proofs.Common.{sym, subst}
use Rattle.lg_mean.specs.Machines.{state_of}
use Rattle.lg_io.specs.SinkChanges.{on_sink}
use Rattle.lg_run.specs.Explanations.{IsStepUndefined}
use Rattle.lg_run.proofs.MeanLemmas.{told, writes}
use Rattle.lg_run.proofs.StuckLemmas.{step_undefined, stuck_told}
use Rattle.lg_run.proofs.explain.run_explained.Goals as goal

pub stuck_after-requires-clause-undefined : goal.stuck_after-requires-clause-undefined
stuck_after-requires-clause-undefined g c =
    let out = on_sink g.O.Sink.taken g.O.Sink.faults c.args.out.now c.run-end.new.out in
    let l = c.args.unit.now.nodes in
    let shape = c.args.shape.now in
    let start = c.args.machine.now in
    let new = c.run-end.new.self in
    subst (λ A. IsStepUndefined c.run-end.result l shape A (state_of new.machine)) (λ i. (sym c.run-end.ensures.labels i).addresses)
    (step_undefined c.steps_are_those_of_the_meaning.ensures l shape start.labels.addresses (state_of start.machine) c.args.most (state_of new.machine) out c.run-end.result _ c.run-end.ensures.says)

pub returns-clause-says : goal.returns-clause-says
returns-clause-says g c =
    let out = on_sink g.O.Sink.taken g.O.Sink.faults c.args.out.now c.run-end.new.out in
    let start = c.args.machine.now in
    told c.args.unit.now.nodes c.args.shape.now start.labels.addresses (state_of start.machine) c.run-end.result c.answer_of.result start.steps c.run-end.new.self.steps c.steps.result c.args.most (state_of c.run-end.new.self.machine) out
    c.requires.steps c.steps.ensures c.answer_of.ensures c.run-end.ensures.says

pub returns-clause-writes : goal.returns-clause-writes
returns-clause-writes g c =
    let out = on_sink g.O.Sink.taken g.O.Sink.faults c.args.out.now c.run-end.new.out in
    let start = c.args.machine.now in
    writes c.args.unit.now.nodes c.args.shape.now start.labels.addresses (state_of start.machine) c.run-end.result c.answer_of.result _ c.args.most _ (state_of c.run-end.new.self.machine) out
    c.answer_of.ensures c.run-end.ensures.kept c.run-end.ensures.says

pub returns-clause-stuck : goal.returns-clause-stuck
returns-clause-stuck g c =
    let out = on_sink g.O.Sink.taken g.O.Sink.faults c.args.out.now c.run-end.new.out in
    let l = c.args.unit.now.nodes in
    let shape = c.args.shape.now in
    let start = c.args.machine.now in
    let new = c.run-end.new.self in
    stuck_told c.steps_are_those_of_the_meaning.ensures l shape start.labels.addresses (state_of start.machine) c.args.most (state_of new.machine) out c.run-end.result c.answer_of.result start.steps new.steps c.steps.result new.labels.addresses c.stuck_after.result
    c.requires.steps c.steps.ensures c.answer_of.ensures (λ i. (c.run-end.ensures.labels i).addresses) c.run-end.ensures.says c.stuck_after.ensures
