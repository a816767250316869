use Rattle.std.proofs.Common.{sym, subst}
use Rattle.lg_cpu.specs.Machines.{shown}
use Rattle.lg_cpu.specs.Series.{run_from}
use Rattle.lg_io.specs.SinkChanges.{on_sink}
use Rattle.lg_run.specs.Runs.{RunSays}
use Rattle.lg_run.specs.declared.answer.Answer.TheVariants.{Ended, Fault, WriteFault}
use Rattle.lg_run.proofs.RunLemmas.{ran_to_end, ran_to_fault, ran_to_write}
use Rattle.lg_run.proofs.profile.run_by_lines.Goals as goal

pub returns-in-Ended-clause-says : goal.returns-in-Ended-clause-says
returns-in-Ended-clause-says g c =
    let old = shown c.args.cpu.now in
    let s = on_sink g.O.Sink.taken g.O.Sink.faults c.args.out.now c.run_counted.new.out in
    subst (λ n. RunSays (run_from old) c.args.most n s (Ended c.in-Ended.status)) (sym c.steps-in-Ended.ensures)
    (ran_to_end old (shown c.run_counted.new.cpu) c.args.most s c.requires.first c.in-Ended.status c.in-Ended.ensures.says)

pub returns-in-Fault-clause-says : goal.returns-in-Fault-clause-says
returns-in-Fault-clause-says g c =
    let old = shown c.args.cpu.now in
    let s = on_sink g.O.Sink.taken g.O.Sink.faults c.args.out.now c.run_counted.new.out in
    subst (λ n. RunSays (run_from old) c.args.most n s (Fault c.in-Fault.kind c.pc.result)) (sym c.steps-in-Fault.ensures)
    (ran_to_fault old (shown c.run_counted.new.cpu) c.args.most s c.requires.first c.in-Fault.kind c.pc.result c.in-Fault.ensures.says c.pc.ensures)

pub returns-in-WriteFault-clause-says : goal.returns-in-WriteFault-clause-says
returns-in-WriteFault-clause-says g c =
    let old = shown c.args.cpu.now in
    let s = on_sink g.O.Sink.taken g.O.Sink.faults c.args.out.now c.run_counted.new.out in
    subst (λ n. RunSays (run_from old) c.args.most n s WriteFault) (sym c.steps-in-WriteFault.ensures)
    (ran_to_write old (shown c.run_counted.new.cpu) c.args.most s c.requires.first c.in-WriteFault.ensures.says)
