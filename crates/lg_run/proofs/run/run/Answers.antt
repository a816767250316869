use Rattle.std.proofs.Common.{sym, subst}
use Rattle.lg_cpu.specs.Machines.{shown}
use Rattle.lg_cpu.specs.Series.{run_from}
use Rattle.lg_cpu.specs.declared.answer.CpuStep.TheVariants as cpu
use Rattle.lg_io.specs.SinkChanges.{on_sink}
use Rattle.lg_run.specs.Runs.{RunSays}
use Rattle.lg_run.specs.declared.answer.Answer.TheVariants.{Ended, Fault, WriteFault}
use Rattle.lg_run.proofs.RunLemmas.{advanced, ran_out, ran_to_end, ran_to_fault, ran_to_write}
use Rattle.lg_run.proofs.run.run.Goals as goal

pub returns-in-Went : goal.returns-in-Went
returns-in-Went g c =
    let old = shown c.args.cpu.now in
    let new = shown c.run.new.self in
    let most = c.args.most in
    let s = on_sink g.O.Sink.taken g.O.Sink.faults c.args.out.now c.run.new.out in
    let a = advanced old new most s.taken s.taken' s.faults s.faults' cpu.Went c.requires.going c.in-Went.ensures.says in
    record { says = ran_out old new most s c.requires.first a; writes = a.ends.3 }

pub returns-in-Ended : goal.returns-in-Ended
returns-in-Ended g c =
    let old = shown c.args.cpu.now in
    let new = shown c.run.new.self in
    let most = c.args.most in
    let s = on_sink g.O.Sink.taken g.O.Sink.faults c.args.out.now c.run.new.out in
    let a = advanced old new most s.taken s.taken' s.faults s.faults' (cpu.Ended c.in-Ended.status) c.requires.going c.in-Ended.ensures.says in
    record {
      says = subst (λ n. RunSays (run_from old) most n s (Ended c.in-Ended.status)) (sym c.steps.ensures) (ran_to_end old new most s c.requires.first c.in-Ended.status a);
      writes = a.ends.1.3;
    }

pub returns-in-Fault : goal.returns-in-Fault
returns-in-Fault g c =
    let old = shown c.args.cpu.now in
    let new = shown c.run.new.self in
    let most = c.args.most in
    let s = on_sink g.O.Sink.taken g.O.Sink.faults c.args.out.now c.run.new.out in
    let a = advanced old new most s.taken s.taken' s.faults s.faults' (cpu.Fault c.in-Fault.kind) c.requires.going c.in-Fault.ensures.says in
    record {
      says = subst (λ n. RunSays (run_from old) most n s (Fault c.in-Fault.kind c.pc.result)) (sym c.steps-in-Fault.ensures) (ran_to_fault old new most s c.requires.first c.in-Fault.kind c.pc.result a c.pc.ensures);
      writes = a.ends.1.3;
    }

pub returns-in-WriteFault : goal.returns-in-WriteFault
returns-in-WriteFault g c =
    let old = shown c.args.cpu.now in
    let new = shown c.run.new.self in
    let most = c.args.most in
    let s = on_sink g.O.Sink.taken g.O.Sink.faults c.args.out.now c.run.new.out in
    let a = advanced old new most s.taken s.taken' s.faults s.faults' (cpu.WriteFault) c.requires.going c.in-WriteFault.ensures.says in
    record {
      says = subst (λ n. RunSays (run_from old) most n s (WriteFault)) (sym c.steps-in-WriteFault.ensures) (ran_to_write old new most s c.requires.first a);
      writes = a.ends.1.1;
    }
