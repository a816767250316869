use Rattle.lg_cpu.specs.Machines.{inner}
use Rattle.lg_cpu.proofs.EnteringLemmas.{put_call}
use Rattle.lg_cpu.proofs.processor.Processor.put_call.Goals as goal

pub returns : goal.returns
returns c =
    put_call (inner c.args.self.now) (inner c.put_arguments.new.self) (inner c.put_in.new.self) (inner c.set_register.new.self) c.target-target.result c.args.stack c.stack_pointer.result c.entry_pointer.result
    c.link.result c.args.words.now c.target-target.ensures c.link.ensures c.stack_pointer.ensures c.entry_pointer.ensures c.put_arguments.ensures c.put_in.ensures c.set_register.ensures
