use Rattle.std.proofs.Common.{arith}
use Rattle.lg_cpu.specs.Machines.{inner}
use Rattle.lg_cpu.proofs.EnteringLemmas.{put_none, put_next}
use Rattle.lg_cpu.proofs.processor.Processor.put_arguments.Goals as goal

pub loop-index-init : goal.loop-index-init
loop-index-init c = record { put = put_none (inner c.args.self.now) c.args.stack }

pub loop-index-preserved : goal.loop-index-preserved
loop-index-preserved c = record {
  put = put_next (inner c.args.self.now) (inner c.loop-index.self) (inner c.put_argument.new.self) c.args.stack c.args.words.now c.loop-index.index
      (omega arith) c.loop-index.invariant.put c.put_argument.ensures;
}
