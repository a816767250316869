use Rattle.std.proofs.Common.{◌≡◌, take}
use Rattle.lg_cpu.specs.Entering.{put_arguments}
use Rattle.lg_cpu.specs.Machines.{inner, with_state}
use Rattle.lg_cpu.proofs.processor.Processor.put_arguments.Given as goal

abbrev pub invariant-loop-index : goal.invariant-loop-index
invariant-loop-index l = record {
  put : inner l.self ≡ with_state (inner l.initial.self) (put_arguments (inner l.initial.self).fixed.target l.stack 0 (take l.index l.words) (inner l.initial.self).state);
}
