use Rattle.std.proofs.Common.{◌≡◌, ◌-◌, ◌≤◌, length, ◌++◌}
use Rattle.std.specs.Prelude.{take}
use Rattle.lg_base.specs.Parts.{byte_at}
use Rattle.lg_cpu.specs.HostSteps.{stack_words}
use Rattle.lg_cpu.proofs.arguments.Arguments.read_stack.Given as goal

abbrev pub invariant-loop-self : goal.invariant-loop-self
invariant-loop-self l = record {
  long : length l.self-inside.words ≡ 16;
  few : l.self-inside.count ≤ 16;
  words : take l.self-inside.count l.self-inside.words ++ stack_words (byte_at l.memory) l.address (16 - l.self-inside.count) ≡ take l.initial.self-inside.count l.initial.self-inside.words ++ stack_words (byte_at l.memory) l.stack (16 - l.initial.self-inside.count);
}

abbrev pub decreases-loop-self : goal.decreases-loop-self
decreases-loop-self l = 16 - l.self-inside.count
