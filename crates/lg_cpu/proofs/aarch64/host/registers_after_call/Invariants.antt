use Rattle.std.proofs.Common.{◌≡◌, length}
use Rattle.std.specs.Prelude.{slice_index}
use Rattle.lg_base.specs.declared.target.Target.TheVariants as target
use Rattle.lg_cpu.specs.HostSteps.{clobbered}
use Rattle.lg_cpu.proofs.aarch64.host.registers_after_call.Given as goal

abbrev pub invariant-loop-register : goal.invariant-loop-register
invariant-loop-register l = record {
  lost : slice_index l.behind ≡ clobbered target.Aarch64 l.register (slice_index l.registers) l.trash;
  long : length l.behind ≡ 32;
}
