-- What holds of the steps of each target.
use Rattle.lg_base.specs.declared.target.Target.TheVariants.{X86_64, Aarch64, Riscv64}
use Rattle.lg_cpu.specs.Targets.{effect_of}
use Rattle.lg_cpu.specs.Laws.{FaultsChangeNothing, StaysSound, RunsAreMachines}
use Rattle.lg_cpu.proofs.A64FaultLemmas.{a64-faults-unchanged}
use Rattle.lg_cpu.proofs.A64SoundLemmas.{a64-stays-sound}
use Rattle.lg_cpu.proofs.RunLemmas.{machine_is}
use Rattle.lg_cpu.proofs.RvFaultLemmas.{rv-faults-unchanged}
use Rattle.lg_cpu.proofs.SoundLemmas.{stays-sound}
use Rattle.lg_cpu.proofs.X86FaultLemmas.{x86-faults-unchanged}
use Rattle.lg_cpu.proofs.X86SoundLemmas.{x86-stays-sound}

pub faults-unchanged : FaultsChangeNothing
faults-unchanged X86_64 code trash q = x86-faults-unchanged code trash q
faults-unchanged Aarch64 code trash q = a64-faults-unchanged code trash q
faults-unchanged Riscv64 code trash q = rv-faults-unchanged code trash q

pub targets-stay-sound : StaysSound
targets-stay-sound X86_64 code trash q bytes t s = x86-stays-sound code trash q bytes t s
targets-stay-sound Aarch64 code trash q bytes t s = a64-stays-sound code trash q bytes t s
targets-stay-sound Riscv64 code trash q bytes t s = stays-sound code trash q bytes t s

pub targets-are-machines : RunsAreMachines
targets-are-machines target code trash = machine_is (effect_of target code trash)
