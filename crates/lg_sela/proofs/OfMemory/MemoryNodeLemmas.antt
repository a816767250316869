-- Loads, stores and nodes that read and pass arguments are carried: AArch64's code is that of a target.
use Rattle.lg_sela_values.specs.Processor.A64Computers.{a64_scratch}
use Rattle.lg_sela_values.specs.Processor.A64Rows.{a64_rows}
use Rattle.lg_sela_values.proofs.OfProcessor.IsaLemmas.{is-isa}
use Rattle.lg_a64.specs.Spelling.{IsInstr}
use Rattle.lg_carry.proofs.OfMemory.GetargLemmas.{arguments-carry}
use Rattle.lg_carry.proofs.OfMemory.MemoryNodeLemmas.{loads-carry, stores-carry}
use Rattle.lg_carry.proofs.OfMemory.PushLemmas.{pushes-carry}
use Rattle.lg_carry.proofs.OfMemory.VariableArgumentLemmas.{next-arguments-carry}
use Rattle.lg_sela.specs.Memory.Accesses.{a64_load, a64_store}
use Rattle.lg_sela.specs.Memory.ArgumentCode.{a64_argument}
use Rattle.lg_sela.specs.Memory.MemoryNodes.{MemoryIsCarried}
use Rattle.lg_sela.specs.Memory.PushCode.{a64_push}
use Rattle.lg_sela.specs.Memory.VariableArgumentCode.{a64_next_argument}
use Rattle.lg_sela.proofs.OfMemory.ArgumentLemmas.{arguments-do, has-argument-code}
use Rattle.lg_sela.proofs.OfMemory.LoadLemmas.{loads-do, has-code}
use Rattle.lg_sela.proofs.OfMemory.PushLemmas.{pushes-do, has-push-code}
use Rattle.lg_sela.proofs.OfMemory.StoreLemmas.{stores-do, has-store-code}
use Rattle.lg_sela.proofs.OfMemory.VariableArgumentLemmas.{next-arguments-do, has-next-argument-code}

pub memory-is-carried : MemoryIsCarried
memory-is-carried code trash small bytes word =
    let isa = is-isa code trash small bytes word in record {
      loads = loads-carry (a64_rows code trash) a64_scratch IsInstr isa a64_load (loads-do code trash) (has-code code trash);
      stores = stores-carry (a64_rows code trash) a64_scratch IsInstr isa a64_store (stores-do code trash) (has-store-code code trash);
      arguments = arguments-carry (a64_rows code trash) a64_scratch IsInstr isa a64_argument (arguments-do code trash) (has-argument-code code trash);
      next_arguments = next-arguments-carry (a64_rows code trash) a64_scratch IsInstr isa a64_next_argument (next-arguments-do code trash) (has-next-argument-code code trash);
      pushes = pushes-carry (a64_rows code trash) a64_scratch IsInstr isa a64_push (pushes-do code trash) (has-push-code code trash);
    }
