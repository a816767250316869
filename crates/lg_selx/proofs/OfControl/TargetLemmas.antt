-- x86-64 is a target: what its code does wherever it is.
use Rattle.std.proofs.Common.{ℕ, List, refl}
use Rattle.lg_carry.specs.FinalNodes.{Code}
use Rattle.lg_carry.specs.TextNodes.{HasPlaces}
use Rattle.lg_selx_values.specs.Processor.X86Rows.{x86_rows}
use Rattle.lg_selx_values.proofs.OfProcessor.IsaLemmas.{is-isa}
use Rattle.lg_carry.specs.Nodes.Leaps as leaps
use Rattle.lg_selx.specs.Control.Targets.{IsTarget}
use Rattle.lg_selx.proofs.OfControl.AlignLemmas.{alignments-walk}
use Rattle.lg_selx.proofs.OfControl.BranchLemmas.{branches-lead}
use Rattle.lg_selx.proofs.OfControl.CallLemmas.{calls-lead, register-calls-lead, register-host-calls-lead, host-calls-lead}
use Rattle.lg_selx.proofs.OfControl.HostLemmas.{enters-hosts}
use Rattle.lg_selx.proofs.OfControl.PrologLemmas.{prologs-lead}
use Rattle.lg_selx.proofs.OfControl.ReturnLemmas.{returns-lead}
use Rattle.lg_selx.proofs.OfControl.SumBranchLemmas.{sum-branches-lead}
use Rattle.lg_selx.proofs.OfControl.WalkLemmas.{jumps-walk, register-jumps-walk}

pub is-target : IsTarget
is-target r saved code trash small bytes word = record {
  isa = is-isa code trash small bytes word;
  branches = branches-lead r code trash small bytes word;
  sum_branches = sum-branches-lead r code trash small bytes word;
  prologs = prologs-lead saved code trash small bytes word;
  returns = returns-lead saved code trash small bytes word;
  jumps = jumps-walk code trash small bytes word r;
  alignments = alignments-walk code trash small bytes word;
  register_jumps = register-jumps-walk code trash small bytes word;
  calls = calls-lead code trash small bytes word;
  host_calls = host-calls-lead code trash small bytes word;
  register_calls = register-calls-lead code trash small bytes word;
  register_host_calls = register-host-calls-lead code trash small bytes word;
  hosts = enters-hosts code trash small bytes word;
}

-- an instruction may be anywhere
pub has-places : (code : List ℕ) (trash : ℕ) (c : Code) → HasPlaces 1 c → leaps.HasPlaces (x86_rows code trash) c
has-places code trash c w = record { unit = 1; units = λ pc e. refl; nodes = w }
