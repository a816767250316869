use Rattle.std.proofs.Common.{ℕ, subst, ◌∙◌}
use Rattle.std.specs.Prelude.{slice_index}
use Rattle.lg_base.specs.declared.flags.Flags.{Flags}
use Rattle.lg_cpu.specs.States.{arrives}
use Rattle.lg_cpu.specs.X86Operators.{no_flags}
use Rattle.lg_cpu.specs.Machines.{x86_inner, x86_state, Does}
use Rattle.lg_cpu.proofs.x86_64.X86_64.leave_host.Goals as goal

pub returns : goal.returns
returns c =
    let old = c.args.self.now in
    subst (λ (g : ℕ → ℕ). Does (arrives c.args.link g no_flags (x86_state old).bytes (x86_state old).mark) (x86_inner old) (x86_inner c.go.new.self) c.go.result) c.registers_after_return-self.ensures
    (subst (λ (f : Flags). Does (arrives c.args.link (slice_index c.registers_after_return-self.result) f (x86_state old).bytes (x86_state old).mark) (x86_inner old) (x86_inner c.go.new.self) c.go.result) (c.set.ensures ∙ c.no_flags.ensures) c.go.ensures)
