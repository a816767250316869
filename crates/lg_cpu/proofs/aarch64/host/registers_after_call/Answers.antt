use Rattle.std.proofs.Common.{◌≡◌, ◌∙◌, sym, ap, arith}
use Rattle.std.specs.Prelude.{slice_index}
use Rattle.std.proofs.Math.ListN.{length-set}
use Rattle.lg_base.proofs.SpaceLemmas.{slice_index-set}
use Rattle.lg_base.specs.declared.target.Target.TheVariants as target
use Rattle.lg_cpu.specs.HostSteps.{clobbered, put}
use Rattle.lg_cpu.proofs.CallLemmas.{kept_more, lost_more}
use Rattle.lg_cpu.proofs.aarch64.host.registers_after_call.Goals as goal
use Rattle.lg_cpu.proofs.aarch64.host.registers_after_call.Goals.{then-not-keeps, else-not-keeps}

pub loop-register-preserved : goal.loop-register-preserved
loop-register-preserved c =
    let i = c.loop-register.invariant in
    let n = c.loop-register.register in
    let registers = slice_index c.args.registers.now in
    elim c.if-not-keeps.branch [
      | then-not-keeps w ↦ rw w.behind-is record {
        lost = lost_more target.Aarch64 n registers c.loop-register.behind c.args.trash (omega (arith, i.long)) (sym c.keeps.ensures ∙ w.if-not-keeps.true) i.lost;
        long = length-set c.loop-register.behind n c.args.trash ∙ i.long;
      }
      | else-not-keeps w ↦ rw w.behind-is record {
        lost = i.lost ∙ kept_more target.Aarch64 n registers c.args.trash (sym c.keeps.ensures ∙ w.if-not-keeps.false);
        long = i.long;
      }
    ]

pub returns : goal.returns
returns c =
    let i = c.loop-register.invariant in
    let all : c.loop-register.register ≡ 32 = omega arith in
    slice_index-set c.loop-register.behind 0 c.args.answer (omega (arith, i.long))
    ∙ ap (λ f. put f 0 c.args.answer) (i.lost ∙ ap (λ n. clobbered target.Aarch64 n (slice_index c.args.registers.now) c.args.trash) all)
