use Rattle.std.proofs.Common.{◌≡◌, List, Bool, sym, ◌∙◌}
use mathlib.Core.Path.{fun_ext}
use Rattle.lg_base.specs.declared.target.Target.{Target}
use Rattle.lg_op.specs.declared.operand.Reg.{Reg}
use Rattle.lg_live.specs.RegSets.{has}
use Rattle.lg_live.specs.Uses.{is_read, is_written}
use Rattle.lg_temp.specs.Chosen.{Around, chosen}
use Rattle.lg_temp.proofs.choosing.choose.Goals as goal

same_around : (target : Target) (reads reads' writes writes' live : Reg → Bool) (staged : List Bool) → reads ≡ reads' → writes ≡ writes'
    → ◌≡◌ {A = Around} record { target = target; reads = reads; writes = writes; live = live; staged = staged } record { target = target; reads = reads'; writes = writes'; live = live; staged = staged }
same_around target reads reads' writes writes' live staged r w = λ i. record { target = target; reads = r i; writes = w i; live = live; staged = staged }

pub returns : goal.returns
returns c =
    let a = same_around c.args.target (has c.reads.result) (is_read c.args.node.now) (has c.writes.result) (is_written c.args.node.now) (has c.args.live_after) c.args.staged.arguments
    (fun_ext c.reads.ensures.registers) (fun_ext c.writes.ensures.registers) in
    let needs = c.as_slice.ensures.value in
    let left = c.as_slice-2.ensures.value in
    sym (λ i. chosen (a i) (needs i) (left i) (c.new.ensures i)) ∙ c.chosen.ensures
