use Rattle.std.proofs.Common.{◌-◌, sym, ap, ◌∙◌}
use Rattle.std.specs.Prelude.{slice_index}
use Rattle.lg_base.proofs.HeldLemmas.{from_end_index, turned-at}
use Rattle.lg_base.proofs.memory.stack.Stack.get.Goals as goal

pub returns : goal.returns
returns c =
    let held = c.self.inside.held.items in
    rw (← c.self.view_is) (c.byte_or_zero.ensures ∙ ap (λ xs. slice_index xs (1048575 - c.args.at)) c.deref.ensures.value ∙ sym (turned-at 0x100000 (slice_index held) c.args.at c.requires)
    ∙ ap (λ f. f c.args.at) (sym (from_end_index 0x100000 held c.self.invariant.0)))
