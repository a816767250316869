use Rattle.std.proofs.Common.{sym, ap, ◌∙◌}
use Rattle.lg_temp.specs.Arounds.{seen}
use Rattle.lg_temp.specs.Chosen.{first_saved}
use Rattle.lg_temp.proofs.SavedLemmas.{always-saved}
use Rattle.lg_temp.proofs.choosing.Around.pick_any.Goals as goal

pub unreachable-requires : goal.unreachable-requires
unreachable-requires c =
    let a = seen c.args.self.now in
    let none = ap (first_saved a c.args.needs.now c.args.choices.now) (sym c.order-registers.ensures) ∙ sym c.first_saved.ensures ∙ c.in-None-first_saved.is in
    always-saved a c.args.needs.now c.args.choices.now c.requires.needs c.requires.room none
