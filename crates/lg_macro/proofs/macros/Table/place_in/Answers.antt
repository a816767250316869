use Rattle.std.proofs.Common.{ap, ◌∙◌}
use Rattle.lg_macro.specs.declared.macros.Macro.{Macro}
use Rattle.lg_macro.specs.Macros.{place_in}
use Rattle.lg_macro.proofs.TableLemmas.{same-place}
use Rattle.lg_macro.proofs.macros.Table.place_in.Goals as goal

pub returns-clause-value : goal.returns-clause-value
returns-clause-value c =
    c.get_index_of.ensures.index
    ∙ same-place (λ w. w.items) (λ (m : Macro). m.name) c.args.name.now c.self.inside.names.keys c.self.inside.macros.items c.self.invariant
    ∙ ap (λ t. place_in t c.args.name.now) c.self.view_is
