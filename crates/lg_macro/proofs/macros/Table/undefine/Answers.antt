use Rattle.std.proofs.Common.{sym, ap, ◌∙◌, map}
use Rattle.std.specs.Str.{bytes_eq}
use Rattle.lg_macro.specs.declared.macros.Macro.{Macro}
use Rattle.lg_macro.specs.Macros.{place_in}
use Rattle.lg_macro.proofs.TableLemmas.{same-place, removed, none, one-out}
use Rattle.lg_macro.proofs.macros.Table.undefine.Goals as goal

pub invariant_of-self : goal.invariant_of-self
invariant_of-self c =
    let place = same-place (λ w. w.items) (λ (m : Macro). m.name) c.args.name.now c.self.inside.names.keys c.self.inside.macros.items c.self.invariant
    ∙ ap (λ t. place_in t c.args.name.now) c.self.view_is ∙ sym c.place_in.ensures.value ∙ c.in-Some.is in
    ap (map (λ w. w.items)) (c.shift_take.ensures.keys ∙ removed (λ w. bytes_eq c.args.name.now w.items) c.self.inside.names.keys c.in-Some.place place)
    ∙ one-out (λ w. w.items) (λ (m : Macro). m.name) c.in-Some.place c.self.inside.names.keys c.self.inside.macros.items c.self.invariant
    ∙ ap (map (λ (m : Macro). m.name)) (sym c.remove.ensures.items)

pub returns-in-Some-clause-gone : goal.returns-in-Some-clause-gone
returns-in-Some-clause-gone c =
    sym (same-place (λ w. w.items) (λ (m : Macro). m.name) c.args.name.now c.shift_take.new.self.keys c.remove.new.self.items (invariant_of-self c))
    ∙ none (λ w. bytes_eq c.args.name.now w.items) c.shift_take.new.self.keys c.shift_take.ensures.updates.1
