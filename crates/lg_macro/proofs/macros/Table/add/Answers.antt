use Rattle.std.proofs.Common.{◌≡◌, sym, ap, ◌∙◌, not, if◌then◌else◌, true, false, ◌++◌, ◌∷◌, [], Some, None, is_some}
use Rattle.lg_macro.specs.declared.macros.Macro.{Macro}
use Rattle.lg_macro.specs.Macros.{place_in}
use Rattle.lg_macro.proofs.TableLemmas.{was-there}
use Rattle.lg_macro.proofs.macros.Table.add.Goals as goal

-- where the name was added, no macro had it
none : (c : goal.After-push_reserved) → is_some (place_in c.args.self.now c.args.entry.name) ≡ false
none c = sym (ap (λ n. is_some (place_in c.args.self.now n)) (c.in_ok-name.ensures.items ∙ c.as_slice.ensures.value))
    ∙ sym (ap (λ t. is_some (place_in t c.in_ok-name.name.items)) c.self.view_is)
    ∙ was-there (λ w. w.items) (λ (m : Macro). m.name) c.in_ok-name.name.items c.self.inside.names.keys c.self.inside.macros.items c.in_ok-is_new.is_new c.self.invariant c.in_ok-is_new.ensures.added
    ∙ ap not c.if-not-is_new.false

-- where it was not, one had it
some : (c : goal.Then-not-is_new) → is_some (place_in c.args.self.now c.args.entry.name) ≡ true
some c = sym (ap (λ n. is_some (place_in c.args.self.now n)) (c.in_ok-name.ensures.items ∙ c.as_slice.ensures.value))
    ∙ sym (ap (λ t. is_some (place_in t c.in_ok-name.name.items)) c.self.view_is)
    ∙ was-there (λ w. w.items) (λ (m : Macro). m.name) c.in_ok-name.name.items c.self.inside.names.keys c.self.inside.macros.items c.in_ok-is_new.is_new c.self.invariant c.in_ok-is_new.ensures.added
    ∙ ap not c.if-not-is_new.true

pub returns-then-not-is_new-clause-given_back : goal.returns-then-not-is_new-clause-given_back
returns-then-not-is_new-clause-given_back c = ap (λ b. if b then Some c.args.entry else None) (sym (some c))

pub returns-then-not-is_new-clause-rest : goal.returns-then-not-is_new-clause-rest
returns-then-not-is_new-clause-rest c = c.in_ok-reserve.ensures.items ∙ c.self.view_is ∙ ap (λ b. if b then c.args.self.now else c.args.self.now ++ c.args.entry ∷ []) (sym (some c))

pub returns-clause-given_back : goal.returns-clause-given_back
returns-clause-given_back c = ap (λ b. if b then Some c.args.entry else None) (sym (none c))

pub returns-clause-rest : goal.returns-clause-rest
returns-clause-rest c = c.push_reserved.ensures.items ∙ ap (λ t. t ++ c.args.entry ∷ []) (c.in_ok-reserve.ensures.items ∙ c.self.view_is)
    ∙ ap (λ b. if b then c.args.self.now else c.args.self.now ++ c.args.entry ∷ []) (sym (none c))
