use Rattle.std.proofs.Common.{[], ◌∷◌, ◌++◌, sym, ap, ◌∙◌, map}
use Rattle.lg_node.proofs.NodeListLemmas.{any-map, keys-new, map-push}
use Rattle.lg_explain.specs.Twice.{is_made}
use Rattle.lg_explain.proofs.TwiceLemmas.{added, kept}
use Rattle.lg_explain.proofs.made.Made.add.Goals as goal

pub returns-then-is_some : goal.returns-then-is_some
returns-then-is_some c =
    let held = ap (λ ws. is_made ws c.args.word.now) (sym c.self.view_is) ∙ any-map (λ v. v.items) c.args.word.now c.self.inside.words.keys in
    kept c.args.self.now c.args.word.now (held ∙ sym c.get_index_of.ensures.found ∙ sym c.is_some.ensures ∙ c.if-is_some.true)

pub returns-in-Ok : goal.returns-in-Ok
returns-in-Ok c =
    let held = ap (λ ws. is_made ws c.args.word.now) (sym c.self.view_is) ∙ any-map (λ v. v.items) c.args.word.now c.self.inside.words.keys in
    let absent = sym c.get_index_of.ensures.found ∙ sym c.is_some.ensures ∙ c.if-is_some.false in
    let new = keys-new (λ v. v.items) c.args.word.now c.self.inside.words.keys c.insert_full.new.self.keys c.in_ok-key.key c.in_ok-key.ensures.items absent c.in-Ok.ensures.keys in
    added c.args.self.now _ c.args.word.now (held ∙ absent)
    (ap (map (λ v. v.items)) new ∙ map-push (λ v. v.items) c.args.word.now c.self.inside.words.keys c.in_ok-key.key c.in_ok-key.ensures.items ∙ ap (λ ws. ws ++ c.args.word.now ∷ []) c.self.view_is)
