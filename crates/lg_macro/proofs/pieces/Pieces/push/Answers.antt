use Rattle.std.proofs.Common.{List, [], ap, length, ◌∙◌, ◌∷◌, ◌++◌}
use Rattle.lg_macro.specs.declared.pieces.Part.{Part}
use Rattle.lg_macro.proofs.PieceLemmas.{pushed}
use Rattle.lg_macro.proofs.pieces.Pieces.push.Goals as goal

pub returns : goal.returns
returns c =
    let part : Part = record { kind = c.args.kind; frozen = c.args.frozen; line = c.args.line; start = length c.as_slice-start.result.now; end = length c.as_slice-end.result.now } in
    let grown = c.push_reserved.ensures.items ∙ ap (λ (ps : List Part). ps ++ part ∷ []) c.reserve.ensures.items in
    pushed c.self.inside.bytes.items c.args.text.now c.push_text.new.bytes.items c.self.inside.parts.items c.push_reserved.new.self.items c.args.self.now part c.self.invariant.0 c.self.view_is
    c.in_ok-push_text.ensures.items grown (ap length c.as_slice-start.ensures.value) (ap length c.as_slice-end.ensures.value)
