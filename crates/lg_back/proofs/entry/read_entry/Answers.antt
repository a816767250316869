use Rattle.std.proofs.Common.{◌≡◌, true, false, [], ◌∷◌, drop, nat_eq, ap, sym, ◌∙◌}
use Rattle.std.specs.List.{starts_with}
use Rattle.lg_list.specs.Lines.Entry.{Label, Node, Code}
use Rattle.lg_back.specs.Reading.{HasNodeLine, HasLabelLine, HasCodeLine}
use Rattle.lg_back.proofs.LineLemmas.{none-but-nodes, none-but-codes, none-but-labels, if-none, if-some}
use Rattle.lg_back.proofs.entry.read_entry.Goals as goal

pub returns-then-starts_with-clause-none : goal.returns-then-starts_with-clause-none
returns-then-starts_with-clause-none c =
    if-none c.read_node.result _ _ (λ none. none-but-nodes c.args.target c.args.at c.args.text.now (sym c.starts_with.ensures.value ∙ c.if-starts_with.true) none) c.read_node.ensures.none

pub returns-then-starts_with-clause-found : goal.returns-then-starts_with-clause-found
returns-then-starts_with-clause-found c =
    if-some c.read_node.result (HasNodeLine c.args.text.now) _ (λ len f. (Node f.0 f.1, f.2 c.args.target c.args.at, c.clear.ensures, f.3)) c.read_node.ensures.found

pub returns-then-starts_with-2-clause-none : goal.returns-then-starts_with-2-clause-none
returns-then-starts_with-2-clause-none c =
    let ninth : starts_with nat_eq (drop 9 c.args.text.now) (32 ∷ []) ≡ true = ap (λ r. starts_with nat_eq r (32 ∷ [])) (sym c.behind.ensures) ∙ sym c.starts_with-2.ensures.value ∙ c.if-starts_with-2.true in
    if-none c.read_instruction.result _ _ (λ none. none-but-codes c.args.target c.args.at c.args.text.now (sym c.starts_with.ensures.value ∙ c.if-starts_with.false) ninth none) c.read_instruction.ensures.none

pub returns-then-starts_with-2-clause-found : goal.returns-then-starts_with-2-clause-found
returns-then-starts_with-2-clause-found c =
    if-some c.read_instruction.result (HasCodeLine c.args.target c.args.at c.args.text.now c.read_instruction.new.bytes) _ (λ len f. (Code f.0, f.1, f.2, f.3)) c.read_instruction.ensures.found

pub returns-clause-none : goal.returns-clause-none
returns-clause-none c =
    let ninth : starts_with nat_eq (drop 9 c.args.text.now) (32 ∷ []) ≡ false = ap (λ r. starts_with nat_eq r (32 ∷ [])) (sym c.behind.ensures) ∙ sym c.starts_with-2.ensures.value ∙ c.if-starts_with-2.false in
    if-none c.read_label.result _ _ (λ none. none-but-labels c.args.target c.args.at c.args.text.now (sym c.starts_with.ensures.value ∙ c.if-starts_with.false) ninth none) c.read_label.ensures.none

pub returns-clause-found : goal.returns-clause-found
returns-clause-found c =
    if-some c.read_label.result (HasLabelLine c.args.at c.args.text.now) _ (λ len f. (Label f.0, f.1 c.args.target, c.clear-2.ensures, f.2)) c.read_label.ensures.found
