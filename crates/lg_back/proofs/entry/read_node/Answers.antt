use Rattle.std.proofs.Common.{◌≡◌, ◌^◌, ◌<◌, ◌++◌, length, drop, ap, ap₂, sym, ◌∙◌, arith, inl}
use Rattle.std.proofs.lemmas.Option.{same_Some, none-some}
use Rattle.lg_list.specs.Lines.{node_line}
use Rattle.lg_back.proofs.InstructionLemmas.{starts-again, starts-front, not-both}
use Rattle.lg_back.proofs.LineLemmas.{node-words}
use Rattle.lg_back.proofs.entry.read_node.Goals as goal

pub returns-in_err-number-clause-none : goal.returns-in_err-number-clause-none
returns-in_err-number-clause-none c = rw c.from_residual.ensures (λ t at line op h.
    none-some line (c.in_err-number.ensures line h.form (c.comment_words.ensures.first ∙ (node-words t at line op c.args.text.now h).0)))

pub returns-in_err-op-clause-none : goal.returns-in_err-op-clause-none
returns-in_err-op-clause-none c = rw c.from_residual-in_err-op.ensures (λ t at line op h.
    none-some op ((c.in_err-op.ensures).every op (inl (c.comment_words.ensures.second ∙ (node-words t at line op c.args.text.now h).1))))

pub returns-then-starts_with-clause-found : goal.returns-then-starts_with-clause-found
returns-then-starts_with-clause-found c =
    let line : c.as_slice-line.result.now ≡ node_line c.in_ok-number.number c.in_ok-op.op = c.as_slice-line.ensures.value ∙ c.write_node_line.ensures in
    let front : c.args.text.now ≡ c.as_slice-line.result.now ++ drop (length c.as_slice-line.result.now) c.args.text.now = starts-front c.args.text.now c.as_slice-line.result.now (sym c.starts_with.ensures.value ∙ c.if-starts_with.true) in
    let whole : c.args.text.now ≡ node_line c.in_ok-number.number c.in_ok-op.op ++ drop (length c.as_slice-line.result.now) c.args.text.now = front ∙ ap (λ x. x ++ drop (length c.as_slice-line.result.now) c.args.text.now) line in
    let small : c.in_ok-number.number < 2 ^ 32 = omega arith in
    (c.in_ok-number.number, c.in_ok-op.op, (λ t at. record { form = small; rest = drop (length c.as_slice-line.result.now) c.args.text.now; text_is = whole }), ap length line)

pub returns-else-starts_with-clause-none : goal.returns-else-starts_with-clause-none
returns-else-starts_with-clause-none c t at line op h =
    let words = node-words t at line op c.args.text.now h in
    let number : c.in_ok-number.number ≡ line = same_Some _ line (c.in_ok-number.ensures line h.form (c.comment_words.ensures.first ∙ words.0)) in
    let own : c.in_ok-op.op ≡ op = same_Some _ op ((c.in_ok-op.ensures).every op (inl (c.comment_words.ensures.second ∙ words.1))) in
    let printed : c.as_slice-line.result.now ≡ node_line line op = c.as_slice-line.ensures.value ∙ c.write_node_line.ensures ∙ ap₂ node_line number own in
    not-both _ _ c.if-starts_with.false c.starts_with.ensures.value (starts-again c.args.text.now c.as_slice-line.result.now h.rest (h.text_is ∙ ap (λ x. x ++ h.rest) (sym printed)))
