use Rattle.std.proofs.Common.{◌≡◌, ◌≤◌, ◌++◌, length, drop, ap, ap₂, sym, ◌∙◌, arith}
use Rattle.std.proofs.lemmas.Option.{same_Some, none-some}
use Rattle.lg_base.specs.Layout.{most_code}
use Rattle.lg_list.specs.Lines.{first_line}
use Rattle.lg_back.proofs.InstructionLemmas.{starts-again, starts-front, not-both}
use Rattle.lg_back.proofs.LineLemmas.{head-words}
use Rattle.lg_back.proofs.head.read_head.Goals as goal

pub returns-in_err-count-clause-none : goal.returns-in_err-count-clause-none
returns-in_err-count-clause-none c = rw c.from_residual-in_err-count.ensures (λ t count h.
    none-some count (c.in_err-count.ensures count (omega (arith, h.small)) (c.comment_words.ensures.second ∙ (head-words c.args.text.now t count h).1)))

pub returns-then-count-gt-MOST_CODE-clause-none : goal.returns-then-count-gt-MOST_CODE-clause-none
returns-then-count-gt-MOST_CODE-clause-none c t count h =
    let number : c.in_ok-count.count ≡ count = same_Some _ count (c.in_ok-count.ensures count (omega (arith, h.small)) (c.comment_words.ensures.second ∙ (head-words c.args.text.now t count h).1)) in
    omega (arith, number, h.small, c.if-count-gt-MOST_CODE.true)

pub returns-then-starts_with-clause-found : goal.returns-then-starts_with-clause-found
returns-then-starts_with-clause-found c =
    let line : c.as_slice-line.result.now ≡ first_line c.in_ok-target.target c.in_ok-count.count = c.as_slice-line.ensures.value ∙ c.first_line-line.ensures in
    let front : c.args.text.now ≡ c.as_slice-line.result.now ++ drop (length c.as_slice-line.result.now) c.args.text.now = starts-front c.args.text.now c.as_slice-line.result.now (sym c.starts_with.ensures.value ∙ c.if-starts_with.true) in
    let whole : c.args.text.now ≡ first_line c.in_ok-target.target c.in_ok-count.count ++ drop (length c.as_slice-line.result.now) c.args.text.now = front ∙ ap (λ x. x ++ drop (length c.as_slice-line.result.now) c.args.text.now) line in
    let small : c.in_ok-count.count ≤ most_code = omega (arith, c.if-count-gt-MOST_CODE.false) in
    (record { rest = drop (length c.as_slice-line.result.now) c.args.text.now; text_is = whole; small = small }, ap length line)

pub returns-else-starts_with-clause-none : goal.returns-else-starts_with-clause-none
returns-else-starts_with-clause-none c t count h =
    let words = head-words c.args.text.now t count h in
    let own : c.in_ok-target.target ≡ t = same_Some _ t (c.in_ok-target.ensures t (c.comment_words.ensures.first ∙ words.0)) in
    let number : c.in_ok-count.count ≡ count = same_Some _ count (c.in_ok-count.ensures count (omega (arith, h.small)) (c.comment_words.ensures.second ∙ words.1)) in
    let printed : c.as_slice-line.result.now ≡ first_line t count = c.as_slice-line.ensures.value ∙ c.first_line-line.ensures ∙ ap₂ first_line own number in
    not-both _ _ c.if-starts_with.false c.starts_with.ensures.value (starts-again c.args.text.now c.as_slice-line.result.now h.rest (h.text_is ∙ ap (λ x. x ++ h.rest) (sym printed)))
