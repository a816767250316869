use Rattle.std.proofs.Common.{◌∙◌, ◌-◌, List, ℕ, sym, subst, refl, length, arith, Result}
use Rattle.lg_macro.specs.Macros.{CountsAs}
use Rattle.lg_base.specs.declared.refusal.Refusal.{Refusal}
use Rattle.lg_replacement.proofs.ExpansionLemmas.{steps_blames}
use Rattle.lg_pre.proofs.LineLemmas.{lines_more, lines_stop, lines_done}
use Rattle.lg_pre.proofs.StopLemmas.{counts_from}
use Rattle.lg_pre.proofs.expander.Expander.read_lines.Goals as goal

pub lines-init : goal.lines-init
lines-init c = (c.len-end.ensures, omega arith, (length c.args.text.now, omega arith, refl))

pub lines-preserved : goal.lines-preserved
lines-preserved c = (
  c.lines.invariant.0,
  omega (arith, c.in_ok-next.ensures.inside.1),
  (
    c.lines.invariant.2.0 - 1,
    omega (arith, c.in_ok-next.ensures.inside.0),
    lines_more c.lines.invariant.2.0 c.args.text.now c.lines.self c.one_line.new.self c.lines.at c.in_ok-next.next (omega arith) (omega arith) c.in_ok-next.ensures.line ∙ c.lines.invariant.2.2,
  ),
)

pub returns-in_err-next : goal.returns-in_err-next
returns-in_err-next c = counts_from c.from_residual.result c.in_err-next.field-0.0 _ _ c.from_residual.ensures.1
    (steps_blames c.in_err-next.field-0.0 _ _ _ c.in_err-next.ensures.line (λ fault e. sym c.lines.invariant.2.2 ∙ lines_stop c.lines.invariant.2.0 c.args.text.now c.lines.self c.lines.at fault (omega arith) (omega arith) e))

pub returns : goal.returns
returns c = subst (λ (read : Result (List ℕ) Refusal). CountsAs c.finish.result c.finish.new.self.given read)
    (sym (lines_done c.lines.invariant.2.0 c.args.text.now c.lines.self c.lines.at (omega arith)) ∙ c.lines.invariant.2.2)
    c.finish.ensures
