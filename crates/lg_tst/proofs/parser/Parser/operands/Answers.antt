use Rattle.std.proofs.Common.{◌<◌, ◌≤◌, ◌∷◌, [], ◌++◌, length, sym, ap, subst, ◌∙◌}
use Rattle.lg_op.specs.declared.form.Form.TheVariants.{Write}
use Rattle.lg_tst.specs.Answers.{Gives}
use Rattle.lg_tst.proofs.OperandLemmas.{not_wanted, no_operand, one_read, all_read}
use Rattle.lg_tst.proofs.StopLemmas.{stops_with}
use Rattle.lg_tst.proofs.parser.Parser.operands.Goals as goal

pub returns-in_err-token : goal.returns-in_err-token
returns-in_err-token c =
    let within = subst (λ fs. c.loop-form.form-index < length fs) c.written_forms-forms.ensures c.loop-form-test.true in
    stops_with c.from_residual.result c.in_err-token.field-0.0 _ _ _ _ _ c.from_residual.ensures.1 c.in_err-token.ensures.gives
    (not_wanted c.args.op c.args.line c.loop-form.form-index c.loop-form.node.operands c.loop-form.self c.args.self.now c.loop-form.invariant.2 Write within)

pub returns-in_err-operand : goal.returns-in_err-operand
returns-in_err-operand c =
    let within = subst (λ fs. c.loop-form.form-index < length fs) c.written_forms-forms.ensures c.loop-form-test.true in
    stops_with c.from_residual-in_err-operand.result c.in_err-operand.field-0.0 _ _ _ _ _ c.from_residual-in_err-operand.ensures.1 c.in_err-operand.ensures.gives
    (no_operand c.args.op c.args.line c.loop-form.form-index c.loop-form.node.operands c.loop-form.self c.args.self.now c.loop-form.invariant.2 Write within c.in_ok-token.token c.in_ok-token.ensures.gives.0 c.written_forms-forms.result.now c.as_slice.result.now c.wanted.new.self c.written_forms-forms.ensures c.as_slice.ensures.value c.in_ok-token.ensures.gives.1)

pub loop-form-preserved : goal.loop-form-preserved
loop-form-preserved c =
    let within = subst (λ fs. c.loop-form.form-index < length fs) c.written_forms-forms.ensures c.loop-form-test.true in (
      c.loop-form.invariant.0,
      c.loop-form.invariant.1,
      one_read c.args.op c.args.line c.loop-form.form-index c.loop-form.node.operands c.loop-form.self c.args.self.now c.loop-form.invariant.2 Write within c.in_ok-token.token c.in_ok-token.ensures.gives.0 c.written_forms-forms.result.now c.as_slice.result.now c.wanted.new.self c.written_forms-forms.ensures c.as_slice.ensures.value c.in_ok-token.ensures.gives.1
          c.in_ok-operand.operand c.operand.new.self c.push.new.self (c.push.ensures ∙ ap (λ xs. xs ++ c.in_ok-operand.operand ∷ []) (sym c.as_slice.ensures.value)) c.in_ok-operand.ensures.gives.0 c.in_ok-operand.ensures.gives.1 c.in_ok-operand.ensures.form c.in_ok-operand.ensures.apart c.operand.ensures.nodes,
    )

pub returns : goal.returns
returns c =
    let past = subst (λ fs. length fs ≤ c.loop-form.form-index) c.written_forms-forms.ensures c.loop-form-test.false in
    subst (λ read. Gives c.push-2.result c.push-2.new.self read) (sym (all_read c.args.op c.args.line c.loop-form.form-index c.loop-form.node.operands c.loop-form.self c.args.self.now c.loop-form.invariant.2 past)) (rw (c.complete.ensures, c.loop-form.invariant.0, c.loop-form.invariant.1) at c.push-2.ensures)
