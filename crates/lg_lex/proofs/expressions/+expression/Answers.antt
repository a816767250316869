use Rattle.std.proofs.Common.{◌-◌, ◌<◌, suc, length, sym, ◌∙◌, arith}
use Rattle.lg_lex.specs.Expressions.{unary_at, binary_of}
use Rattle.lg_lex.proofs.ReaderLemmas.{binary_lowest, binary_none, binary_first, joined_more, joined_no_operand, joined_no_value, joined_end, inner_unary_below, inner_whole_below, whole_plain}
use Rattle.lg_lex.proofs.expressions.+expression.Goals as goal

pub binary-returns-then-level-eq0-clause-value : goal.binary-returns-then-level-eq0-clause-value
binary-returns-then-level-eq0-clause-value t c =
    c.unary.ensures.value ∙ binary_lowest c.args.bytes.now (unary_at c.args.bytes.now c.args.levels) c.args.level c.args.place c.if-level-eq0.true

pub binary-returns-in_err-left-clause-value : goal.binary-returns-in_err-left-clause-value
binary-returns-in_err-left-clause-value t c =
    c.from_residual.ensures ∙ sym (binary_none c.args.bytes.now _ c.args.level c.args.place (omega arith) (sym c.binary.ensures.value ∙ c.in_err-left.was))

pub binary-operators-init : goal.binary-operators-init
binary-operators-init t c =
    let later = c.in_ok-left.ensures.later in (
      later.0,
      later.1,
      c.in_ok-left.ensures.low,
      (
        suc (length c.args.bytes.now),
        omega arith,
        binary_first c.args.bytes.now _ c.args.level c.args.place c.in_ok-left.left (omega arith) (sym c.binary.ensures.value ∙ c.in_ok-left.was),
      ),
    )

pub binary-returns-in_err-right-clause-value : goal.binary-returns-in_err-right-clause-value
binary-returns-in_err-right-clause-value t c =
    let unary = unary_at c.args.bytes.now c.args.levels in
    let operand = binary_of c.args.bytes.now unary (c.args.level - 1) in
    let whole = binary_of c.args.bytes.now unary c.args.level c.args.place in
    let found = sym c.operator.ensures.value ∙ c.in-Some.is in
    let right = sym c.binary-in-Some.ensures.value ∙ c.in_err-right.was in
    joined_no_operand c.args.bytes.now operand c.args.level c.operators.invariant.3.0 c.operators.left whole c.operators.invariant.3.2 _ _ _ found right c.from_residual-in_err-right.ensures

pub binary-returns-in_err-left-2-clause-value : goal.binary-returns-in_err-left-2-clause-value
binary-returns-in_err-left-2-clause-value t c =
    let unary = unary_at c.args.bytes.now c.args.levels in
    let operand = binary_of c.args.bytes.now unary (c.args.level - 1) in
    let whole = binary_of c.args.bytes.now unary c.args.level c.args.place in
    let found = sym c.operator.ensures.value ∙ c.in-Some.is in
    let right = sym c.binary-in-Some.ensures.value ∙ c.in_ok-right.was in
    let both = sym c.combined.ensures.value ∙ c.in_err-left-2.was in
    joined_no_value c.args.bytes.now operand c.args.level c.operators.invariant.3.0 c.operators.left whole c.operators.invariant.3.2 c.in_ok-right.right _ _ _ found right both c.from_residual-in_err-left-2.ensures

pub binary-operators-preserved : goal.binary-operators-preserved
binary-operators-preserved t c =
    let unary = unary_at c.args.bytes.now c.args.levels in
    let operand = binary_of c.args.bytes.now unary (c.args.level - 1) in
    let whole = binary_of c.args.bytes.now unary c.args.level c.args.place in
    let found = sym c.operator.ensures.value ∙ c.in-Some.is in
    let right = sym c.binary-in-Some.ensures.value ∙ c.in_ok-right.was in
    let both = sym c.combined.ensures.value ∙ c.in_ok-left-2.was in
    let inside = c.in-Some.ensures.inside in
    let later = c.in_ok-right.ensures.later in
    let low = c.in_ok-right.ensures.low in
    let end = c.in_ok-left-2.ensures.end in
    let levels = c.in_ok-left-2.ensures.low in
    let some : 0 < c.operators.invariant.3.0 = omega arith in (
      omega arith,
      omega arith,
      omega arith,
      (
        c.operators.invariant.3.0 - 1,
        omega arith,
        joined_more c.args.bytes.now operand c.args.level c.operators.invariant.3.0 c.operators.left whole c.operators.invariant.3.2 c.in_ok-right.right c.in_ok-left-2.left _ _ some found right both,
      ),
    )

pub binary-returns-clause-value : goal.binary-returns-clause-value
binary-returns-clause-value t c =
    let unary = unary_at c.args.bytes.now c.args.levels in
    let operand = binary_of c.args.bytes.now unary (c.args.level - 1) in
    let whole = binary_of c.args.bytes.now unary c.args.level c.args.place in
    let none = sym c.operator.ensures.value ∙ c.in_default.is in
    joined_end c.args.bytes.now operand c.args.level c.operators.invariant.3.0 c.operators.left whole c.operators.invariant.3.2 (omega arith) none

pub inner_unary-returns-clause-value : goal.inner_unary-returns-clause-value
inner_unary-returns-clause-value t c =
    c.unary.ensures.value ∙ inner_unary_below c.args.bytes.now c.args.levels c.args.place (omega arith)

pub inner_whole-returns-clause-value : goal.inner_whole-returns-clause-value
inner_whole-returns-clause-value t c =
    c.whole.ensures.value ∙ inner_whole_below c.args.bytes.now c.args.levels c.args.place (omega arith)

pub whole-returns-in-None-clause-value : goal.whole-returns-in-None-clause-value
whole-returns-in-None-clause-value t c =
    sym (whole_plain c.args.bytes.now c.args.levels c.args.place c.in_ok-test.test (sym c.binary.ensures.value ∙ c.in_ok-test.was) (sym c.after_byte.ensures.value ∙ c.in-None.is))
