use Rattle.std.proofs.Common.{Ok, sym, ap, ◌∙◌}
use Rattle.lg_tst.specs.Units.{State, statement_from}
use Rattle.lg_tst.proofs.StopLemmas.{stops, stops_state}
use Rattle.lg_tst.proofs.TextLemmas.{text_ends, text_faults, statement_faults, fewer_left, statement_read}
use Rattle.lg_tst.proofs.parser.Parser.statements.Goals as goal

pub returns-in_err-token : goal.returns-in_err-token
returns-in_err-token c =
    stops c.from_residual.result c.in_err-token.field-0.0 c.next_token.new.self _ _ c.from_residual.ensures.1 c.in_err-token.ensures.value
    (text_faults c.loop-token.self c.args.self.now c.loop-token.invariant)

pub loop-token-smaller : goal.loop-token-smaller
loop-token-smaller c =
    let is = c.in_ok-token.ensures.value ∙ ap (λ o. Ok o) c.in-Some.is in
    let read = ap (λ (s : State). statement_from s c.in-Some.token) (sym c.next_token.ensures.behind) ∙ c.in_ok-statement.ensures in
    fewer_left c.loop-token.self c.args.self.now c.loop-token.invariant c.in-Some.token is c.statement.new.self read

pub loop-token-preserved : goal.loop-token-preserved
loop-token-preserved c =
    let is = c.in_ok-token.ensures.value ∙ ap (λ o. Ok o) c.in-Some.is in
    let read = ap (λ (s : State). statement_from s c.in-Some.token) (sym c.next_token.ensures.behind) ∙ c.in_ok-statement.ensures in
    statement_read c.loop-token.self c.args.self.now c.loop-token.invariant c.in-Some.token is c.statement.new.self read

pub returns-in_err-statement : goal.returns-in_err-statement
returns-in_err-statement c =
    let is = c.in_ok-token.ensures.value ∙ ap (λ o. Ok o) c.in-Some.is in
    stops_state c.from_residual-in_err-statement.result c.in_err-statement.field-0.0 c.statement.new.self c.statement.new.self _ _ c.from_residual-in_err-statement.ensures.1 c.in_err-statement.ensures
    (λ refusal e. statement_faults c.loop-token.self c.args.self.now c.loop-token.invariant c.in-Some.token is refusal (ap (λ (s : State). statement_from s c.in-Some.token) (sym c.next_token.ensures.behind) ∙ e))

pub returns : goal.returns
returns c =
    let is = c.in_ok-token.ensures.value ∙ ap (λ o. Ok o) c.in_default.is in
    text_ends c.loop-token.self c.args.self.now c.loop-token.invariant is ∙ ap (λ (s : State). Ok s) (sym c.next_token.ensures.behind)
