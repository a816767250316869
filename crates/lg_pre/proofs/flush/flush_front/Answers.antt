use Rattle.std.proofs.Common.{◌≤◌, ◌+◌, ℕ, length, arith}
use Rattle.lg_pre.proofs.EarlyLemmas.{flush_more, flush_stops, some_has, tried_is}
use Rattle.lg_pre.proofs.flush.flush_front.Goals as goal

pub returns-in_err-give-in-Some-clause-gives : goal.returns-in_err-give-in-Some-clause-gives
returns-in_err-give-in-Some-clause-gives c =
    flush_stops c.from_residual-in_err-give-in-Some.result c.in_err-give-in-Some.field-0.0 c.args.table.now c.args.pieces.now c.try_step.new.out c.take-out.result c.names.work.hidden.items c.names.at c.in-Some.n
    c.args.given.now c.names.given c.give.new.given c.give.new.given c.args.work.now.sum c.names.work.sum c.try_step.new.work.sum c.try_step.new.work.sum
    c.from_residual-in_err-give-in-Some.ensures.1 c.names.invariant.4 (omega arith) (omega arith) c.names.invariant.3 c.take-out.ensures
    (tried_is c.in_ok-tried.tried c.in-Some.n c.names.work.sum (c.try_step.new.out, c.try_step.new.work.sum) _ c.in-Some.is c.in_ok-tried.ensures.tried) c.in_err-give-in-Some.ensures

pub overflow_add-at-in-Some : goal.overflow_add-at-in-Some
overflow_add-at-in-Some c = omega (arith, some_has (λ (n : ℕ). c.names.at + 1 + n ≤ length c.args.pieces.now) c.in_ok-tried.tried c.in-Some.n c.in-Some.is c.in_ok-tried.ensures.end)

pub overflow_add-at : goal.overflow_add-at
overflow_add-at c = omega (arith, some_has (λ (n : ℕ). c.names.at + 1 + n ≤ length c.args.pieces.now) c.in_ok-tried.tried c.in-Some.n c.in-Some.is c.in_ok-tried.ensures.end)

pub names-preserved : goal.names-preserved
names-preserved c =
    let end : c.names.at + 1 + c.in-Some.n ≤ length c.args.pieces.now = some_has (λ (n : ℕ). c.names.at + 1 + n ≤ length c.args.pieces.now) c.in_ok-tried.tried c.in-Some.n c.in-Some.is c.in_ok-tried.ensures.end in (
      c.names.invariant.0,
      c.names.invariant.1,
      omega (arith, end),
      c.in_ok-tried.ensures.hidden,
      flush_more c.args.table.now c.args.pieces.now c.try_step.new.out c.take-out.result c.names.work.hidden.items c.names.at c.in-Some.n
          c.args.given.now c.names.given c.give.new.given c.args.work.now.sum c.names.work.sum c.try_step.new.work.sum c.names.invariant.4 (omega arith) (omega arith) c.names.invariant.3 c.take-out.ensures
          (tried_is c.in_ok-tried.tried c.in-Some.n c.names.work.sum (c.try_step.new.out, c.try_step.new.work.sum) _ c.in-Some.is c.in_ok-tried.ensures.tried) c.in_ok-give-in-Some.ensures end,
    )
