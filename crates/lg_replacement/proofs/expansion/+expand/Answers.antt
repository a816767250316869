use Rattle.std.proofs.Common.{◌+◌, ◌-◌, take, drop, length, refl, sym, ◌∙◌, subst, arith}
use Rattle.lg_macro.specs.Macros.{CountsAs, StepsAs}
use Rattle.lg_replacement.specs.Expansion.{expand_in, Outcome, Step}
use Rattle.lg_macro.specs.Arguments.{arguments_of}
use Rattle.lg_macro.specs.Pieces.{piece_at}
use Rattle.lg_replacement.proofs.ExpansionLemmas.{expand_none, expand_begun, walk_done, walk_more, walk_stop, each_next, each_stop, each_done, counts_stop, steps_stop, eachs_stop, counts_blames, steps_blames, each_blames, replaced_uncounted, replaced_halts, replaced_put, arguments_some, arguments_none, called_wrong, called_halts, called_done, opened_called, opened_wrong}
use Rattle.lg_replacement.proofs.ReplacementLemmas.{each-plain}
use Rattle.lg_replacement.proofs.expansion.+expand.Goals as goal

pub expand-returns-then-levels-eq0-clause-gives : goal.expand-returns-then-levels-eq0-clause-gives
expand-returns-then-levels-eq0-clause-gives t c = rw c.refused.ensures (expand_none c.args.table.now c.args.levels c.args.line c.args.work.now.hidden.items c.args.pieces.now (c.args.out.now, c.args.work.now.sum) c.if-levels-eq0.true)

pub expand-pieces-init : goal.expand-pieces-init
expand-pieces-init t c = (c.len-end.ensures, omega arith, omega arith, refl, (length c.args.pieces.now, omega arith, expand_begun c.args.table.now c.args.levels c.args.line c.args.work.now.hidden.items c.args.pieces.now (c.args.out.now, c.args.work.now.sum) (omega arith)))

pub expand-returns-in_err-n-clause-gives : goal.expand-returns-in_err-n-clause-gives
expand-returns-in_err-n-clause-gives t c =
    counts_stop c.from_residual.result c.in_err-n.field-0.0 _ _ c.from_residual.ensures.1
    (steps_blames c.in_err-n.field-0.0 _ _ _ c.in_err-n.ensures.gives
    (λ fault e. sym c.pieces.invariant.4.2 ∙ walk_stop c.args.table.now (expand_in c.args.table.now (c.args.levels - 1)) c.pieces.invariant.4.0 c.pieces.at c.pieces.work.hidden.items c.args.pieces.now (c.pieces.out, c.pieces.work.sum) fault (omega arith) (omega arith) e))

pub expand-pieces-preserved : goal.expand-pieces-preserved
expand-pieces-preserved t c = (
  c.pieces.invariant.0,
  omega (arith, c.in_ok-n.ensures.end),
  c.pieces.invariant.2,
  c.in_ok-n.ensures.hidden ∙ c.pieces.invariant.3,
  (
    c.pieces.invariant.4.0 - 1,
    omega arith,
    rw c.in_ok-n.ensures.hidden (walk_more c.args.table.now (expand_in c.args.table.now (c.args.levels - 1)) c.pieces.invariant.4.0 c.pieces.at c.pieces.work.hidden.items c.args.pieces.now (c.pieces.out, c.pieces.work.sum) (c.step.new.out, c.step.new.work.sum) c.in_ok-n.n (omega arith) (omega arith) c.in_ok-n.ensures.gives ∙ c.pieces.invariant.4.2),
  ),
)

pub expand-returns-clause-gives : goal.expand-returns-clause-gives
expand-returns-clause-gives t c =
    sym c.pieces.invariant.4.2 ∙ walk_done c.args.table.now (expand_in c.args.table.now (c.args.levels - 1)) c.pieces.invariant.4.0 c.pieces.at c.pieces.work.hidden.items c.args.pieces.now (c.pieces.out, c.pieces.work.sum) (omega arith)

pub each-returns-in_err-expand-clause-gives : goal.each-returns-in_err-expand-clause-gives
each-returns-in_err-expand-clause-gives t c =
    eachs_stop c.from_residual.result c.in_err-expand.field-0.0 _ _ c.from_residual.ensures.1
    (counts_blames c.in_err-expand.field-0.0 _ _ _ c.in_err-expand.ensures.gives
    (λ fault e. sym c.raw.invariant.1 ∙ each_stop (expand_in c.args.table.now c.args.levels) c.args.line c.raw.work.hidden.items c.args.raw.now c.raw.done.items c.raw.i c.raw.work.sum c.index-raw-i.result c.take-full.result fault (omega arith) c.index-raw-i.is c.take-full.ensures e))

pub each-raw-preserved : goal.each-raw-preserved
each-raw-preserved t c = (
  c.in_ok-expand.ensures.hidden ∙ c.raw.invariant.0,
  rw c.in_ok-expand.ensures.hidden (each_next (expand_in c.args.table.now c.args.levels) c.args.line c.raw.work.hidden.items c.args.raw.now c.raw.done.items c.add.new.done.items c.raw.i c.raw.work.sum c.expand.new.work.sum c.index-raw-i.result c.take-full.result c.expand.new.out (omega arith) c.index-raw-i.is c.take-full.ensures c.in_ok-expand.ensures.gives c.in_ok-add.ensures ∙ c.raw.invariant.1),
)

pub each-returns-clause-gives : goal.each-returns-clause-gives
each-returns-clause-gives t c = sym c.raw.invariant.1 ∙ each_done (expand_in c.args.table.now c.args.levels) c.args.line c.raw.work.hidden.items c.args.raw.now c.raw.done.items c.raw.i c.raw.work.sum (omega arith)

pub with_arguments-returns-in_err-count-clause-gives : goal.with_arguments-returns-in_err-count-clause-gives
with_arguments-returns-in_err-count-clause-gives t c =
    counts_stop c.from_residual.result c.in_err-count.field-0.0 _ _ c.from_residual.ensures.1
    (counts_blames c.in_err-count.field-0.0 _ _ _ c.in_err-count.ensures.counts
    (λ fault e. replaced_uncounted (expand_in c.args.table.now c.args.levels) c.args.line c.args.work.now.hidden.items c.args.place c.args.entry.now (c.args.out.now, c.args.work.now.sum) c.args.raw.now fault e))

pub with_arguments-returns-in_err-full-clause-gives : goal.with_arguments-returns-in_err-full-clause-gives
with_arguments-returns-in_err-full-clause-gives t c =
    counts_stop c.from_residual-in_err-full.result c.in_err-full.field-0.0 _ _ c.from_residual-in_err-full.ensures.1
    (each_blames c.in_err-full.field-0.0 _ _ _ c.in_err-full.ensures.gives
    (λ fault e. replaced_halts (expand_in c.args.table.now c.args.levels) c.args.line c.args.work.now.hidden.items c.count.new.work.hidden.items c.args.place c.args.entry.now (c.args.out.now, c.args.work.now.sum) c.count.new.work.sum c.args.raw.now fault c.in_ok-count.ensures.counts c.count.ensures.hidden e))

pub with_arguments-returns-clause-gives : goal.with_arguments-returns-clause-gives
with_arguments-returns-clause-gives t c =
    subst (λ (read : Outcome). CountsAs c.put-done.result (c.put-done.new.out, c.put-done.new.work.sum) read)
    (sym (replaced_put (expand_in c.args.table.now c.args.levels) c.args.line c.args.work.now.hidden.items c.count.new.work.hidden.items c.each.new.work.hidden.items c.args.place c.args.entry.now c.args.out.now c.args.work.now.sum c.count.new.work.sum c.each.new.work.sum c.args.raw.now c.in_ok-full.full.items c.deref.result.now c.in_ok-count.ensures.counts c.count.ensures.hidden c.in_ok-full.ensures.gives c.in_ok-full.ensures.hidden c.deref.ensures.value))
    c.put-done.ensures.gives

pub called-returns-in-None-clause-gives : goal.called-returns-in-None-clause-gives
called-returns-in-None-clause-gives t c =
    rw c.refused.ensures (called_wrong (expand_in c.args.table.now c.args.levels) (piece_at c.args.pieces.now c.args.at) c.args.work.now.hidden.items c.args.place c.args.entry.now (c.args.out.now, c.args.work.now.sum) (take (c.args.begun + c.args.len + 1) (drop (c.args.at + 1) c.args.pieces.now)) (arguments_of c.args.arity (piece_at c.args.pieces.now c.args.at).line (take c.args.len (drop (c.args.at + 1 + c.args.begun) c.args.pieces.now))) c.line-line.result c.line-line.ensures (arguments_none c.in_ok-arguments.field-0 c.args.arity c.line-line.result (piece_at c.args.pieces.now c.args.at).line (c.args.at + 1 + c.args.begun) c.args.len c.args.pieces.now c.in_ok-arguments.ensures c.in-None.is c.line-line.ensures))

pub called-returns-in_err-with_arguments-in-Some-clause-gives : goal.called-returns-in_err-with_arguments-in-Some-clause-gives
called-returns-in_err-with_arguments-in-Some-clause-gives t c =
    steps_stop c.from_residual-in_err-with_arguments-in-Some.result c.in_err-with_arguments-in-Some.field-0.0 _ _ c.from_residual-in_err-with_arguments-in-Some.ensures.1
    (counts_blames c.in_err-with_arguments-in-Some.field-0.0 _ _ _ c.in_err-with_arguments-in-Some.ensures.gives
    (λ fault e. called_halts (expand_in c.args.table.now c.args.levels) (piece_at c.args.pieces.now c.args.at) c.args.work.now.hidden.items c.args.place c.args.entry.now (c.args.out.now, c.args.work.now.sum) (take (c.args.begun + c.args.len + 1) (drop (c.args.at + 1) c.args.pieces.now)) c.deref.result.now (arguments_of c.args.arity (piece_at c.args.pieces.now c.args.at).line (take c.args.len (drop (c.args.at + 1 + c.args.begun) c.args.pieces.now))) c.line-line.result fault c.line-line.ensures (arguments_some c.in_ok-arguments.field-0 c.in-Some.raw c.deref.result.now c.args.arity c.line-line.result (piece_at c.args.pieces.now c.args.at).line (c.args.at + 1 + c.args.begun) c.args.len c.args.pieces.now c.in_ok-arguments.ensures c.in-Some.is c.deref.ensures.value c.line-line.ensures) e))

pub called-returns-in_ok-push_feeds-in-Some-clause-gives : goal.called-returns-in_ok-push_feeds-in-Some-clause-gives
called-returns-in_ok-push_feeds-in-Some-clause-gives t c =
    called_done (expand_in c.args.table.now c.args.levels) (piece_at c.args.pieces.now c.args.at) c.args.work.now.hidden.items c.args.place c.args.entry.now (c.args.out.now, c.args.work.now.sum) c.with_arguments.new.out c.push_feeds.new.out c.with_arguments.new.work.sum c.args.at c.args.begun c.args.len c.args.pieces.now c.deref.result.now (arguments_of c.args.arity (piece_at c.args.pieces.now c.args.at).line (take c.args.len (drop (c.args.at + 1 + c.args.begun) c.args.pieces.now))) c.line-line.result c.requires.inside c.line-line.ensures (arguments_some c.in_ok-arguments.field-0 c.in-Some.raw c.deref.result.now c.args.arity c.line-line.result (piece_at c.args.pieces.now c.args.at).line (c.args.at + 1 + c.args.begun) c.args.len c.args.pieces.now c.in_ok-arguments.ensures c.in-Some.is c.deref.ensures.value c.line-line.ensures) c.in_ok-with_arguments-in-Some.ensures.gives c.in_ok-push_feeds-in-Some.ensures

pub opened-returns-in-Some-closing-clause-gives : goal.opened-returns-in-Some-closing-clause-gives
opened-returns-in-Some-closing-clause-gives t c =
    subst (λ (read : Step). StepsAs c.called.result (c.called.new.out, c.called.new.work.sum) read)
    (sym (opened_called (expand_in c.args.table.now c.args.levels) (piece_at c.args.pieces.now c.args.at) c.args.work.now.hidden.items c.args.place c.args.entry.now (c.args.out.now, c.args.work.now.sum) c.args.pieces.now c.args.at c.args.arity c.in-Some.begun c.in-Some-closing.len c.in-Some.ensures.value c.in-Some-closing.ensures.value))
    c.called.ensures.gives

pub opened-returns-in-None-closing-clause-gives : goal.opened-returns-in-None-closing-clause-gives
opened-returns-in-None-closing-clause-gives t c =
    rw c.refused.ensures (opened_wrong (expand_in c.args.table.now c.args.levels) (piece_at c.args.pieces.now c.args.at) c.args.work.now.hidden.items c.args.place c.args.entry.now (c.args.out.now, c.args.work.now.sum) c.args.pieces.now c.args.at c.args.arity c.in-Some.begun c.line.result c.line.ensures c.in-Some.ensures.value c.in-None-closing.ensures.value)

pub with_arguments-returns-then-name_nothing-clause-gives : goal.with_arguments-returns-then-name_nothing-clause-gives
with_arguments-returns-then-name_nothing-clause-gives t c =
    let hidden = c.count.new.work.hidden.items in
    let plain = each-plain c.args.table.now c.args.levels c.args.line hidden c.args.raw.now c.count.new.work.sum (omega arith) (c.name_nothing.ensures c.if-name_nothing.true) in
    subst (λ (read : Outcome). CountsAs c.put.result (c.put.new.out, c.put.new.work.sum) read)
    (sym (replaced_put (expand_in c.args.table.now c.args.levels) c.args.line c.args.work.now.hidden.items hidden hidden c.args.place c.args.entry.now c.args.out.now c.args.work.now.sum c.count.new.work.sum c.count.new.work.sum c.args.raw.now c.args.raw.now c.args.raw.now c.in_ok-count.ensures.counts c.count.ensures.hidden plain refl refl))
    c.put.ensures.gives
