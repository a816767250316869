use Rattle.std.proofs.Common.{◌+◌, cond, ap, sym, ◌∙◌, arith, length}
use Rattle.lg_node.proofs.TableLemmas.{count_push, table_push}
use Rattle.lg_opt.specs.Remaining.{new_number}
use Rattle.lg_opt.specs.Rewritings.{marked}
use Rattle.lg_opt.proofs.RemainingLemmas.{number-zero}
use Rattle.lg_opt.proofs.RebuildLemmas.{number-next, one-most}
use Rattle.lg_opt.proofs.rebuilding.numbers.Goals as goal

pub loop-index-init : goal.loop-index-init
loop-index-init c = record {
  count = ap length c.in_ok-table.ensures.items;
  numbers = λ k lt. absurd (omega (arith, lt));
  here = sym (number-zero (marked c.args.stays.now));
  few = omega arith;
}

pub loop-index-preserved : goal.loop-index-preserved
loop-index-preserved c =
    let kept = c.loop-index.invariant in
    let i = c.loop-index.index in
    let nu = new_number (marked c.args.stays.now) in
    let xs = c.loop-index.table.items in
    let ys = c.push.new.self.items in
    record {
      count = count_push xs ys c.loop-index.number i c.in_ok-push.ensures.items kept.count;
      numbers = table_push nu xs ys c.loop-index.number 0 i c.in_ok-push.ensures.items kept.count kept.here kept.numbers;
      here = c.counted-number.ensures ∙ ap (λ k. k + cond (marked c.args.stays.now i) 1 0) kept.here ∙ sym (number-next (marked c.args.stays.now) i);
      few = omega (arith, c.counted-number.ensures, kept.few, one-most (marked c.args.stays.now i));
    }
