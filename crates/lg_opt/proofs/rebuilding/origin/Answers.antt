use Rattle.std.proofs.Common.{Some, cond, [], ◌∷◌, ◌++◌, refl, sym, ap, ◌∙◌, arith}
use Rattle.lg_opt.specs.Rewritings.{marked}
use Rattle.lg_opt.proofs.RebuildLemmas.{remaining-next, remaining-none}
use Rattle.lg_opt.proofs.rebuilding.origin.Goals as goal

pub loop-index-init : goal.loop-index-init
loop-index-init c = record {
  items = c.in_ok-origin.ensures.items ∙ sym (remaining-none (marked c.args.stays.now) (λ i. Some i));
  room = omega (arith, c.in_ok-origin.ensures.room);
}

pub loop-index-preserved : goal.loop-index-preserved
loop-index-preserved c =
    let i = c.loop-index.index in
    record {
      items = c.push_index.ensures.items ∙ ap (λ xs. xs ++ cond (marked c.args.stays.now i) (i ∷ []) []) c.loop-index.invariant.items ∙ sym (remaining-next (marked c.args.stays.now) (λ k. Some k) i i refl);
      room = omega (arith, c.push_index.ensures.room, c.loop-index.invariant.room);
    }
