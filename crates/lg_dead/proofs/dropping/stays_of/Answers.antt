use Rattle.std.proofs.Common.{List, ◌≡◌, length, sym, subst}
use Rattle.lg_live.specs.Needs.{AreNeeded}
use Rattle.lg_live.specs.declared.reg_set.RegSet.{RegSet}
use Rattle.lg_opt.proofs.ClauseLemmas.{ok-weaker}
use Rattle.lg_dead.specs.Dropping.{AreStays}
use Rattle.lg_dead.proofs.dropping.stays_of.Goals as goal

pub returns : goal.returns
returns c =
    let l = c.args.nodes.now in
    let s = c.args.shape.now in
    let sets = c.deref.result.now in
    let needed : AreNeeded l s sets = subst (AreNeeded l s) (sym c.deref.ensures.value) c.in_ok-needs.ensures in
    record {
      count = ok-weaker (λ t. (length t.items ≡ length l.nodes) × AreStays l sets t.items) (λ t. length t.items ≡ length l.nodes) c.staying.result (λ t h. h.0) c.staying.ensures;
      stays = ok-weaker (λ t. (length t.items ≡ length l.nodes) × AreStays l sets t.items) (λ t. (ys : List RegSet) × AreNeeded l s ys × AreStays l ys t.items) c.staying.result (λ t h. (sets, needed, h.1)) c.staying.ensures;
    }
