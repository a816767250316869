use Rattle.std.proofs.Common.{refl, sym, subst, ◌∙◌}
use Rattle.std.proofs.lemmas.Result.{on_ok_weaker}
use Rattle.lg_live.specs.declared.reg_set.RegSet.{RegSet}
use Rattle.lg_live.specs.Graphs.{falls, joins}
use Rattle.lg_live.specs.Searches.{state_of, HasSpread}
use Rattle.lg_live.proofs.SearchLemmas.{grows_trans, on_ok_two, read_at, spread_all, zero_set}
use Rattle.lg_live.proofs.search.spread.Goals as goal

pub pass_to-requires-clause-arc : goal.pass_to-requires-clause-arc
pass_to-requires-clause-arc c = λ i e. joins i c.args.to (sym c.joins.ensures ∙ e)

pub pass_to-requires-2-clause-arc : goal.pass_to-requires-2-clause-arc
pass_to-requires-2-clause-arc c = λ i e. let h = c.fallen.ensures.arc i e in falls i c.args.to h.0 h.1

pub returns-clause-grows : goal.returns-clause-grows
returns-clause-grows c =
    on_ok_weaker c.pass_to_jumps.result
    (λ g. grows_trans (state_of c.args.search.now) (state_of c.pass_to-2.new.search) (state_of c.pass_to_jumps.new.search)
    (grows_trans (state_of c.args.search.now) (state_of c.pass_to.new.search) (state_of c.pass_to-2.new.search) c.in_ok-pass_to.ensures.grows c.in_ok-pass_to-2.ensures.grows) g)
    c.pass_to_jumps.ensures.grows

pub returns-clause-spread : goal.returns-clause-spread
returns-clause-spread c =
    on_ok_two c.pass_to_jumps.result c.pass_to_jumps.ensures.grows c.pass_to_jumps.ensures.passed
    (λ g passed.
    let P : RegSet → Type 0 = λ set. HasSpread c.args.points.now c.args.to set (state_of c.pass_to_jumps.new.search) in
    subst P (sym (read_at c.args.search.now.sets.items c.args.to c.index-set.result.now zero_set c.requires.point c.index-set.ensures))
    (spread_all c.args.points.now c.args.to c.index-set.result.now (state_of c.pass_to.new.search) (state_of c.pass_to-2.new.search) (state_of c.pass_to_jumps.new.search) c.in_ok-pass_to-2.ensures.grows g
    (λ i e. c.in_ok-pass_to.ensures.passed i (c.joins.ensures ∙ e))
    (λ i e f. c.in_ok-pass_to-2.ensures.passed i (c.fallen.ensures.all i e f))
    passed c.args.to refl))
