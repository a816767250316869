use Rattle.std.proofs.Common.{nat_eq, sym, ◌∙◌}
use Rattle.std.proofs.lemmas.Bool.{not-true}
use Rattle.lg_live.specs.Searches.{state_of}
use Rattle.lg_live.proofs.SearchLemmas.{raised_grows}
use Rattle.lg_live.proofs.search.raise.Goals as goal

pub returns-in_ok-push-clause-grows : goal.returns-in_ok-push-clause-grows
returns-in_ok-push-clause-grows c =
    raised_grows (state_of c.args.search.now) c.args.point c.index.result.now c.union-new.result c.args.more c.push.new.self.items c.requires.within c.index.ensures
    c.union-new.ensures.registers c.union-new.ensures.byte c.union-new.ensures.grows (not-true (nat_eq c.union-new.result.0 c.index.result.now.0) (sym c.ne.ensures ∙ c.if-ne.true)) c.in_ok-push.ensures.items
