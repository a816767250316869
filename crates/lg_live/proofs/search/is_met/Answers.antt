use Rattle.std.proofs.Common.{None, Some, get_or, sym, ap, ◌∙◌, arith}
use Rattle.std.proofs.lemmas.Bool.{leb-false}
use Rattle.lg_live.proofs.SweepLemmas.{unmet_jumps}
use Rattle.lg_live.proofs.search.is_met.Goals as goal

pub returns-in-Some-entry : goal.returns-in-Some-entry
returns-in-Some-entry c = λ e.
    let less = leb-false c.args.index c.in-Some-entry.from e in
    record {
      joins = sym c.joins.ensures ∙ c.in-None.is;
      jumps = unmet_jumps c.args.points.now c.args.index (Some c.in-Some-entry.from)
          (sym c.in-Some-entry.is ∙ c.entry.ensures ∙ ap (λ xs. get_or xs c.args.index None) c.deref.ensures.value ∙ c.requires.1.last c.args.index c.requires.2) (omega (arith, less));
    }

pub returns-in-None-entry : goal.returns-in-None-entry
returns-in-None-entry c = λ e. record {
  joins = sym c.joins.ensures ∙ c.in-None.is;
  jumps = unmet_jumps c.args.points.now c.args.index None
      (sym c.in-None-entry.is ∙ c.entry.ensures ∙ ap (λ xs. get_or xs c.args.index None) c.deref.ensures.value ∙ c.requires.1.last c.args.index c.requires.2) (omega arith);
}
