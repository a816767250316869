use Rattle.std.proofs.Common.{refl, arith, None}
use Rattle.lg_base.specs.Layout.{stack_end}
use Rattle.lg_meaning.specs.Starts.{IsEntryStack}
use Rattle.lg_mean.proofs.portable.Portable.new.Goals as goal

end-of-stack : IsEntryStack stack_end
end-of-stack = record { whole = refl; room = omega arith; high = omega arith }

pub returns-clause-fits : goal.returns-clause-fits
returns-clause-fits c = rw c.in_ok-machine.ensures
    (c.starts_fit.ensures c.args.unit.now.nodes c.args.shape.now c.requires.shape _ None (c.texts_may_begin.ensures stack_end _ _ end-of-stack) tt).fits
