use Rattle.lg_pre.proofs.expander.word_size.Goals as goal

pub returns : goal.returns
returns c = rw c.new-pieces.ensures at c.in_ok-push_cut.ensures
