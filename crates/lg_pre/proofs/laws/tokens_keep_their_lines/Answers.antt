use Rattle.lg_pre.proofs.TokenLaws.{tokens_keep_their_lines as law}
use Rattle.lg_pre.proofs.laws.tokens_keep_their_lines.Goals as goal

pub returns : goal.returns
returns c = law
