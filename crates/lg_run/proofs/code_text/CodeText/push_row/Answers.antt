use Rattle.std.proofs.Common.{◌≡◌, ◌<◌, ◌+◌, ◌++◌, ℕ, List, length, sym, ap, ◌∙◌, append_assoc, take, get_or}
use Rattle.std.specs.Borrow.{Bor}
use Rattle.lg_io.specs.Wrote.{joined}
use Rattle.lg_io.proofs.WroteLemmas.{joined-more}
use Rattle.lg_run.proofs.code_text.CodeText.push_row.Goals as goal

more : (old text new : List ℕ) (ps : List (Bor (List ℕ))) (i : ℕ) (d : Bor (List ℕ)) → i < length ps → text ≡ old ++ joined (take i ps) → new ≡ text ++ (get_or ps i d).now
    → new ≡ old ++ joined (take (i + 1) ps)
more old text new ps i d h before now =
    now ∙ ap (λ t. t ++ (get_or ps i d).now) before ∙ append_assoc old (joined (take i ps)) (get_or ps i d).now ∙ ap (λ t. old ++ t) (sym (joined-more ps i d h))

pub loop-part-preserved : goal.loop-part-preserved
loop-part-preserved c = more _ _ _ c.args.parts.now c.loop-part.part-index _ c.loop-part-test.true c.loop-part.invariant c.in_ok-push.ensures
