use Rattle.std.proofs.Common.{refl, sym, ap, ◌∙◌, add-one}
use Rattle.lg_explain.specs.Lines.{after_line, after_lines}
use Rattle.lg_explain.proofs.line.after_lines.Goals as goal

pub loop-feed-init : goal.loop-feed-init
loop-feed-init c = refl

pub loop-feed-preserved : goal.loop-feed-preserved
loop-feed-preserved c =
    c.after_line-rest.ensures ∙ ap after_line c.loop-feed.invariant ∙ ap (λ k. after_lines k c.args.text.now) (sym (add-one c.loop-feed._feed))
