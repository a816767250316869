use Rattle.std.proofs.Common.{length, ap, ◌∙◌, arith}
use Rattle.std.specs.Prelude.{slice_index}
use Rattle.lg_opt.specs.Remaining.{new_number, rewritten}
use Rattle.lg_opt.specs.Rewritings.{marked, target_in}
use Rattle.lg_opt.proofs.RemainingLemmas.{number-le}
use Rattle.lg_opt.proofs.MovedLemmas.{new-count}
use Rattle.lg_opt.proofs.RebuildLemmas.{from-parts, moved-same}
use Rattle.lg_opt.proofs.rebuilding.fill.Goals as goal

pub bind_moved-requires-clause-few : goal.bind_moved-requires-clause-few
bind_moved-requires-clause-few c = λ k le.
    let l = c.args.nodes.now in
    let stays = marked c.args.stays.now in
    let here = ap (λ xs. slice_index xs k) c.deref.ensures.value ∙ c.in_ok-numbers.ensures.numbers k (omega (arith, le, c.requires.count)) in
    let most = number-le stays k (length l.nodes) le in
    let count = ap (λ x. length x.nodes) c.in_ok-push_remaining.ensures ∙ new-count l stays (target_in c.args.targets.now) in
    omega (arith, here, most, count)

pub returns : goal.returns
returns c =
    let l = c.args.nodes.now in
    let stays = marked c.args.stays.now in
    let m = rewritten l stays (target_in c.args.targets.now) in
    let pushed = c.in_ok-push_remaining.ensures in
    from-parts c.bind_moved.new.list m.nodes l.words m.places
    (ap (λ x. x.nodes) c.bind_moved.ensures ∙ ap (λ x. x.nodes) pushed)
    (ap (λ x. x.words) c.bind_moved.ensures ∙ ap (λ x. x.words) pushed ∙ ap (λ x. x.words) c.requires.list)
    (ap (λ x. x.places) c.bind_moved.ensures
    ∙ moved-same (slice_index c.deref.result.now) (new_number stays) (length l.nodes)
    (λ k le. ap (λ xs. slice_index xs k) c.deref.ensures.value ∙ c.in_ok-numbers.ensures.numbers k (omega (arith, le, c.requires.count))) l.places c.what_holds.ensures.placed)
