use Rattle.std.proofs.Common.{ℕ, ◌≤◌, length, ap, ◌∙◌, arith}
use Rattle.std.specs.Prelude.{slice_index}
use Rattle.lg_node.specs.Nodes.{LabelledNodes}
use Rattle.lg_opt.specs.Rewritings.{marked}
use Rattle.lg_opt.proofs.RemainingLemmas.{number-all}
use Rattle.lg_opt.proofs.RebuildLemmas.{from-parts, moved-same}
use Rattle.lg_dead.proofs.FoldListLemmas.{places-kept, folded-to}
use Rattle.lg_dead.proofs.list.fill.Goals as goal

pub bind_moved-requires-clause-few : goal.bind_moved-requires-clause-few
bind_moved-requires-clause-few c = λ k le.
    let l = c.args.nodes.now in
    let here = ap (λ xs. slice_index xs k) c.deref-2.ensures.value ∙ c.in_ok-numbers.ensures.numbers k (omega (arith, le, c.requires.count)) in
    let same = number-all (marked c.args.stays.now) k (λ i lt. c.requires.stays i (omega (arith, lt, le))) in
    omega (arith, here, same, le, c.in_ok-push_folded.ensures.folded.many)

pub returns : goal.returns
returns c =
    let l = c.args.nodes.now in
    let ns = c.push_folded.new.list.nodes in
    let numbers = λ (k : ℕ) (le : k ≤ length l.nodes).
    ap (λ xs. slice_index xs k) c.deref-2.ensures.value ∙ c.in_ok-numbers.ensures.numbers k (omega (arith, le, c.requires.count))
    ∙ number-all (marked c.args.stays.now) k (λ i lt. c.requires.stays i (omega (arith, lt, le))) in
    let list = from-parts c.bind_moved.new.list ns l.words l.places
    (ap (λ (x : LabelledNodes). x.nodes) c.bind_moved.ensures)
    (ap (λ (x : LabelledNodes). x.words) c.bind_moved.ensures ∙ ap (λ (x : LabelledNodes). x.words) c.in_ok-push_folded.ensures.list ∙ ap (λ (x : LabelledNodes). x.words) c.requires.list)
    (ap (λ (x : LabelledNodes). x.places) c.bind_moved.ensures ∙ moved-same (slice_index c.deref-2.result.now) (λ k. k) (length l.nodes) numbers l.places c.what_holds.ensures.placed ∙ places-kept l.places) in
    folded-to l c.bind_moved.new.list ns c.in_ok-push_folded.ensures.folded list
