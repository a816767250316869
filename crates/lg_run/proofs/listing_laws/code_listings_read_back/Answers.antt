use Rattle.std.proofs.Common.{subst}
use Rattle.std.specs.Prelude.{IsTrue}
use Rattle.std.specs.List.{All}
use Rattle.lg_run.proofs.ListableLemmas.{is-listable}
use Rattle.lg_run.proofs.listing_laws.code_listings_read_back.Goals as goal
use Rattle.lg_node.specs.Nodes.{LabelledNodes, is_word}

pub listing_reads_back-requires : goal.listing_reads_back-requires
listing_reads_back-requires c =
    let k = is-listable c.args.code.now c.target-target.ensures.code
    (subst (λ (l : LabelledNodes). All (λ w. IsTrue (is_word w)) l.words) c.nodes-nodes.ensures c.what_holds.ensures.words) in
    let a = c.target-target.ensures.value in
    let b = c.bytes.ensures in
    let d = c.places.ensures in
    let e = c.nodes-nodes.ensures in
    let f = c.labels.ensures in
    rw (a, b, d, e, f) k
