use Rattle.std.proofs.Common.{ap, sym, ◌∙◌, refl}
use Rattle.lg_list.specs.Lines.{rendered}
use Rattle.lg_list.specs.Listing.{labels_at}
use Rattle.lg_list.proofs.WriteLemmas.{begun, went, stopped, tail_call}
use Rattle.lg_list.proofs.ListingLemmas.{node-split}
use Rattle.lg_list.proofs.listing.write_node.Goals as goal

pub returns-in-Err : goal.returns-in-Err
returns-in-Err g c =
    let split = node-split c.args.target c.args.bytes.now c.args.nodes.list.now c.args.index c.args.at c.node-node.result c.node-node.ensures.node in
    let labels = ap (λ a. rendered a (labels_at c.args.index c.args.nodes.list.now.words c.args.nodes.list.now.places)) (sym c.requires.at) in
    stopped _ _ _ _ _ _ _ _ _ _ _ c.in-Err.fault (begun _ _ _) split labels c.in-Err.ensures.err c.in-Err.ensures.cause.later c.in-Err.ensures.cause.failed

pub returns-in-Err-write_all : goal.returns-in-Err-write_all
returns-in-Err-write_all g c =
    let split = node-split c.args.target c.args.bytes.now c.args.nodes.list.now c.args.index c.args.at c.node-node.result c.node-node.ensures.node in
    let line = c.as_slice.ensures.value ∙ c.write_node_line.ensures in
    let labels = ap (λ a. rendered a (labels_at c.args.index c.args.nodes.list.now.words c.args.nodes.list.now.places)) (sym c.requires.at) in
    stopped _ _ _ _ _ _ _ _ _ _ _ c.in-Err-write_all.fault (went _ _ _ _ _ _ _ _ _ _ _ (begun _ _ _) split labels c.in-Ok.ensures.ok c.in-Ok.ensures.cause.kept) refl line c.in-Err-write_all.ensures.err c.in-Err-write_all.ensures.cause.later c.in-Err-write_all.ensures.cause.failed

pub returns : goal.returns
returns g c =
    let split = node-split c.args.target c.args.bytes.now c.args.nodes.list.now c.args.index c.args.at c.node-node.result c.node-node.ensures.node in
    let line = c.as_slice.ensures.value ∙ c.write_node_line.ensures in
    let labels = ap (λ a. rendered a (labels_at c.args.index c.args.nodes.list.now.words c.args.nodes.list.now.places)) (sym c.requires.at) in
    tail_call _ _ _ _ _ _ _ _ _ _ (went _ _ _ _ _ _ _ _ _ _ _ (went _ _ _ _ _ _ _ _ _ _ _ (begun _ _ _) split labels c.in-Ok.ensures.ok c.in-Ok.ensures.cause.kept) refl line c.in-Ok-write_all.ensures.ok c.in-Ok-write_all.ensures.cause.kept) refl c.write_instructions.ensures
