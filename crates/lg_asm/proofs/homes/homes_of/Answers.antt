use Rattle.std.proofs.Common.{◌≡◌, sym, ap, ◌∙◌, arith}
use Rattle.std.specs.Prelude.{max}
use Rattle.lg_carry.specs.Homes.{homes_by}
use Rattle.lg_asm.proofs.HomesLemmas.{none-read, one-read}
use Rattle.lg_asm.proofs.homes.homes_of.Goals as goal

pub nodes-init : goal.nodes-init
nodes-init c = let order = c.requires.order in (omega arith, omega (arith, order), none-read c.args.list.now.nodes c.args.first)

pub nodes-preserved : goal.nodes-preserved
nodes-preserved c =
    let from = c.nodes.invariant.0 in
    let lt = c.nodes-test.true in
    let read = one-read c.args.list.now.nodes c.args.first c.nodes.index c.node.result from (sym c.node.ensures.node) in
    let more : c.larger-homes.result ≡ max c.nodes.homes (homes_by c.node.result.op c.node.result) =
    c.larger-homes.ensures ∙ ap (max c.nodes.homes) c.homes_by.ensures in
    (omega (arith, from), omega (arith, lt), more ∙ ap (λ h. max h (homes_by c.node.result.op c.node.result)) c.nodes.invariant.2 ∙ sym read)
