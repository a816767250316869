use Rattle.lg_mean.proofs.ResolvedLemmas.{with_places, with_all}
use Rattle.lg_mean.proofs.resolved.frequent.Goals as goal

pub returns-in-Binary : goal.returns-in-Binary
returns-in-Binary c = with_places c.args.labels.now c.args.nodes.now.places c.args.node.now c.resolved_binary.result c.resolved_binary.ensures

pub returns-in-Unary : goal.returns-in-Unary
returns-in-Unary c = with_all c.args.labels.now c.args.nodes.now.places c.args.node.now c.resolved_unary.result c.resolved_unary.ensures

pub returns-in-Plain-Movi : goal.returns-in-Plain-Movi
returns-in-Plain-Movi c = with_places c.args.labels.now c.args.nodes.now.places c.args.node.now c.resolved_move.result c.resolved_move.ensures

pub returns-in-Load : goal.returns-in-Load
returns-in-Load c = with_places c.args.labels.now c.args.nodes.now.places c.args.node.now c.resolved_load.result c.resolved_load.ensures

pub returns-in-Store : goal.returns-in-Store
returns-in-Store c = with_places c.args.labels.now c.args.nodes.now.places c.args.node.now c.resolved_store.result c.resolved_store.ensures

pub returns-in-Control-Jmp-Immediate : goal.returns-in-Control-Jmp-Immediate
returns-in-Control-Jmp-Immediate c t e f = c.resolved_jump.ensures t f
