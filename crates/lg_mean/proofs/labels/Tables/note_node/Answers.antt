use Rattle.std.proofs.Common.{ℕ, Bool, ap, Option, Some, ◌∙◌, nat_eq}
use Rattle.std.specs.Prelude.{◌&&◌, if◌then◌else◌, slice_index}
use Rattle.std.specs.Map.{lookup}
use Rattle.lg_meaning.specs.Steps.{later}
use Rattle.lg_mean.specs.Programs.{pair_eq, is_jump_key}
use Rattle.lg_mean.proofs.TableLemmas.{one_more}
use Rattle.lg_mean.proofs.labels.Tables.note_node.Goals as goal

pub returns : goal.returns
returns c =
    let address = slice_index c.args.addresses.now c.args.label in
    let jumps = c.args.self.now.jumps.entries in
    let calls = c.args.self.now.calls.entries in
    one_more c.args.nodes.now c.args.shape.now c.args.addresses.now (c.accepted_nodes_have_functions.ensures c.args.nodes.now c.requires.shape.accepted) c.requires.shape.functions c.args.label c.args.node c.requires.bound
    _ _ _ _ c.requires.before
    (λ key. c.in_ok-note_jump.ensures key ∙ ap (λ (e : Option ℕ). if is_jump_key e address key then later (Some c.args.node) (lookup (pair_eq key) jumps) else lookup (pair_eq key) jumps) c.jump_entry-entry.ensures)
    (λ key. c.in_ok-note_call.ensures key ∙ ap (λ (b : Bool). if b && nat_eq address key then later (Some c.args.node) (lookup (nat_eq key) calls) else lookup (nat_eq key) calls) c.begins.ensures)
