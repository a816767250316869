use Rattle.std.proofs.Common.{◌∙◌, sym}
use Rattle.lg_meaning.specs.Texts.{text}
use Rattle.lg_mean.proofs.TableLemmas.{jumps_to, jumps_nowhere}
use Rattle.lg_mean.proofs.program.Program.jump_target.Goals as goal

pub returns-in_err-function : goal.returns-in_err-function
returns-in_err-function c =
    let p = c.self.inside in
    rw (← c.self.view_is) (c.from_residual.ensures ∙ sym (jumps_nowhere (text p.nodes.now p.shape.now p.labels.now.addresses) c.args.at c.args.word (sym c.function_here.ensures.value ∙ c.in_err-function.was)))

pub returns : goal.returns
returns c =
    let p = c.self.inside in
    let t = c.self.invariant in
    let functions = c.accepted_nodes_have_functions.ensures p.nodes.now t.shaped.accepted in
    rw (← c.self.view_is)
    (c.jump.ensures
    ∙ jumps_to p.nodes.now p.shape.now p.labels.now.addresses functions t.shaped.functions c.args.at c.args.word c.in_ok-function.function p.labels.now.jumps p.labels.now.calls (sym c.function_here.ensures.value ∙ c.in_ok-function.was) t.leads)
