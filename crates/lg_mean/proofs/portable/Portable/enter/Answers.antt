use Rattle.std.proofs.Common.{◌≡◌, ◌≤◌, ap, sym, ◌∙◌, length, subst, arith, Some}
use Rattle.lg_node.specs.Labels.{is_entry}
use Rattle.lg_meaning.specs.Fits.{Fits}
use Rattle.lg_meaning.specs.Starts.{MayEnter, MayBegin, begins_at, entered_state, entry_after}
use Rattle.lg_meaning.specs.Steps.{node_in}
use Rattle.lg_mean.specs.Machines.{state_of}
use Rattle.lg_va.specs.Calls.{calling_stack}
use Rattle.lg_mean.proofs.EnteringLemmas.{calling_stack_enters, may_enter}
use Rattle.lg_mean.proofs.portable.Portable.enter.Goals as goal

pub returns-clause-fits : goal.returns-clause-fits
returns-clause-fits c = λ t.
    let l = c.args.unit.now.nodes in
    let shape = c.args.shape.now in
    let words = c.args.words.now in
    let b = Some c.args.label in
    let few : length words ≤ 16 = omega (arith, c.if-words-gt16.false) in
    let e = entry_after (state_of c.self.inside.machine) (calling_stack (length words)) words in
    let s = state_of c.restart.new.self in
    let here = c.place_of-place.ensures in
    let same : s ≡ entered_state e (begins_at l b) = c.restart.ensures ∙ ap (entered_state e) (c.node_in.ensures ∙ ap node_in here) in
    let begins : MayBegin l b = ap (is_entry l.nodes) (sym here) ∙ sym c.is_entry.ensures ∙ c.if-not-is_entry.false in
    let may : MayEnter e = may_enter e (begins_at l b) s same (calling_stack_enters (length words) few) few c.place.ensures.memory c.place.ensures.heap in
    subst (Fits l shape) (sym same) (c.starts_fit.ensures l shape c.requires.made.shaped e b may begins).fits
