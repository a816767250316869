use Rattle.std.proofs.Common.{◌≡◌, ◌++◌, ◌∷◌, [], List, length, ap, sym, ◌∙◌, append_assoc, arith}
use Rattle.std.specs.Prelude.{min, take}
use Rattle.std.proofs.lemmas.List.{length-take, take_min}
use Rattle.lg_selx.specs.Control.Returns.{restores, leave_code, return_code}
use Rattle.lg_selx_values.specs.Items.{words_in, ones}
use Rattle.lg_selx_values.proofs.ItemLemmas.{words_append, words-ones, ones-append}
use Rattle.lg_x86.specs.declared.instruction.BareOp.TheVariants.{Ret}
use Rattle.lg_x86.specs.declared.instruction.Instr.{Instr}
use Rattle.lg_x86.specs.declared.instruction.Instr.TheVariants as instr
use Rattle.lg_selx.proofs.control.frames.put_return.Goals as goal

pub all-requires-2 : goal.all-requires-2
all-requires-2 c =
    let first : List Instr = take c.min.result c.restores.result in
    let room = c.requires in
    let both = ap words_in c.all.ensures ∙ words_append c.args.items.now (ones first) in
    let size = words-ones first in
    let few = length-take c.min.result c.restores.result in
    let three = ap length c.restores.ensures in
    let last = ap length c.leaves.ensures in
    (omega arith, omega (arith, room, both, size, few, three, last))

pub returns : goal.returns
returns c =
    let first : List Instr = take c.min.result c.restores.result in
    let kept : first ≡ restores c.args.saved =
    ap (λ n. take n c.restores.result) c.min.ensures ∙ ap (take (min c.args.saved 3)) c.restores.ensures ∙ take_min c.args.saved (restores 3) in
    let all : first ++ c.leaves.result ≡ return_code c.args.saved =
    ap (λ is. first ++ is) c.leaves.ensures ∙ ap (λ is. is ++ return_code 0) kept ∙ sym (append_assoc (restores c.args.saved) leave_code (instr.Bare Ret ∷ [])) in
    c.all-2.ensures ∙ ap (λ xs. xs ++ ones c.leaves.result) c.all.ensures ∙ append_assoc c.args.items.now (ones first) (ones c.leaves.result)
    ∙ ap (λ xs. c.args.items.now ++ xs) (sym (ones-append first c.leaves.result)) ∙ ap (λ is. c.args.items.now ++ ones is) all
