-- What x86-64 shows of its items, so that `select` keeps its promises.
use Rattle.std.proofs.Common.{◌≡◌, ℕ, ◌+◌, ◌%◌, true, List, ◌∷◌, [], length, refl, ap, ◌∙◌, subst, arith, ◌<◌, Bool}
use Rattle.lg_base.specs.declared.target.Target.TheVariants.{X86_64}
use Rattle.lg_op.specs.Forms.{is_alignment, forms_of, admit}
use Rattle.lg_op.specs.Nodes.{InForm}
use Rattle.lg_op.specs.declared.node.Node.{Node}
use Rattle.lg_op.specs.declared.op.Op.{Op}
use Rattle.lg_op.specs.declared.operand.Operand.{Operand}
use Rattle.lg_x86.specs.Spelling.{IsInstr, spelling}
use Rattle.lg_sel.proofs.PlaceLemmas.{and-first}
use Rattle.lg_sel.specs.Backends.{IsBackend}
use Rattle.lg_sel.specs.Selected.{IsAligned}
use Rattle.lg_selx.specs.Stores.{x86_stores}
use Rattle.lg_sel.specs.declared.reach.Reach.{Reach}
use Rattle.lg_sel.specs.declared.site.Site.{Site}
use Rattle.lg_selx.proofs.Emissions.{Names}
use Rattle.lg_selx.proofs.NodeFits.{families-emit, families-fit, families-stay}
use Rattle.lg_selx.proofs.NeedLemmas.{choices-fit, store-choice}
use Rattle.lg_selx.proofs.OfControl.AlignLemmas.{alignments-align}
use Rattle.lg_selx.proofs.ShortLemmas.{node-short, node-ahead}
use Rattle.lg_selx.specs.Control.Alignments.{align_code}
use Rattle.lg_selx.specs.Code.{x86_code}
use Rattle.lg_selx.specs.Items.{site_items, IsGiven, x86_families, node_items}
use Rattle.lg_selx.specs.Selected.{needs}
use Rattle.lg_selx.proofs.OfControl.ControlLemmas.{blanks-ones}
use Rattle.lg_carry.specs.Blocks.{spellings}
use Rattle.lg_selx_values.proofs.PatchLemmas.{are-holes}
use Rattle.lg_selx_values.specs.Items.{x86_holes, IsItem, NamesOneOf, blanks, ones, StaysWithin}
use Rattle.lg_selx_values.specs.declared.items.Item.{Item}
use Rattle.lg_carry.specs.Carries.{moves_at}
use Rattle.lg_node.specs.Functions.{is_prolog}
use Rattle.lg_sel.proofs.FamilyLemmas.{node_of}
use Rattle.lg_selx.proofs.NodeLemmas.{families}
use Rattle.lg_temp.specs.declared.choice.Choice.{Choice}
use Rattle.lg_selx_values.specs.Processor.Destinations.{WritesWithin}
use Rattle.lg_selx_values.specs.Processor.X86Rows.{x86_rows}
use Rattle.lg_selx_values.proofs.OfNodesLemmas.{settled-within}
use Rattle.lg_selx.proofs.SmallLemmas.{items-small}
use Rattle.lg_sel.proofs.PartLemmas.{HasParts, is-backend}
use Rattle.lg_selx.proofs.FixLemmas.{leads}
use Rattle.lg_op.specs.declared.op.Op.TheVariants as op
use Rattle.lg_op.specs.declared.op.PlainOp.TheVariants as plain
use Rattle.lg_op.specs.declared.operand.Operand.TheVariants as operand

-- a `prolog` has some
prolog-some : (homes saved : ℕ) (reach : Reach) (o : Op) (xs : List Operand) (line frame : ℕ) (choices : List Choice) (staged : List Bool) (place : ℕ) → is_prolog o ≡ true → 0 < length (blanks (node_items homes saved reach (node_of o xs line) frame choices staged place))
prolog-some homes saved reach (op.Plain plain.Prolog) xs line frame choices staged place is = omega arith
prolog-some homes saved reach o xs line frame choices staged place is = cc

-- after an `.align` the place is a multiple of its number
aligned : (reach : Reach) (node : Node) (site : Site) (place : ℕ) → InForm node → place % 1 ≡ 0 → IsAligned node (place + length (blanks (site_items reach node site place)))
aligned reach node site place formed even n is xs =
    let made : Op → List Operand → List Item = λ o ys. site_items reach record { op = o; operands = ys; line = node.line } site place in
    let same : site_items reach node site place ≡ ones (align_code place n) = λ j. made (is j) (xs j) in
    let admitted : admit (forms_of (op.Plain plain.Align)) (operand.Number n ∷ []) ≡ true = subst (λ (p : Op × List Operand). admit (forms_of p.0) p.1 ≡ true) (λ j. (is j, xs j)) formed.forms in
    let spelled : length (blanks (ones (align_code place n))) ≡ length (spellings spelling (align_code place n)) = ap length (blanks-ones (align_code place n)) in
    ap (λ (k : ℕ). k % n) (ap (λ (ys : List Item). place + length (blanks ys)) same ∙ ap (λ (k : ℕ). place + k) spelled)
    ∙ alignments-align place n (and-first (is_alignment n) true admitted)

x86-parts : HasParts x86_code needs spelling IsInstr x86_stores x86_holes IsItem NamesOneOf IsGiven x86_families x86_rows WritesWithin StaysWithin Names
x86-parts = record {
  holes = are-holes;
  given = λ n live site formed chosen first.
      let fit = choices-fit n live site.staged.arguments site.choices chosen in
      record { formed = formed; few = fit.0; stores = store-choice n live site.staged.arguments site.choices chosen; slots = fit.1; first = first };
  emit = families-emit;
  fit = families-fit;
  stay = families-stay;
  small = λ reach n live site labels place asked few. items-small site.frame.homes site.frame.saved reach site.frame.size site.frame.is_frame live site.staged.arguments site.choices labels place n asked;
  whole = λ x place even. omega arith;
  leads = leads;
  begins = λ reach n site place is.
      prolog-some site.frame.homes site.frame.saved reach n.op n.operands n.line site.frame.size site.choices site.staged.arguments place is;
  aligned = aligned;
  instructions = λ bytes h. h;
  sparing = λ most bytes h. h;
  short = λ old new code c i goal f. node-short old new code c i f goal;
  ahead = λ old new code c i f. node-ahead old new code c i f;
  holes_in = λ code trash. are-holes;
  finished = λ old new code trash c i f. f;
  is_place = λ code trash place whole. refl;
  settle = λ code trash n. settled-within (moves_at X86_64 n);
  carry = λ reach code trash c i live site.
      families reach code trash c i site.frame.size site.frame.homes site.frame.saved site.frame.is_frame live site.staged.arguments site.choices;
}

pub x86-backend : IsBackend x86_code needs spelling IsInstr x86_stores x86_holes IsItem NamesOneOf IsGiven site_items
x86-backend = is-backend x86_code needs spelling IsInstr x86_stores x86_holes IsItem NamesOneOf IsGiven x86_families x86_rows WritesWithin StaysWithin Names x86-parts
