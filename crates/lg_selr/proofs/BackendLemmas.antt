-- What RV64 shows of its items, so that `select` keeps its promises.
use Rattle.std.proofs.Common.{◌≡◌, ℕ, ◌+◌, ◌*◌, ◌%◌, true, List, ◌∷◌, [], length, ap, ◌∙◌, subst, arith, ◌<◌, ◌≤◌, Bool, false}
use Rattle.lg_base.specs.declared.target.Target.TheVariants.{Riscv64}
use Rattle.lg_op.specs.Forms.{is_alignment, forms_of, admit}
use Rattle.lg_op.specs.Nodes.{InForm}
use Rattle.lg_op.specs.declared.node.Node.{Node}
use Rattle.lg_op.specs.declared.op.Op.{Op}
use Rattle.lg_op.specs.declared.operand.Operand.{Operand}
use Rattle.lg_rv.specs.Spelling.{IsInstr, spelling}
use Rattle.lg_sel.proofs.PlaceLemmas.{and-first}
use Rattle.lg_sel.specs.Backends.{IsBackend}
use Rattle.lg_sel.specs.Selected.{IsAligned}
use Rattle.lg_selr.specs.Stores.{rv_stores}
use Rattle.lg_sel.specs.declared.reach.Reach.{Reach}
use Rattle.lg_sel.specs.declared.site.Site.{Site}
use Rattle.lg_selr.proofs.Emissions.{Names}
use Rattle.lg_selr.proofs.NodeFits.{choices-fit, families-emit, families-fit, families-stay}
use Rattle.lg_selr.proofs.OfControl.AlignLemmas.{alignments-align}
use Rattle.lg_selr.proofs.ShortLemmas.{node-short, node-ahead}
use Rattle.lg_selr.specs.Control.Alignments.{align_code}
use Rattle.lg_selr.specs.Code.{rv_code}
use Rattle.lg_selr.specs.Items.{site_items, IsGiven, rv_families, node_items}
use Rattle.lg_selr.specs.Selected.{needs}
use Rattle.lg_selr_values.proofs.ItemLemmas.{blank_bytes, words-ones}
use Rattle.lg_selr_values.proofs.PatchLemmas.{are-holes}
use Rattle.lg_selr_values.specs.Items.{rv_holes, IsItem, NamesOneOf, bytes_in, blanks, ones, words_in, StaysWithin}
use Rattle.lg_selr_values.specs.declared.items.Item.{Item}
use Rattle.std.specs.Prelude.{◌-◌, nat_le, if◌then◌else◌}
use Rattle.lg_carry.specs.Carries.{moves_at}
use Rattle.lg_selr.specs.Control.Prologs.{fall_code, framed_code}
use Rattle.lg_node.specs.Functions.{is_prolog}
use Rattle.lg_sel.proofs.FamilyLemmas.{node_of}
use Rattle.lg_selr.proofs.NodeLemmas.{families}
use Rattle.lg_temp.specs.declared.choice.Choice.{Choice}
use Rattle.std.proofs.lemmas.Bool.Decides.{nat_tests}
use Rattle.lg_selr_values.specs.Processor.Destinations.{WritesWithin}
use Rattle.lg_selr_values.specs.Processor.RvRows.{rv_rows}
use Rattle.lg_selr_values.proofs.OfNodesLemmas.{settled-within}
use Rattle.lg_sel.proofs.PartLemmas.{HasParts, is-backend}
use Rattle.lg_selr.proofs.FixLemmas.{leads, whole}
use Rattle.lg_base.specs.Layout.{code_base}
use Rattle.lg_op.specs.declared.op.Op.TheVariants as op
use Rattle.lg_op.specs.declared.op.PlainOp.TheVariants as plain
use Rattle.lg_op.specs.declared.operand.Operand.TheVariants as operand

-- 64 instructions have at most 256 bytes
pub at-most-256 : (items : List Item) → words_in items ≤ 64 → length (blanks items) ≤ 256
at-most-256 items few = let size = blank_bytes items in omega (arith, few, size)

-- a `prolog` has some
prolog-some : (homes saved : ℕ) (reach : Reach) (o : Op) (xs : List Operand) (line frame : ℕ) (choices : List Choice) (staged : List Bool) (place : ℕ) → is_prolog o ≡ true → 0 < words_in (node_items homes saved reach (node_of o xs line) frame choices staged place)
prolog-some homes saved reach (op.Plain plain.Prolog) xs line frame choices staged place is = by (nat_le frame 2048)
  where
    by : (b : Bool) → 0 < words_in (ones (if b then framed_code saved frame homes [] else framed_code saved 2048 homes (fall_code (frame - 2048))))
    by true = omega arith
    by false = omega arith
prolog-some homes saved reach o xs line frame choices staged place is = cc

-- after an `.align` the place is a multiple of its number
aligned : (reach : Reach) (node : Node) (site : Site) (place : ℕ) → InForm node → place % 4 ≡ 0 → IsAligned node (place + length (blanks (site_items reach node site place)))
aligned reach node site place formed even n is xs =
    let made : Op → List Operand → List Item = λ o ys. site_items reach record { op = o; operands = ys; line = node.line } site place in
    let same : site_items reach node site place ≡ ones (align_code place n) = λ j. made (is j) (xs j) in
    let admitted : admit (forms_of (op.Plain plain.Align)) (operand.Number n ∷ []) ≡ true = subst (λ (p : Op × List Operand). admit (forms_of p.0) p.1 ≡ true) (λ j. (is j, xs j)) formed.forms in
    let size = blank_bytes (site_items reach node site place) ∙ ap bytes_in same in
    let words = words-ones (align_code place n) in
    let total : place + length (blanks (site_items reach node site place)) ≡ place + 4 * length (align_code place n) = omega (arith, size, words) in
    ap (λ (k : ℕ). k % n) total ∙ alignments-align place n (and-first (is_alignment n) true admitted) even

rv-parts : HasParts rv_code needs spelling IsInstr rv_stores rv_holes IsItem NamesOneOf IsGiven rv_families rv_rows WritesWithin StaysWithin Names
rv-parts = record {
  holes = are-holes;
  given = λ n live site formed chosen first.
      let fit = choices-fit n live site.staged.arguments site.choices chosen in
      record { formed = formed; few = fit.0; slots = fit.1; first = first };
  emit = families-emit;
  fit = families-fit;
  stay = families-stay;
  small = λ reach n live site labels place asked few. at-most-256 (site_items reach n site place) few;
  whole = whole;
  leads = leads;
  begins = λ reach n site place is.
      let some = prolog-some site.frame.homes site.frame.saved reach n.op n.operands n.line site.frame.size site.choices site.staged.arguments place is in
      let size = blank_bytes (site_items reach n site place) in omega (arith, some, size);
  aligned = aligned;
  instructions = λ bytes h. h;
  sparing = λ most bytes h. h;
  short = λ old new code c i goal f. node-short old new code c i f goal;
  ahead = λ old new code c i f. node-ahead old new code c i f;
  holes_in = λ code trash. are-holes;
  finished = λ old new code trash c i f. f;
  is_place = λ code trash place whole. let w : (code_base + place) % 4 ≡ 0 = omega (arith, whole) in grind (arith, nat_tests, w);
  settle = λ code trash n. settled-within (moves_at Riscv64 n);
  carry = λ reach code trash c i live site.
      families reach code trash c i site.frame.size site.frame.homes site.frame.saved live site.staged.arguments site.choices;
}

pub rv-backend : IsBackend rv_code needs spelling IsInstr rv_stores rv_holes IsItem NamesOneOf IsGiven site_items
rv-backend = is-backend rv_code needs spelling IsInstr rv_stores rv_holes IsItem NamesOneOf IsGiven rv_families rv_rows WritesWithin StaysWithin Names rv-parts
