-- What `select` owes on every target, by what the target shows of its items.
use Rattle.std.proofs.Common.{◌≡◌, ℕ, ◌+◌, ◌%◌, Bool, List, length, drop, refl, sym, ap, subst, ◌∙◌, arith, length-append}
use Rattle.std.specs.Prelude.{slice_index}
use Rattle.std.specs.List.{All}
use Rattle.std.proofs.lemmas.List.{drop_at}
use Rattle.lg_buf.specs.Buffers.{Buffer}
use Rattle.lg_op.specs.declared.node.Node.{Node}
use Rattle.lg_op.specs.declared.op.Op.{Op}
use Rattle.lg_op.specs.declared.operand.Reg.{Reg}
use Rattle.lg_sel.proofs.AppendedLemmas.{lengthened}
use Rattle.lg_sel.proofs.FinishedLemmas.{items-are-sparing, items-are-whole}
use Rattle.lg_sel.specs.Holes.{Holes, blanks, fixes_of}
use Rattle.lg_sel.specs.Backends.{IsBackend, AreSelected}
use Rattle.lg_sel.specs.Promises.{IsAppended}
use Rattle.lg_sel.specs.Selected.{IsFixOf}
use Rattle.lg_sel.specs.Stores.{own_stores}
use Rattle.lg_sel.specs.TargetCodes.{TargetCode}
use Rattle.lg_sel.specs.Targets.{alignment_of}
use Rattle.lg_sel.specs.declared.reach.Reach.{Reach}
use Rattle.lg_sel.specs.declared.site.Site.{Site}
use Rattle.lg_temp.specs.Chosen.{spills}
use Rattle.lg_temp.specs.declared.choice.Need.{Need}

module _ {L I : Type 0} {T : TargetCode} {needs : Op → List Need} {spelling : I → List ℕ} {fits : I → Type 0} {is_store : I → Bool} {H : Holes L I}
    {is_item : L → Type 0} {names_one_of : ℕ → L → Type 0} {is_given : Node → Site → Type 0} {items : Reach → Node → Site → ℕ → List L}
    (ok : IsBackend T needs spelling fits is_store H is_item names_one_of is_given items) (reach : Reach) (n : Node) (site : Site) (live : Reg → Bool)
    (old new : Buffer) (s : AreSelected T needs H items reach n site live old new) where
  abbrev place : ℕ
  place = length old.bytes

  abbrev mine : List L
  mine = items reach n site place

  size : length new.bytes ≡ place + length (blanks H mine)
  size = ap length s.appended.bytes ∙ length-append old.bytes (blanks H mine)

  pub promised : IsAppended T n site.frame.size site.frame.homes site.frame.saved live site.staged.arguments site.choices old new
  promised =
      let fit = ok.emittable reach n live site (length old.labels) place s.asked s.few in record {
        bytes = lengthened old.bytes new.bytes (blanks H mine) s.appended.bytes;
        short = let small = fit.small in let e = size in omega (arith, small, e);
        whole = subst (λ k. k % alignment_of T.target ≡ 0) (sym size) (ok.whole reach n site place s.whole);
        begins = λ prolog. let some = ok.begins reach n site place prolog in let e = size in omega (arith, some, e);
        aligned = λ m is xs. ap (λ (k : ℕ). k % m) size ∙ ok.aligned reach n site place s.asked.formed s.whole m is xs;
        fixes = lengthened old.fixes new.fixes (fixes_of H place mine) s.appended.fixes;
        lead = subst (All (IsFixOf (alignment_of T.target) old n))
            (sym (ap (drop (length old.fixes)) s.appended.fixes ∙ drop_at old.fixes (fixes_of H place mine) (length old.fixes) refl))
            (ok.lead reach n site old s.whole s.checked);
        shortest = ok.shortest reach n site live old new s;
        ahead = ok.ahead reach n site live old new s;
        instructions = λ code c i f. ok.instructions _ (items-are-whole H spelling fits is_item ok.holes old new code c i mine s.appended fit.instrs f);
        sparing = λ code c i f. ok.sparing _ _ (items-are-sparing H spelling fits is_item ok.holes is_store old new code c i mine
            (spills site.choices + own_stores T.target site.frame.homes site.frame.saved n.op) s.appended fit.instrs
            (ok.stores reach n site place (slice_index c.addresses) (c.place i)) f);
        carries = ok.carries reach n site live old new s;
      }
