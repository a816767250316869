-- A target is a backend by what it shows of its families of items, and of one item at a time.
use Rattle.std.proofs.Common.{◌≡◌, ℕ, ◌+◌, ◌%◌, ◌^◌, ◌<◌, ◌≤◌, Bool, true, List, [], ◌∷◌, ◌++◌, length, refl, sym, subst, arith, length-append}
use Rattle.std.specs.Prelude.{◌-◌, Option, Some, slice_get, slice_index}
use Rattle.std.specs.List.{All, AllByRecursion}
use Rattle.std.proofs.lemmas.List.{drop_at}
use Rattle.lg_base.specs.Layout.{code_base}
use Rattle.lg_base.specs.declared.target.Target.{Target}
use Rattle.lg_buf.specs.Buffers.{Buffer}
use Rattle.lg_buf.specs.declared.fixes.Fix.{Fix}
use Rattle.lg_carry.specs.Carries.{moves_at}
use Rattle.lg_carry.specs.FinalNodes.{Code}
use Rattle.lg_carry.specs.NodeCode.{numbered, CarriesNode}
use Rattle.lg_carry.specs.Rows.{Rows}
use Rattle.lg_cpu.specs.States.{CpuState}
use Rattle.lg_cpu.specs.Steps.{Run}
use Rattle.lg_node.specs.Functions.{is_prolog}
use Rattle.lg_op.specs.Nodes.{InForm}
use Rattle.lg_op.specs.declared.node.Node.{Node}
use Rattle.lg_op.specs.declared.op.Op.{Op}
use Rattle.lg_op.specs.declared.operand.Label.{Label}
use Rattle.lg_op.specs.declared.operand.Operand.{Operand}
use Rattle.lg_op.specs.declared.operand.Operand.TheVariants as operand
use Rattle.lg_op.specs.declared.operand.Reg.{Reg}
use Rattle.lg_sel.proofs.AppendedLemmas.{fixes-of-lead}
use Rattle.lg_sel.proofs.EmissionLemmas.{stores-counted}
use Rattle.lg_sel.proofs.FamilyLemmas.{HoldsOfFamilies, of-node}
use Rattle.lg_sel.proofs.FinishedLemmas.{items-are-of-node}
use Rattle.lg_sel.proofs.LabelLemmas.{names, all-self}
use Rattle.lg_sel.proofs.NodeEmissionLemmas as emission
use Rattle.lg_sel.proofs.NodeFitLemmas as ranges
use Rattle.lg_sel.proofs.SelectionLemmas as selection
use Rattle.lg_sel.proofs.StoreLemmas.{allowed}
use Rattle.lg_sel.specs.Asked.{IsAsked}
use Rattle.lg_sel.specs.Backends.{IsBackend, AreSelected}
use Rattle.lg_sel.specs.Families.{Families, node_items}
use Rattle.lg_sel.specs.Holes.{Holes, AreHoles, Each, words_in, blanks, settled, fixes_of}
use Rattle.lg_sel.specs.NodeItems.{AreInCode}
use Rattle.lg_sel.specs.Promises.{IsCarriedWhenFinished}
use Rattle.lg_sel.specs.Reaches.{reach_ahead, IsChecked}
use Rattle.lg_sel.specs.Selected.{IsAligned, IsFixOf, AreChosen, AreFirst, AreWhole, IsFinished, IsNodeOf, is_pusharg, part_of}
use Rattle.lg_sel.specs.Shorts.{IsShort, IsAhead}
use Rattle.lg_sel.specs.Stores.{StoresAtMost}
use Rattle.lg_sel.specs.TargetCodes.{TargetCode}
use Rattle.lg_sel.specs.Targets.{alignment_of}
use Rattle.lg_sel.specs.declared.reach.Reach.{Reach}
use Rattle.lg_sel.specs.declared.site.Site.{Site}
use Rattle.lg_temp.specs.declared.choice.Choice.{Choice}
use Rattle.lg_temp.specs.declared.choice.Need.{Need}

-- what is known of a node whose code begins at a place of the buffer
pub record IsKnown (target : Target) (needs : Op → List Need) (c : Code) (i : ℕ) (n : Node) (frame homes saved : ℕ) (live : Reg → Bool) (staged : List Bool) (choices : List Choice) (labels place : ℕ) : Type 0 where
  pub node : IsNodeOf (alignment_of target) n frame homes saved staged c i
  pub asked : IsAsked target needs n live staged choices labels
  pub address : c.place i ≡ code_base + place

module _ {L I : Type 0} (T : TargetCode) (needs : Op → List Need) (spelling : I → List ℕ) (fits : I → Type 0) (is_store : I → Bool) (H : Holes L I) (is_item : L → Type 0)
    (names_one_of : ℕ → L → Type 0) (is_given : Node → Site → Type 0) (F : ℕ → ℕ → Reach → Families L) (rows : List ℕ → ℕ → Rows (Run CpuState) I)
    (stays : Bool → I → Type 0) (item_stays : Bool → L → Type 0) (passes : Reach → (ℕ → Bool) → L → Type 0) where
  abbrev unit : ℕ
  unit = alignment_of T.target

  -- the items of a node at a site
  abbrev items : Reach → Node → Site → ℕ → List L
  items reach n site place = node_items (F site.frame.homes site.frame.saved reach) n site.frame.size site.choices site.staged.arguments place

  -- the code of these items, which are in the code, carries the node
  abbrev Carries : List ℕ → ℕ → Code → ℕ → (Reg → Bool) → Site → ℕ → ℕ → Node → List L → Type 0
  Carries code trash c i live site labels place n xs =
      IsKnown T.target needs c i n site.frame.size site.frame.homes site.frame.saved live site.staged.arguments site.choices labels place
      → AreInCode H (rows code trash) fits stays is_item trash c i xs → CarriesNode (T.processor code trash) c i n (numbered live)

  pub record HasParts : Type 0 where
    pub holes : AreHoles H spelling fits is_item
    pub given : (n : Node) (live : Reg → Bool) (site : Site) → InForm n
        → AreChosen T.target (needs n.op) n live site.staged.arguments site.choices → (is_pusharg n.op ≡ true → AreFirst site.staged.arguments) → is_given n site
    -- of each family: labels, fixes and stores; ranges; registers
    pub emit : (homes saved : ℕ) (reach : Reach) → emission.FamiliesEmit T.target homes saved H is_store (passes reach) (F homes saved reach)
    pub fit : (homes saved : ℕ) (reach : Reach) (labels : ℕ) → ranges.FamiliesFit T.target needs (F homes saved reach) is_item names_one_of labels
    pub stay : (homes saved : ℕ) (reach : Reach) → ranges.FamiliesStay T.target needs (F homes saved reach) item_stays
    -- 64 instructions have at most 256 bytes
    pub small : (reach : Reach) (n : Node) (live : Reg → Bool) (site : Site) (labels place : ℕ) → IsAsked T.target needs n live site.staged.arguments site.choices labels
        → words_in H (items reach n site place) ≤ 64 → length (blanks H (items reach n site place)) ≤ 256
    -- of an item: it has whole units of bytes, and its fixes, which were checked, lead where those of the node may
    pub whole : (x : L) (place : ℕ) → place % unit ≡ 0 → (place + length (H.blank x)) % unit ≡ 0
    pub leads : (n : Node) (old : Buffer) (reach : Reach) (x : L) (place : ℕ) → length old.bytes ≤ place → place % unit ≡ 0 → passes reach (names n.operands) x
        → Each (IsChecked reach old) (H.fix_of place x) → AllByRecursion (IsFixOf unit old n) (H.fix_of place x)
    -- of a `prolog` and an `.align`
    pub begins : (reach : Reach) (n : Node) (site : Site) (place : ℕ) → is_prolog n.op ≡ true → 0 < length (blanks H (items reach n site place))
    pub aligned : (reach : Reach) (n : Node) (site : Site) (place : ℕ) → InForm n → place % unit ≡ 0 → IsAligned n (place + length (blanks H (items reach n site place)))
    -- the target's words for whole instructions and stores are these
    pub instructions : (bytes : List ℕ) → AreWhole spelling fits bytes → T.are_instructions bytes
    pub sparing : (most : ℕ) (bytes : List ℕ) → StoresAtMost spelling fits is_store most bytes → T.store_at_most most bytes
    -- what leads back has the shortest form, and what leads ahead that of the buffer's size
    pub short : (old new : Buffer) (code : List ℕ) (c : Code) (i goal : ℕ) → IsFinished old new code c i → (frame homes saved : ℕ) (r : Reach) (o : Op) (xs : List Operand) (l : Label)
        → slice_get xs 0 ≡ Some (operand.Label l)
        → selection.IsKnown H is_item old new (slice_index c.addresses) goal (λ s. (F homes saved s).control o xs frame (length old.bytes)) r o xs
        → IsShort T o goal (length old.bytes) (part_of code (length old.bytes) (length new.bytes - length old.bytes))
    pub ahead : (old new : Buffer) (code : List ℕ) (c : Code) (i : ℕ) → IsFinished old new code c i → (frame homes saved : ℕ) (r : Reach) (o : Op) (xs : List Operand) (l : Label)
        → slice_get xs 0 ≡ Some (operand.Label l)
        → selection.IsKnownAhead H is_item old new (λ s. (F homes saved s).control o xs frame (length old.bytes)) r o xs
        → IsAhead T (reach_ahead old.size) o (length old.bytes) (part_of code (length old.bytes) (length new.bytes - length old.bytes))
    -- the rows are the target's, over the code: it has the holes, is finished where the code is, is met at whole units, and stays within the conventions
    pub holes_in : (code : List ℕ) (trash : ℕ) → AreHoles H (rows code trash).spelling fits is_item
    pub finished : (old new : Buffer) (code : List ℕ) (trash : ℕ) (c : Code) (i : ℕ) → IsFinished old new code c i → IsFinished old new (rows code trash).code c i
    pub is_place : (code : List ℕ) (trash place : ℕ) → place % unit ≡ 0 → (rows code trash).is_place (code_base + place) ≡ true
    pub settle : (code : List ℕ) (trash : ℕ) (n : Option Node) (to : ℕ → ℕ) (at : ℕ) (xs : List L) → Each (item_stays (moves_at T.target n)) xs
        → All (stays (moves_at (rows code trash).processor.target n)) (settled H to at xs)
    -- the code of each family carries its nodes
    pub carry : (reach : Reach) (code : List ℕ) (trash : ℕ) (c : Code) (i : ℕ) (live : Reg → Bool) (site : Site) (labels place : ℕ)
        → HoldsOfFamilies (F site.frame.homes site.frame.saved reach) (Carries code trash c i live site labels place) site.frame.size site.choices site.staged.arguments place

  module _ (P : HasParts) where
    whole-items : (xs : List L) (place : ℕ) → place % unit ≡ 0 → (place + length (blanks H xs)) % unit ≡ 0
    whole-items [] place h = let e : place + length (blanks H []) ≡ place = omega arith in subst (λ k. k % unit ≡ 0) (sym e) h
    whole-items (x ∷ xs) place h =
        let long = length-append (H.blank x) (blanks H xs) in
        let e : place + length (blanks H (x ∷ xs)) ≡ (place + length (H.blank x)) + length (blanks H xs) = omega (arith, long) in
        subst (λ k. k % unit ≡ 0) (sym e) (whole-items xs (place + length (H.blank x)) (P.whole x place h))

    module _ (reach : Reach) (n : Node) (site : Site) where
      emits : (place : ℕ) → emission.Emits T.target site.frame.homes site.frame.saved H is_store (passes reach) (names n.operands) 1 (allowed T.target site.frame.homes site.frame.saved site.choices n.op) (items reach n site place)
      emits place =
          emission.node-emits T.target site.frame.homes site.frame.saved H is_store (passes reach) (F site.frame.homes site.frame.saved reach) (P.emit site.frame.homes site.frame.saved reach)
          site.frame.size site.choices site.staged.arguments place n (names n.operands) (all-self n.operands)

      fitting : (live : Reg → Bool) (labels place : ℕ) → IsAsked T.target needs n live site.staged.arguments site.choices labels
          → ranges.Fit T.target needs (F site.frame.homes site.frame.saved reach) is_item names_one_of labels (items reach n site place)
      fitting live labels place asked =
          ranges.items-fit T.target needs (F site.frame.homes site.frame.saved reach) is_item names_one_of labels (P.fit site.frame.homes site.frame.saved reach labels) site.frame.size
          site.frame.is_frame live site.staged.arguments site.choices place n asked

      lead : (old : Buffer) → length old.bytes % unit ≡ 0 → Each (IsChecked reach old) (fixes_of H (length old.bytes) (items reach n site (length old.bytes)))
          → All (IsFixOf unit old n) (fixes_of H (length old.bytes) (items reach n site (length old.bytes)))
      lead old even checked =
          let fixes : List Fix = fixes_of H (length old.bytes) (items reach n site (length old.bytes)) in
          subst (All (IsFixOf unit old n)) (drop_at old.fixes fixes (length old.fixes) refl)
          (fixes-of-lead H unit n old (passes reach (names n.operands)) (IsChecked reach old) P.whole (P.leads n old reach) (record old { fixes = old.fixes ++ fixes })
          (items reach n site (length old.bytes)) refl even (emits (length old.bytes)).named checked)

      -- where the buffer is finished, the items that were appended are in the code
      module _ (live : Reg → Bool) (old new : Buffer) (s : AreSelected T needs H items reach n site live old new) where
        abbrev mine : List L
        mine = items reach n site (length old.bytes)

        within : Each (item_stays (moves_at T.target (Some n))) mine
        within =
            ranges.items-stay T.target needs (F site.frame.homes site.frame.saved reach) item_stays (P.stay site.frame.homes site.frame.saved reach) site.frame.size live s.asked.chosen.set
            site.staged.arguments site.choices (length old.bytes) n
            (ranges.are-made T.target needs (F site.frame.homes site.frame.saved reach) n live site.staged.arguments site.choices (length old.labels) s.asked)

        in-code : (code : List ℕ) (trash : ℕ) (c : Code) (i : ℕ) → trash < 2 ^ 64 → slice_get c.nodes.nodes i ≡ Some n → IsFinished old new code c i
            → AreInCode H (rows code trash) fits stays is_item trash c i mine
        in-code code trash c i word here f =
            let g = P.finished old new code trash c i f in record {
              small = g.small;
              bytes = g.bytes;
              word = word;
              of_node = items-are-of-node H (rows code trash) fits stays is_item (P.holes_in code trash) old new c i mine s.appended (fitting live (length old.labels) (length old.bytes) s.asked).instrs
                  (P.settle code trash (slice_get c.nodes.nodes i) (slice_index c.addresses) (c.place i) mine (subst (λ m. Each (item_stays (moves_at T.target m)) mine) (sym here) within)) s.few
                  (subst (λ p. (rows code trash).is_place p ≡ true) (sym f.here) (P.is_place code trash (length old.bytes) s.whole)) g;
            }

        carried : IsCarriedWhenFinished T n site.frame.size site.frame.homes site.frame.saved live site.staged.arguments old new
        carried code trash c i word f k =
            of-node (F site.frame.homes site.frame.saved reach) (Carries code trash c i live site (length old.labels) (length old.bytes)) site.frame.size site.choices site.staged.arguments
            (length old.bytes) (P.carry reach code trash c i live site (length old.labels) (length old.bytes)) n record { node = k; asked = s.asked; address = f.here }
            (in-code code trash c i word k.text.here f)

    pub is-backend : IsBackend T needs spelling fits is_store H is_item names_one_of is_given items
    is-backend = record {
      holes = P.holes;
      given = P.given;
      emittable = λ reach n live site labels place asked few.
          let f = fitting reach n site live labels place asked in
          record { instrs = f.instrs; names = f.names; fixed = (emits reach n site place).fixed; small = P.small reach n live site labels place asked few };
      whole = λ reach n site place even. whole-items (items reach n site place) place even;
      begins = P.begins;
      aligned = P.aligned;
      lead = lead;
      stores = λ reach n site place to at.
          stores-counted H is_store (passes reach (names n.operands)) 1 (allowed T.target site.frame.homes site.frame.saved site.choices n.op) (items reach n site place) (emits reach n site place) to at;
      instructions = P.instructions;
      sparing = P.sparing;
      shortest = λ reach n site live old new s.
          selection.selected-shortest T needs H is_item (F site.frame.homes site.frame.saved) reach n site.frame.size live site.staged.arguments site.choices old new s.asked s.appended
          (fitting reach n site live (length old.labels) (length old.bytes) s.asked).instrs
          (λ code c i goal f. P.short old new code c i goal f site.frame.size site.frame.homes site.frame.saved) s.checked s.least;
      ahead = λ reach n site live old new s.
          selection.selected-ahead T needs H is_item (F site.frame.homes site.frame.saved) reach n site.frame.size live site.staged.arguments site.choices old new s.asked s.appended
          (fitting reach n site live (length old.labels) (length old.bytes) s.asked).instrs
          (λ code c i f. P.ahead old new code c i f site.frame.size site.frame.homes site.frame.saved) s.checked s.ahead;
      carries = carried;
    }
