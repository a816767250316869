-- Where moves that do nothing are dropped, each definition but a `movr` is of use still.
use Rattle.std.proofs.Common.{◌≡◌, ◌≢◌, ◌⊎◌, inl, inr, ⊎_elim, ℕ, zero, suc, ◌+◌, ◌<◌, Bool, true, false, not, ◌&&◌, ◌||◌, List, [], ◌∷◌, Option, Some, None, length, refl, sym, ap, ◌∙◌, subst, add-one, arith}
use Rattle.std.specs.Prelude.{if◌then◌else◌, slice_get}
use Rattle.std.specs.List.{All}
use Rattle.std.proofs.lemmas.Option.{slice_get_within, same_Some}
use Rattle.lg_op.specs.Forms.{forms_of}
use Rattle.lg_op.specs.Nodes.{InForm}
use Rattle.lg_op.specs.declared.form.Form.{Form}
use Rattle.lg_op.specs.declared.node.Node.{Node}
use Rattle.lg_op.specs.declared.op.Op.{Op}
use Rattle.lg_op.specs.declared.op.Op.TheVariants as op
use Rattle.lg_op.specs.declared.op.UnaryOp.TheVariants as unary
use Rattle.lg_op.specs.declared.operand.Operand.{Operand}
use Rattle.lg_op.specs.declared.operand.Operand.TheVariants as operand
use Rattle.lg_op.specs.declared.operand.Reg.{Reg}
use Rattle.lg_op.specs.declared.operand.Reg.TheVariants.{R0, R1, R2, V0, V1, V2, Fp}
use Rattle.lg_live.specs.Registers.{is_same}
use Rattle.lg_live.specs.declared.uses.Access.{Access}
use Rattle.lg_live.specs.declared.uses.Access.TheVariants as access
use Rattle.lg_live.specs.Uses.{is_for, is_register, names, is_read, is_written}
use Rattle.lg_carry.specs.Carries.{leaps}
use Rattle.lg_node.specs.declared.place.Place.TheVariants as place
use Rattle.lg_node.specs.Labels.{is_labelled}
use Rattle.lg_node.specs.Nodes.{LabelledNodes}
use Rattle.lg_node.specs.Shapes.{TextShape, IsShapeOf, IsSuccessor, GoesBy, Way, Next, Jump, Either, Taken, Leave, way_of, target_of}
use Rattle.lg_node.proofs.SuccessorLaws.{has_functions}
use Rattle.lg_node.proofs.WellShaped.{well_shaped}
use Rattle.lg_meaning.proofs.MeanLemmas.{formed_at}
use Rattle.lg_live.specs.Definitions.{defines}
use Rattle.lg_opt.specs.Moves.{Move, move_of, no_sources, is_equal, is_source, is_idle, unless_written, after_other, after_move, after_node, after_at, sources_before}
use Rattle.lg_opt.specs.Moves as moves
use Rattle.lg_opt.specs.Remaining.{new_number, rewritten, no_targets}
use Rattle.lg_opt.proofs.DropLemmas.{not-fp, idle-there, drops-rewrite}
use Rattle.lg_opt.proofs.LabelLemmas.{labelled-at, labelled-bound}
use Rattle.lg_opt.proofs.MoveLemmas.{same-reg, source-is}
use Rattle.lg_opt.proofs.MovedLemmas.{comes-from, new-count, stands}
use Rattle.lg_opt.proofs.RemainingLemmas.{number-goes}
use Rattle.lg_opt.proofs.TidyLemmas.{move-is}
use Rattle.lg_dead.specs.Dead.{AllAreOfUse, HasNoDeadButMoves}
use Rattle.lg_opt.specs.Moves.{is_movr}
use Rattle.lg_live.specs.Needs.{IsNeeded}
use Rattle.lg_live.specs.Needs as needed
use Rattle.lg_dead.proofs.NeededLemmas.{successor-moved, needed-inside, needed-live, next-only}
use Rattle.lg_dead.proofs.NoFoldLemmas.{Source, source-after, falls-next}
use Rattle.lg_dead.proofs.FoldRunLemmas.{is-same}
use Rattle.lg_dead.proofs.KnownKeepLemmas.{same-itself}
use Rattle.lg_dead.proofs.KnownLemmas.{or-false}

no : true ≡ false → ⊥
no e = cc

some-reg : (a b : Reg) → ◌≡◌ {A = Option Reg} (Some a) (Some b) → a ≡ b
some-reg a b e = cc

none-reg : (a : Reg) → ◌≡◌ {A = Option Reg} None (Some a) → ⊥
none-reg a e = cc

-- ---- registers that were moved into each other, one after the other
data Linked (f : Reg → Option Reg) : Reg → Reg → Type 0 where
  same : (r : Reg) → Linked f r r
  up : (r x y : Reg) → f r ≡ Some x → x ≢ Fp → Linked f x y → Linked f r y
  down : (r x y : Reg) → f x ≡ Some r → x ≢ Fp → Linked f x y → Linked f r y

alone : (r y : Reg) → Linked no_sources r y → r ≡ y
alone r y (same r1) = refl
alone r y (up r1 x y1 e z h) = absurd (none-reg x e)
alone r y (down r1 x y1 e z h) = absurd (none-reg r e)

other-kept : (f : Reg → Option Reg) (n : Node) (r y : Reg) → Linked (after_other f n) r y → is_written n r ≡ false → (is_written n y ≡ false) × Linked f r y
other-kept f n r y (same r1) w = (w, same r)
other-kept f n r y (up r1 x y1 e z h) w = let s = source-after f n r x e in let k = other-kept f n x y h s.from in (k.0, up r x y s.before z k.1)
other-kept f n r y (down r1 x y1 e z h) w = let s = source-after f n x r e in let k = other-kept f n x y h s.into in (k.0, down r x y s.before z k.1)

other-written : (f : Reg → Option Reg) (n : Node) (r y : Reg) → Linked (after_other f n) r y → is_written n r ≡ true → r ≡ y
other-written f n r y (same r1) w = refl
other-written f n r y (up r1 x y1 e z h) w = let s = source-after f n r x e in absurd (no (sym w ∙ s.into))
other-written f n r y (down r1 x y1 e z h) w = let s = source-after f n x r e in absurd (no (sym w ∙ s.from))

-- after a move
module _ (f : Reg → Option Reg) (n : Node) (k : Move) (into : is_written n k.into ≡ true) (from : is_written n k.from ≡ false) (only : (r : Reg) → is_written n r ≡ true → k.into ≡ r) where
  abbrev g : Reg → Option Reg
  g = after_move f n k

  g-into : g k.into ≡ Some k.from
  g-into = by (is_equal k.into k.into) refl
    where
      equal : (r : Reg) → is_equal r r ≡ true
      equal R0 = refl
      equal other = refl

      by : (b : Bool) → is_equal k.into k.into ≡ b → (if b then Some k.from else after_other f n k.into) ≡ Some k.from
      by true e = refl
      by false e = absurd (no (sym (equal k.into) ∙ e))

  -- a source is that of the move, or one of another
  g-source : (r x : Reg) → g r ≡ Some x → ((k.into ≡ r) × (k.from ≡ x)) ⊎ Source f n r x
  g-source r x e = by (is_equal k.into r) refl e
    where
      by : (b : Bool) → is_equal k.into r ≡ b → (if b then Some k.from else after_other f n r) ≡ Some x → ((k.into ≡ r) × (k.from ≡ x)) ⊎ Source f n r x
      by true h e = inl (same-reg k.into r h, some-reg k.from x e)
      by false h e = inr (source-after f n r x e)

  abbrev Outside : Reg → Reg → Type 0
  Outside r y = ((y ≡ k.into) × (k.from ≢ Fp) × Linked f r k.from) ⊎ ((is_written n y ≡ false) × Linked f r y)

  abbrev Inside : Reg → Type 0
  Inside y = (y ≡ k.into) ⊎ ((is_written n y ≡ false) × Linked f k.from y)

  further : (r x y : Reg) → (Linked f x k.from → Linked f r k.from) → (Linked f x y → Linked f r y) → Outside x y → Outside r y
  further r x y a b (inl h) = inl (h.0, h.1, a h.2)
  further r x y a b (inr h) = inr (h.0, b h.1)

  move-kept : (r y : Reg) → Linked g r y → (is_written n r ≡ false → r ≢ Fp → Outside r y) × (k.into ≡ r → Inside y)
  move-kept r y (same r1) = (λ w v. inr (w, same r), λ e. inl (sym e))
  move-kept r y (up r1 x y1 e nf h) =
      let again = move-kept x y h in (
        λ w v. ⊎_elim
            (λ z. absurd (no (sym into ∙ ap (is_written n) z.0 ∙ w)))
            (λ (s : Source f n r x). further r x y (λ t. up r x k.from s.before nf t) (λ t. up r x y s.before nf t) (again.0 s.from nf))
            (g-source r x e),
        λ z.
            let here : k.from ≡ x = some-reg k.from x (sym g-into ∙ ap g z ∙ e) in
            let way = again.0 (ap (is_written n) (sym here) ∙ from) nf in
            ⊎_elim (λ t. inl t.0) (λ t. inr (t.0, subst (λ q. Linked f q y) (sym here) t.1)) way,
      )
  move-kept r y (down r1 x y1 e nf h) =
      let again = move-kept x y h in (
        λ w v. ⊎_elim
            (λ z.
            let way = again.1 z.0 in
            ⊎_elim (λ t. inl (t, (λ u. v (sym z.1 ∙ u)), subst (λ q. Linked f q k.from) z.1 (same k.from))) (λ t. inr (t.0, subst (λ q. Linked f q y) z.1 t.1)) way)
            (λ (s : Source f n x r). further r x y (λ t. down r x k.from s.before nf t) (λ t. down r x y s.before nf t) (again.0 s.into nf))
            (g-source x r e),
        λ z. absurd (⊎_elim
            (λ t. no (sym into ∙ ap (is_written n) (z ∙ sym t.1) ∙ from))
            (λ (s : Source f n x r). no (sym into ∙ ap (is_written n) z ∙ s.from))
            (g-source x r e)),
      )

-- ---- FP is never needed
unnamed-fp : (a : Access) (fs : List Form) (xs : List Operand) → names a fs xs Fp ≡ false
unnamed-fp a [] xs = refl
unnamed-fp a (f ∷ fs) [] = refl
unnamed-fp a (f ∷ fs) (x ∷ xs) = ap (λ b. b || (is_for a f && is_register Fp x)) (unnamed-fp a fs xs) ∙ ap (λ b. false || (is_for a f && b)) (never x) ∙ by (is_for a f)
  where
    never : (x : Operand) → is_register Fp x ≡ false
    never (operand.Reg R0) = refl
    never (operand.Reg R1) = refl
    never (operand.Reg R2) = refl
    never (operand.Reg V0) = refl
    never (operand.Reg V1) = refl
    never (operand.Reg V2) = refl
    never (operand.Reg Fp) = refl
    never x = refl

    by : (b : Bool) → (false || (b && false)) ≡ false
    by true = refl
    by false = refl

pub needed-no-fp : (l : LabelledNodes) (s : TextShape) (r : Reg) (i : ℕ) → IsNeeded l s r i → r ≢ Fp
needed-no-fp l s r i (needed.read_here r1 i1 n e f d) z = no (sym f ∙ ap (is_read n) z ∙ unnamed-fp access.Read (forms_of n.op) n.operands)
needed-no-fp l s r i (needed.read_for r1 q i1 k n e f w c x) z = no (sym f ∙ ap (is_read n) z ∙ unnamed-fp access.Read (forms_of n.op) n.operands)
needed-no-fp l s r i (needed.kept_to r1 i1 k n e w c x) z = needed-no-fp l s r k x z

-- ---- a `movr`
module _ (n : Node) (k : Move) (e : move_of n.op n.operands ≡ Some k) where
  there : (n.op ≡ op.Unary unary.Mov) × (n.operands ≡ operand.Reg k.into ∷ operand.Reg k.from ∷ [])
  there = move-is n.op n.operands k e

  move-writes : (r : Reg) → is_written n r ≡ is_same k.into r
  move-writes r =
      subst (λ o. is_written (record n { op = o }) r ≡ is_same k.into r) (sym there.0)
      (subst (λ xs. is_written (record n { op = op.Unary unary.Mov; operands = xs }) r ≡ is_same k.into r) (sym there.1) (or-false (is_same k.into r)))

  move-reads : (r : Reg) → is_read n r ≡ is_same k.from r
  move-reads r =
      subst (λ o. is_read (record n { op = o }) r ≡ is_same k.from r) (sym there.0)
      (subst (λ xs. is_read (record n { op = op.Unary unary.Mov; operands = xs }) r ≡ is_same k.from r) (sym there.1) (or-false (is_same k.from r)))

other-no-move : (o : Op) (xs : List Operand) → is_movr o ≡ false → move_of o xs ≡ None
other-no-move (op.Unary unary.Mov) xs e = cc
other-no-move o xs e = refl

moves-define : (o : Op) (xs : List Operand) (k : Move) → move_of o xs ≡ Some k → defines o ≡ true
moves-define o xs k e = ap defines (move-is o xs k e).0

-- ---- the nodes that stay
module _ (l : LabelledNodes) (shape new_shape : TextShape) (is : IsShapeOf l shape) (formed : All InForm l.nodes) (et : new_shape.taken ≡ shape.taken) where
  abbrev keep : ℕ → Bool
  keep = moves.stays l

  abbrev m : LabelledNodes
  m = rewritten l (moves.stays l) no_targets

  abbrev nu : ℕ → ℕ
  nu = new_number (moves.stays l)

  abbrev f : ℕ → Reg → Option Reg
  f i = sources_before l i

  at-form : (i : ℕ) (n : Node) → slice_get l.nodes i ≡ Some n → InForm n
  at-form = formed_at l shape [] is (well_shaped l is.accepted) (has_functions l is.accepted) formed

  fresh-after : (i : ℕ) (n : Node) → slice_get l.nodes i ≡ Some n → leaps n.op ≡ true → sources_before l (i + 1) ≡ no_sources
  unfolding sources_before
  fresh-after i n e h =
      ap (sources_before l) (add-one i)
      ∙ ap (λ x. if is_labelled l.places (suc i) then no_sources else x) (ap (after_at (sources_before l i)) e ∙ ap (λ b. if b then no_sources else after_node (sources_before l i) n (move_of n.op n.operands)) h)
      ∙ by (is_labelled l.places (suc i))
    where
      by : (b : Bool) → (if b then no_sources else no_sources) ≡ no_sources
      by true = refl
      by false = refl

  fresh-at : (k : ℕ) → is_labelled l.places k ≡ true → sources_before l k ≡ no_sources
  unfolding sources_before
  fresh-at zero h = refl
  fresh-at (suc k) h = ap (λ b. if b then no_sources else after_at (sources_before l k) (slice_get l.nodes k)) h

  next-sources : (i : ℕ) (n : Node) → slice_get l.nodes i ≡ Some n → leaps n.op ≡ false → is_labelled l.places (i + 1) ≡ false → sources_before l (i + 1) ≡ after_node (sources_before l i) n (move_of n.op n.operands)
  unfolding sources_before
  next-sources i n e h free =
      ap (sources_before l) (add-one i)
      ∙ ap (λ b. if b then no_sources else after_at (sources_before l i) (slice_get l.nodes i)) (ap (is_labelled l.places) (sym (add-one i)) ∙ free)
      ∙ ap (after_at (sources_before l i)) e ∙ ap (λ b. if b then no_sources else after_node (sources_before l i) n (move_of n.op n.operands)) h

  -- what is known at a successor
  abbrev Arrives : ℕ → ℕ → Node → Type 0
  Arrives i k n = (sources_before l k ≡ no_sources) ⊎ ((k ≡ i + 1) × (sources_before l k ≡ after_node (sources_before l i) n (move_of n.op n.operands)))

  target-labelled : (n : Node) (k : ℕ) → (xs : List Operand) → target_of l.places xs ≡ Some (place.Node k) → is_labelled l.places k ≡ true
  target-labelled n k (operand.Label y ∷ xs) e = labelled-at l.places y k e
  target-labelled n k _ e = cc

  arrives : (i k : ℕ) (n : Node) → slice_get l.nodes i ≡ Some n → IsSuccessor l shape i k → Arrives i k n
  arrives i k n e c = by (leaps n.op) refl
    where
      g : GoesBy l shape i n (way_of n.op) k
      g = subst (λ (x : Node). GoesBy l shape i x (way_of x.op) k) (same_Some c.node n (sym c.here ∙ e)) c.goes

      leap : leaps n.op ≡ true → (w : Way) → GoesBy l shape i n w k → sources_before l k ≡ no_sources
      leap h Next g = ap (sources_before l) g.0 ∙ fresh-after i n e h
      leap h Jump g = fresh-at k (target-labelled n k n.operands g)
      leap h Either (inl g) = fresh-at k (target-labelled n k n.operands g)
      leap h Either (inr g) = ap (sources_before l) g.0 ∙ fresh-after i n e h
      leap h Taken g = fresh-at k (labelled-bound l.places g.label k g.place)
      leap h Leave g = absurd g

      fall : (k ≡ i + 1) × (k < length l.nodes) → leaps n.op ≡ false → (b : Bool) → is_labelled l.places (i + 1) ≡ b → Arrives i k n
      fall g h true b = inl (ap (sources_before l) g.0 ∙ fresh-at (i + 1) b)
      fall g h false b = inr (g.0, ap (sources_before l) g.0 ∙ next-sources i n e h b)

      by : (b : Bool) → leaps n.op ≡ b → Arrives i k n
      by true h = inl (leap h (way_of n.op) g)
      by false h = fall (subst (λ (w : Way). GoesBy l shape i n w k) (falls-next n.op h) g) h (is_labelled l.places (i + 1)) refl

  -- some register that holds the same word is needed after the rewriting
  abbrev Stands : ℕ → Reg → Type 0
  Stands i r = (y : Reg) × Linked (sources_before l i) r y × IsNeeded m new_shape y (nu i)

  abbrev moved-on : (i k : ℕ) (y : Reg) → keep i ≡ true → IsNeeded m new_shape y (nu k) → IsSuccessor l shape i k → IsSuccessor m new_shape (nu i) (nu k)
  moved-on i k y s x c = successor-moved l shape new_shape (moves.stays l) (drops-rewrite l) is.accepted et i k s (needed-inside m new_shape y (nu k) x) c

  -- a node that stays and is no move, or makes a new source
  at-other : (i k : ℕ) (n : Node) → slice_get l.nodes i ≡ Some n → keep i ≡ true → IsSuccessor l shape i k → (r y : Reg) → IsNeeded m new_shape y (nu k) → is_written n y ≡ false → IsNeeded m new_shape y (nu i)
  at-other i k n e s c r y x w = needed.kept_to y (nu i) (nu k) n (stands l keep no_targets i n e s) w (moved-on i k y s x c) x

  at-read : (i k : ℕ) (n : Node) → slice_get l.nodes i ≡ Some n → keep i ≡ true → IsSuccessor l shape i k → (r q : Reg) → is_read n r ≡ true → is_written n q ≡ true → IsNeeded m new_shape q (nu k) → IsNeeded m new_shape r (nu i)
  at-read i k n e s c r q rd w x = needed.read_for r q (nu i) (nu k) n (stands l keep no_targets i n e s) rd w (moved-on i k q s x c) x

  -- a node is idle, another move, or no move
  data Kind (i : ℕ) (n : Node) : Type 0 where
    idle : keep i ≡ false → (k : Move) → move_of n.op n.operands ≡ Some k → is_idle (sources_before l i) (Some k) ≡ true → Kind i n
    fresh : keep i ≡ true → (k : Move) → move_of n.op n.operands ≡ Some k → is_idle (sources_before l i) (Some k) ≡ false → Kind i n
    other : keep i ≡ true → move_of n.op n.operands ≡ None → Kind i n

  kind-of : (i : ℕ) (n : Node) → slice_get l.nodes i ≡ Some n → Kind i n
  kind-of i n e = by (move_of n.op n.operands) refl (is_idle (sources_before l i) (move_of n.op n.operands)) refl
    where
      kept : keep i ≡ not (is_idle (sources_before l i) (move_of n.op n.operands))
      kept = ap (λ o. not (is_idle (sources_before l i) (moves.move_at o))) e

      by : (o : Option Move) → move_of n.op n.operands ≡ o → (b : Bool) → is_idle (sources_before l i) (move_of n.op n.operands) ≡ b → Kind i n
      by None g b h = other (kept ∙ ap (λ o. not (is_idle (sources_before l i) o)) g) g
      by (Some k) g true h = idle (kept ∙ ap not h) k g (sym (ap (is_idle (sources_before l i)) g) ∙ h)
      by (Some k) g false h = fresh (kept ∙ ap not h) k g (sym (ap (is_idle (sources_before l i)) g) ∙ h)

  after-idle : (i : ℕ) (n : Node) (k : Move) → move_of n.op n.operands ≡ Some k → is_idle (sources_before l i) (Some k) ≡ true → after_node (sources_before l i) n (move_of n.op n.operands) ≡ sources_before l i
  after-idle i n k g h = ap (after_node (sources_before l i) n) g ∙ ap (λ b. if b then sources_before l i else after_move (sources_before l i) n k) h

  after-fresh : (i : ℕ) (n : Node) (k : Move) → move_of n.op n.operands ≡ Some k → is_idle (sources_before l i) (Some k) ≡ false → after_node (sources_before l i) n (move_of n.op n.operands) ≡ after_move (sources_before l i) n k
  after-fresh i n k g h = ap (after_node (sources_before l i) n) g ∙ ap (λ b. if b then sources_before l i else after_move (sources_before l i) n k) h

  first-false : (b c : Bool) → (b || c) ≡ false → b ≡ false
  first-false true c e = cc
  first-false false c e = refl

  equal-of : (a b : Reg) → a ≡ b → is_equal a b ≡ true
  equal-of a b e = subst (λ x. is_equal a x ≡ true) e (itself a)
    where
      itself : (r : Reg) → is_equal r r ≡ true
      itself R0 = refl
      itself it = refl

  module _ (i k : ℕ) (n : Node) (e : slice_get l.nodes i ≡ Some n) (c : IsSuccessor l shape i k) where
    -- after a move that stays
    module _ (s : keep i ≡ true) (b : Move) (mv : move_of n.op n.operands ≡ Some b) (ne : is_idle (sources_before l i) (Some b) ≡ false) where
      into : is_written n b.into ≡ true
      into = move-writes n b mv b.into ∙ same-itself b.into (not-fp n b (at-form i n e) mv)

      only : (r : Reg) → is_written n r ≡ true → b.into ≡ r
      only r w = is-same b.into r (sym (move-writes n b mv r) ∙ w)

      from : is_written n b.from ≡ false
      from = by (is_written n b.from) refl
        where
          by : (x : Bool) → is_written n b.from ≡ x → is_written n b.from ≡ false
          by false h = h
          by true h = absurd (no (sym (equal-of b.into b.from (only b.from h)) ∙ first-false (is_equal b.into b.from) _ ne))

      reads-from : (r : Reg) → is_read n r ≡ true → b.from ≡ r
      reads-from r h = is-same b.from r (sym (move-reads n b mv r) ∙ h)

      split : (r y : Reg) → Linked (after_move (sources_before l i) n b) r y → (is_written n r ≡ false → r ≢ Fp → Outside (sources_before l i) n b into from only r y) × (b.into ≡ r → Inside (sources_before l i) n b into from only y)
      split = move-kept (sources_before l i) n b into from only

      fresh-read : (r q y : Reg) → is_read n r ≡ true → is_written n q ≡ true → Linked (after_move (sources_before l i) n b) q y → IsNeeded m new_shape y (nu k) → Stands i r
      fresh-read r q y rd w h x = by ((split q y h).1 (only q w))
        where
          by : (y ≡ b.into) ⊎ ((is_written n y ≡ false) × Linked (sources_before l i) b.from y) → Stands i r
          by (inl z) = (r, same r, at-read i k n e s c r b.into rd into (subst (λ t. IsNeeded m new_shape t (nu k)) z x))
          by (inr z) = (y, subst (λ t. Linked (sources_before l i) t y) (reads-from r rd) z.1, at-other i k n e s c r y x z.0)

      fresh-kept : (r y : Reg) → is_written n r ≡ false → r ≢ Fp → Linked (after_move (sources_before l i) n b) r y → IsNeeded m new_shape y (nu k) → Stands i r
      fresh-kept r y w nf h x = by ((split r y h).0 w nf)
        where
          by : ((y ≡ b.into) × (b.from ≢ Fp) × Linked (sources_before l i) r b.from) ⊎ ((is_written n y ≡ false) × Linked (sources_before l i) r y) → Stands i r
          by (inl z) = (b.from, z.2, at-read i k n e s c b.from b.into (move-reads n b mv b.from ∙ same-itself b.from z.1) into (subst (λ t. IsNeeded m new_shape t (nu k)) z.0 x))
          by (inr z) = (y, z.1, at-other i k n e s c r y x z.0)

    -- nothing is known of sources: the register itself is needed
    plain-kept : keep i ≡ true → (r : Reg) → is_written n r ≡ false → IsNeeded m new_shape r (nu k) → Stands i r
    plain-kept s r w x = (r, same r, at-other i k n e s c r r x w)

    plain-read : keep i ≡ true → (r q : Reg) → is_read n r ≡ true → is_written n q ≡ true → IsNeeded m new_shape q (nu k) → Stands i r
    plain-read s r q rd w x = (r, same r, at-read i k n e s c r q rd w x)

    alone-needed : (r : Reg) → sources_before l k ≡ no_sources → Stands k r → IsNeeded m new_shape r (nu k)
    alone-needed r z h = subst (λ t. IsNeeded m new_shape t (nu k)) (sym (alone r h.0 (subst (λ g. Linked g r h.0) z h.1))) h.2

    -- an idle move: the new run rests
    module _ (s : keep i ≡ false) (b : Move) (mv : move_of n.op n.operands ≡ Some b) (ne : is_idle (sources_before l i) (Some b) ≡ true) where
      next : k ≡ i + 1
      next = next-only l shape i k n e (moves-define n.op n.operands b mv) c

      number : nu k ≡ nu i
      number = ap nu (next ∙ add-one i) ∙ number-goes keep i s

      came : (r : Reg) → Stands k r → Arrives i k n → Stands i r
      came r h (inl z) = (r, same r, subst (IsNeeded m new_shape r) number (alone-needed r z h))
      came r h (inr z) = (h.0, subst (λ g. Linked g r h.0) (z.1 ∙ after-idle i n b mv ne) h.1, subst (IsNeeded m new_shape h.0) number h.2)

      -- what the move reads holds what it writes
      idle-read : (r : Reg) → b.from ≡ r → Stands i b.into → Stands i r
      idle-read r z h = by (is_equal b.into b.from) (is_source (sources_before l i b.into) b.from) (is_source (sources_before l i b.from) b.into) refl refl refl ne
        where
          by : (x y w : Bool) → is_equal b.into b.from ≡ x → is_source (sources_before l i b.into) b.from ≡ y → is_source (sources_before l i b.from) b.into ≡ w → (x || (y || w)) ≡ true → Stands i r
          by true y w ex ey ew g = subst (Stands i) (same-reg b.into b.from ex ∙ z) h
          by false true w ex ey ew g = subst (Stands i) z (h.0, down b.from b.into h.0 (source-is (sources_before l i b.into) b.from ey) (not-fp n b (at-form i n e) mv) h.1, h.2)
          by false false true ex ey ew g = subst (Stands i) z (h.0, up b.from b.into h.0 (source-is (sources_before l i b.from) b.into ew) (not-fp n b (at-form i n e) mv) h.1, h.2)
          by false false false ex ey ew g = cc

    -- ---- over one node
    kept-over : (r : Reg) → r ≢ Fp → is_written n r ≡ false → Stands k r → Stands i r
    kept-over r nf w h = by (kind-of i n e) (arrives i k n e c)
      where
        by : Kind i n → Arrives i k n → Stands i r
        by (idle s b mv ne) z = came s b mv ne r h z
        by (fresh s b mv ne) (inl z) = plain-kept s r w (alone-needed r z h)
        by (fresh s b mv ne) (inr z) = fresh-kept s b mv ne r h.0 w nf (subst (λ g. Linked g r h.0) (z.1 ∙ after-fresh i n b mv ne) h.1) h.2
        by (other s mv) (inl z) = plain-kept s r w (alone-needed r z h)
        by (other s mv) (inr z) =
            let o = other-kept (sources_before l i) n r h.0 (subst (λ g. Linked g r h.0) (z.1 ∙ ap (after_node (sources_before l i) n) mv) h.1) w in
            (h.0, o.1, at-other i k n e s c r h.0 h.2 o.0)

    read-over : (r q : Reg) → is_read n r ≡ true → is_written n q ≡ true → Stands k q → Stands i r
    read-over r q rd w h = by (kind-of i n e) (arrives i k n e c)
      where
        by : Kind i n → Arrives i k n → Stands i r
        by (idle s b mv ne) z =
            let q-is : b.into ≡ q = is-same b.into q (sym (move-writes n b mv q) ∙ w) in
            let r-is : b.from ≡ r = is-same b.from r (sym (move-reads n b mv r) ∙ rd) in
            idle-read s b mv ne r r-is (came s b mv ne b.into (subst (Stands k) (sym q-is) h) z)
        by (fresh s b mv ne) (inl z) = plain-read s r q rd w (alone-needed q z h)
        by (fresh s b mv ne) (inr z) = fresh-read s b mv ne r q h.0 rd w (subst (λ g. Linked g q h.0) (z.1 ∙ after-fresh i n b mv ne) h.1) h.2
        by (other s mv) (inl z) = plain-read s r q rd w (alone-needed q z h)
        by (other s mv) (inr z) =
            let o = other-written (sources_before l i) n q h.0 (subst (λ g. Linked g q h.0) (z.1 ∙ ap (after_node (sources_before l i) n) mv) h.1) w in
            plain-read s r q rd w (subst (λ t. IsNeeded m new_shape t (nu k)) (sym o) h.2)

  stands-needed : (r : Reg) (i : ℕ) → IsNeeded l shape r i → Stands i r
  stands-needed r i (needed.read_here r1 i1 n e rd d) = by (keep i) refl
    where
      by : (b : Bool) → keep i ≡ b → Stands i r
      by true s = (r, same r, needed.read_here r (nu i) n (stands l keep no_targets i n e s) rd d)
      by false s = let k = idle-there l i n e s in absurd (no (sym (moves-define n.op n.operands k.move k.is) ∙ d))
  stands-needed r i (needed.read_for r1 q i1 k n e rd w c x) = read-over i k n e c r q rd w (stands-needed q k x)
  stands-needed r i (needed.kept_to r1 i1 k n e w c x) = kept-over i k n e c r (needed-no-fp l shape r k x) w (stands-needed r k x)

  -- ---- no definition but a `movr` is dead
  use-over : (i k : ℕ) (n : Node) → slice_get l.nodes i ≡ Some n → keep i ≡ true → is_movr n.op ≡ false → IsSuccessor l shape i k → (q : Reg) → is_written n q ≡ true → Stands k q → IsNeeded m new_shape q (nu k)
  use-over i k n e s d c q w h = by (arrives i k n e c)
    where
      by : Arrives i k n → IsNeeded m new_shape q (nu k)
      by (inl z) = alone-needed i k n e c q z h
      by (inr z) = subst (λ t. IsNeeded m new_shape t (nu k)) (sym (other-written (sources_before l i) n q h.0 (subst (λ g. Linked g q h.0) (z.1 ∙ ap (after_node (sources_before l i) n) (other-no-move n.op n.operands d)) h.1) w)) h.2

  pub no-dead-but-moves : AllAreOfUse l shape → HasNoDeadButMoves (rewritten l (moves.stays l) no_targets) new_shape
  no-dead-but-moves all j n e d mv =
      let o = comes-from keep l j (let count = new-count l keep no_targets in let lt = slice_get_within m.nodes j n e in omega arith) in
      let one : n ≡ o.node = same_Some n o.node (sym e ∙ ap (slice_get m.nodes) (sym o.number) ∙ stands l keep no_targets o.index o.node o.here o.kept) in
      let u = all o.index o.node o.here (ap (λ (x : Node). defines x.op) (sym one) ∙ d) in
      let x = use-over o.index u.next o.node o.here o.kept (ap (λ (x : Node). is_movr x.op) (sym one) ∙ mv) u.successor u.register u.written (stands-needed u.register u.next u.needed) in
      let c = moved-on o.index u.next u.register o.kept x u.successor in
      record {
        register = u.register;
        written = ap (λ (x : Node). is_written x u.register) one ∙ u.written;
        live = record { next = nu u.next; successor = subst (λ t. IsSuccessor m new_shape t (nu u.next)) o.number c; live = needed-live m new_shape u.register (nu u.next) x };
      }
