-- What is known of registers: after a node, and that a number is known of one where the last node of the straight run that writes it moves the number into
-- it.
use Rattle.std.proofs.Common.{◌≡◌, ◌≢◌, ⊎_elim, ◌⊎◌, inl, inr, ℕ, zero, suc, ◌+◌, ◌-◌, ◌<◌, ◌≤◌, Bool, true, false, ◌||◌, List, [], ◌∷◌, Option, Some, None, length, refl, sym, ap, ◌∙◌, subst, arith}
use Rattle.std.specs.Prelude.{if◌then◌else◌, slice_get}
use Rattle.std.specs.List.{All}
use Rattle.std.proofs.lemmas.Bool.{cases_lt}
use Rattle.std.proofs.lemmas.Option.{same_Some}
use Rattle.lg_op.specs.Forms.{forms_of, admit}
use Rattle.lg_op.specs.Nodes.{InForm}
use Rattle.lg_op.specs.declared.node.Node.{Node}
use Rattle.lg_op.specs.declared.op.Op.{Op}
use Rattle.lg_op.specs.declared.op.Op.TheVariants as op
use Rattle.lg_op.specs.declared.op.PlainOp.TheVariants as plain
use Rattle.lg_op.specs.declared.operand.Operand.{Operand}
use Rattle.lg_op.specs.declared.operand.Operand.TheVariants as operand
use Rattle.lg_op.specs.declared.operand.Reg.{Reg}
use Rattle.lg_op.specs.declared.operand.Reg.TheVariants.{R0, R1, R2, V0, V1, V2, Fp}
use Rattle.lg_live.specs.Registers.{is_same}
use Rattle.lg_live.specs.Uses.{is_written}
use Rattle.lg_carry.specs.Carries.{leaps}
use Rattle.lg_opt.proofs.FunctionLemmas.{element}
use Rattle.lg_node.specs.Labels.{is_labelled}
use Rattle.lg_node.specs.Nodes.{LabelledNodes}
use Rattle.lg_node.proofs.FunctionLaws.{node_within}
use Rattle.lg_dead.specs.Known.{none_known, moved_number, or_else, known_after, known_at, known_before, IsKnown, KnownIsMovedLast}
use Rattle.lg_dead.proofs.FoldRunLemmas.{is-same}

nothing : (v : ℕ) → ◌≡◌ {A = Option ℕ} None (Some v) → ⊥
nothing v e = cc

no : true ≡ false → ⊥
no e = cc

pub or-false : (b : Bool) → (b || false) ≡ b
or-false true = refl
or-false false = refl

-- ---- what is known after a node
movi-writes : (n : Node) (q : Reg) (v : ℕ) (r : Reg) → n.op ≡ op.Plain plain.Movi → n.operands ≡ operand.Reg q ∷ operand.Number v ∷ [] → is_written n r ≡ is_same q r
movi-writes n q v r eo ex =
    subst (λ o. is_written (record n { op = o }) r ≡ is_same q r) (sym eo)
    (subst (λ xs. is_written (record n { op = op.Plain plain.Movi; operands = xs }) r ≡ is_same q r) (sym ex) (or-false (is_same q r)))

-- a number is moved into registers that are written
pub moved-written : (n : Node) (r : Reg) (w : ℕ) → moved_number n.op n.operands r ≡ Some w → is_written n r ≡ true
moved-written n r w e = by n.op n.operands refl refl e
  where
    if-some : (b : Bool) (v : ℕ) → (if b then Some v else None) ≡ Some w → b ≡ true
    if-some true v e = refl
    if-some false v e = absurd (nothing w e)

    by : (o : Op) (xs : List Operand) → n.op ≡ o → n.operands ≡ xs → moved_number o xs r ≡ Some w → is_written n r ≡ true
    by (op.Plain plain.Movi) (operand.Reg q ∷ operand.Number v ∷ []) eo ex e = movi-writes n q v r eo ex ∙ if-some (is_same q r) v e
    by o xs eo ex e = absurd (nothing w e)

pub unwritten-known : (known : Reg → Option ℕ) (n : Node) (r : Reg) → is_written n r ≡ false → known_after known n r ≡ known r
unwritten-known known n r w = by (moved_number n.op n.operands r) refl
  where
    by : (o : Option ℕ) → moved_number n.op n.operands r ≡ o → or_else o (if is_written n r then None else known r) ≡ known r
    by None e = ap (λ b. if b then None else known r) w
    by (Some v) e = absurd (no (sym (moved-written n r v e) ∙ w))

-- what is known after a node is so by the node, or was so before it
pub after-cases : (known : Reg → Option ℕ) (n : Node) (r : Reg) (v : ℕ) → known_after known n r ≡ Some v
    → (moved_number n.op n.operands r ≡ Some v) ⊎ ((is_written n r ≡ false) × (known r ≡ Some v))
after-cases known n r v e = by (moved_number n.op n.operands r) refl e
  where
    written : (b : Bool) → is_written n r ≡ b → (if b then None else known r) ≡ Some v → (is_written n r ≡ false) × (known r ≡ Some v)
    written true w e = absurd (nothing v e)
    written false w e = (w, e)

    by : (o : Option ℕ) → moved_number n.op n.operands r ≡ o → or_else o (if is_written n r then None else known r) ≡ Some v → (moved_number n.op n.operands r ≡ Some v) ⊎ ((is_written n r ≡ false) × (known r ≡ Some v))
    by (Some w) m e = inl (m ∙ e)
    by None m e = inr (written (is_written n r) refl e)

-- FP is never known
pub no-fp-known : (l : LabelledNodes) (i : ℕ) → known_before l i Fp ≡ None
unfolding known_before
no-fp-known l zero = refl
no-fp-known l (suc i) = by (is_labelled l.places (suc i)) (slice_get l.nodes i) (no-fp-known l i)
  where
    same-fp : (q : Reg) → is_same q Fp ≡ false
    same-fp R0 = refl
    same-fp other = refl

    no-move : (o : Op) (xs : List Operand) → moved_number o xs Fp ≡ None
    no-move (op.Plain plain.Movi) (operand.Reg q ∷ operand.Number v ∷ []) = ap (λ b. if b then Some v else None) (same-fp q)
    no-move o xs = refl

    behind : (n : Node) → known_before l i Fp ≡ None → known_after (known_before l i) n Fp ≡ None
    behind n h = ap (λ o. or_else o (if is_written n Fp then None else known_before l i Fp)) (no-move n.op n.operands) ∙ if-none (is_written n Fp)
      where
        if-none : (b : Bool) → (if b then None else known_before l i Fp) ≡ None
        if-none true = refl
        if-none false = h

    at : (o : Option Node) → known_before l i Fp ≡ None → known_at (known_before l i) o Fp ≡ None
    at None h = refl
    at (Some n) h = leap (leaps n.op)
      where
        leap : (b : Bool) → (if b then none_known else known_after (known_before l i) n) Fp ≡ None
        leap true = refl
        leap false = behind n h

    by : (b : Bool) (o : Option Node) → known_before l i Fp ≡ None → (if b then none_known else known_at (known_before l i) o) Fp ≡ None
    by true o h = refl
    by false o h = at o h

-- nothing is known at a label, and after a transfer of control
pub fresh-at : (l : LabelledNodes) (k : ℕ) → is_labelled l.places k ≡ true → known_before l k ≡ none_known
unfolding known_before
fresh-at l zero h = refl
fresh-at l (suc k) h = ap (λ b. if b then none_known else known_at (known_before l k) (slice_get l.nodes k)) h

-- one node further
pub known-step : (l : LabelledNodes) (i : ℕ) (n : Node) → slice_get l.nodes i ≡ Some n → is_labelled l.places (suc i) ≡ false → leaps n.op ≡ false → known_before l (suc i) ≡ known_after (known_before l i) n
unfolding known_before
known-step l i n e free h =
    ap (λ b. if b then none_known else known_at (known_before l i) (slice_get l.nodes i)) free
    ∙ ap (known_at (known_before l i)) e ∙ ap (λ b. if b then none_known else known_after (known_before l i) n) h

-- something is known only where no label is, after a node that goes on
pub record Came (l : LabelledNodes) (i : ℕ) (r : Reg) (v : ℕ) : Type 0 where
  pub node : Node
  pub here : slice_get l.nodes i ≡ Some node
  pub free : is_labelled l.places (suc i) ≡ false
  pub falls : leaps node.op ≡ false
  pub known : known_after (known_before l i) node r ≡ Some v

pub came : (l : LabelledNodes) (i : ℕ) (r : Reg) (v : ℕ) → known_before l (suc i) r ≡ Some v → Came l i r v
unfolding known_before
came l i r v e = by (is_labelled l.places (suc i)) (slice_get l.nodes i) refl refl e
  where
    leap : (n : Node) → slice_get l.nodes i ≡ Some n → is_labelled l.places (suc i) ≡ false → (b : Bool) → leaps n.op ≡ b → (if b then none_known else known_after (known_before l i) n) r ≡ Some v → Came l i r v
    leap n h f true g e = absurd (nothing v e)
    leap n h f false g e = record { node = n; here = h; free = f; falls = g; known = e }

    by : (b : Bool) (o : Option Node) → is_labelled l.places (suc i) ≡ b → slice_get l.nodes i ≡ o → (if b then none_known else known_at (known_before l i) o) r ≡ Some v → Came l i r v
    by true o f h e = absurd (nothing v e)
    by false None f h e = absurd (nothing v e)
    by false (Some n) f h e = leap n h f (leaps n.op) refl e

-- ---- in the words of a straight run
-- what a `movi` moves
moved-is : (o : Op) (xs : List Operand) (r : Reg) (w : ℕ) → moved_number o xs r ≡ Some w → (o ≡ op.Plain plain.Movi) × (xs ≡ operand.Reg r ∷ operand.Number w ∷ [])
moved-is (op.Plain plain.Movi) (operand.Reg q ∷ operand.Number v ∷ []) r w e = by (is_same q r) refl e
  where
    by : (b : Bool) → is_same q r ≡ b → (if b then Some v else None) ≡ Some w → (op.Plain plain.Movi ≡ op.Plain plain.Movi) × (operand.Reg q ∷ operand.Number v ∷ [] ≡ operand.Reg r ∷ operand.Number w ∷ [])
    by true s h = (refl, ap (λ x. operand.Reg x ∷ operand.Number v ∷ []) (is-same q r s) ∙ ap (λ y. operand.Reg r ∷ operand.Number y ∷ []) (same_Some v w h))
    by false s h = absurd (nothing w h)
moved-is o xs r w e = cc

same-true : (r : Reg) → r ≢ Fp → is_same r r ≡ true
same-true Fp ne = absurd (ne refl)
same-true other ne = refl

module _ (l : LabelledNodes) where
  -- ---- what is known was moved
  module _ (i : ℕ) (r : Reg) (v : ℕ) (free : is_labelled l.places (suc i) ≡ false) (n : Node) (here : slice_get l.nodes i ≡ Some n) (falls : leaps n.op ≡ false) where
    same-node : (j : ℕ) (x : Node) → j ≡ i → slice_get l.nodes j ≡ Some x → n ≡ x
    same-node j x same e = same_Some n x (sym here ∙ ap (slice_get l.nodes) (sym same) ∙ e)

    just-moved : moved_number n.op n.operands r ≡ Some v → IsKnown l (suc i) r v
    just-moved m = let is = moved-is n.op n.operands r v m in record {
      at = i;
      node = n;
      before = omega arith;
      here = here;
      moves = is.0;
      operands = is.1;
      straight = record {
        order = omega arith;
        falls = λ j x from to e. ap (λ (y : Node). leaps y.op) (sym (same-node j x (omega (arith, from, to)) e)) ∙ falls;
        unlabelled = λ j from to. let last : j ≡ suc i = omega (arith, from, to) in ap (is_labelled l.places) last ∙ free;
      };
      kept = λ j x from to e. absurd (omega (arith, from, to));
    }

    moved-before : is_written n r ≡ false → IsKnown l i r v → IsKnown l (suc i) r v
    moved-before kept k = record {
      at = k.at;
      node = k.node;
      before = let b = k.before in omega (arith, b);
      here = k.here;
      moves = k.moves;
      operands = k.operands;
      straight = record {
        order = let b = k.before in omega (arith, b);
        falls = λ j x from to e.
            ⊎_elim
            (λ (lt : j < i). k.straight.falls j x from lt e)
            (λ (ge : i ≤ j). ap (λ (y : Node). leaps y.op) (sym (same-node j x (omega (arith, ge, to)) e)) ∙ falls)
            (cases_lt j i);
        unlabelled = λ j from to.
            ⊎_elim
            (λ (lt : j < suc i). k.straight.unlabelled j from (omega (arith, lt)))
            (λ (ge : suc i ≤ j). let last : j ≡ suc i = omega (arith, ge, to) in ap (is_labelled l.places) last ∙ free)
            (cases_lt j (suc i));
      };
      kept = λ j x from to e.
          ⊎_elim
          (λ (lt : j < i). k.kept j x from lt e)
          (λ (ge : i ≤ j). ap (λ (y : Node). is_written y r) (sym (same-node j x (omega (arith, ge, to)) e)) ∙ kept)
          (cases_lt j i);
    }

  was-moved : (k : ℕ) (r : Reg) (v : ℕ) → known_before l k r ≡ Some v → IsKnown l k r v
  unfolding known_before
  was-moved zero r v e = absurd (nothing v e)
  was-moved (suc i) r v e = by (was-moved i r v) (came l i r v e)
    where
      by : (known_before l i r ≡ Some v → IsKnown l i r v) → Came l i r v → IsKnown l (suc i) r v
      by again c =
          ⊎_elim
          (λ (m : moved_number c.node.op c.node.operands r ≡ Some v). just-moved i r v c.free c.node c.here c.falls m)
          (λ (x : (is_written c.node r ≡ false) × (known_before l i r ≡ Some v)). moved-before i r v c.free c.node c.here c.falls x.0 (again x.1))
          (after-cases (known_before l i) c.node r v c.known)

  -- ---- what was moved is known
  module _ (formed : All InForm l.nodes) (k : ℕ) (r : Reg) (v : ℕ) (le : k ≤ length l.nodes) (is : IsKnown l k r v) where
    no-fp : r ≢ Fp
    no-fp z =
        let a : admit (forms_of (op.Plain plain.Movi)) (operand.Reg Fp ∷ operand.Number v ∷ []) ≡ true =
        ap (λ q. admit (forms_of (op.Plain plain.Movi)) (operand.Reg q ∷ operand.Number v ∷ [])) (sym z) ∙ ap (admit (forms_of (op.Plain plain.Movi))) (sym is.operands) ∙ ap (λ o. admit (forms_of o) is.node.operands) (sym is.moves)
        ∙ (element InForm l.nodes is.at is.node is.here formed).forms in
        cc

    first : known_before l (suc is.at) r ≡ Some v
    first =
        let falls = is.straight.falls is.at is.node (omega arith) is.before is.here in
        let free = is.straight.unlabelled (suc is.at) (omega arith) (omega (arith, is.before)) in
        ap (λ f. f r) (known-step l is.at is.node is.here free falls)
        ∙ ap (λ o. or_else (moved_number o is.node.operands r) (if is_written is.node r then None else known_before l is.at r)) is.moves
        ∙ ap (λ xs. or_else (moved_number (op.Plain plain.Movi) xs r) (if is_written is.node r then None else known_before l is.at r)) is.operands
        ∙ ap (λ b. or_else (if b then Some v else None) (if is_written is.node r then None else known_before l is.at r)) (same-true r no-fp)

    on : (d : ℕ) → suc is.at + d ≤ k → known_before l (suc is.at + d) r ≡ Some v
    on zero h = let z : suc is.at ≡ suc is.at + 0 = omega arith in ap (λ j. known_before l j r) (sym z) ∙ first
    on (suc d) h = next (on d (omega (arith, h)))
      where
        next : known_before l (suc is.at + d) r ≡ Some v → known_before l (suc is.at + suc d) r ≡ Some v
        next e =
            let n = node_within l.nodes (suc is.at + d) (omega (arith, h, le)) in
            let falls = is.straight.falls (suc is.at + d) n.0 (omega arith) (omega (arith, h)) n.1 in
            let free = is.straight.unlabelled (suc (suc is.at + d)) (omega arith) (omega (arith, h)) in
            let kept = is.kept (suc is.at + d) n.0 (omega arith) (omega (arith, h)) n.1 in
            let z : suc (suc is.at + d) ≡ suc is.at + suc d = omega arith in
            ap (λ j. known_before l j r) (sym z) ∙ ap (λ f. f r) (known-step l (suc is.at + d) n.0 n.1 free falls)
            ∙ unwritten-known (known_before l (suc is.at + d)) n.0 r kept ∙ e

    is-known : known_before l k r ≡ Some v
    is-known = let b = is.before in let z : suc is.at + (k - suc is.at) ≡ k = omega (arith, b) in ap (λ j. known_before l j r) (sym z) ∙ on (k - suc is.at) (omega (arith, b, z))

pub known-is-moved-last : KnownIsMovedLast
known-is-moved-last l k r v formed le = (was-moved l k r v, is-known l formed k r v le)
