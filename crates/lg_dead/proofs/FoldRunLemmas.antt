-- The run of folded nodes.
use Rattle.std.proofs.Common.{◌≡◌, ◌≢◌, ◌⊎◌, inl, inr, ⊎_elim, ℕ, zero, suc, ◌+◌, Bool, true, false, ◌||◌, List, [], ◌∷◌, Option, Some, None, length, refl, sym, ap, ◌∙◌, subst, add-one, arith}
use Rattle.std.specs.Prelude.{◌-◌, if◌then◌else◌, slice_get}
use Rattle.std.specs.List.{All}
use Rattle.std.proofs.lemmas.Bool.Decides.{eqb_tells}
use Rattle.std.proofs.lemmas.Option.{slice_get_within, same_Some}
use Rattle.lg_op.specs.Forms.{forms_of, last_form, admit, admits}
use Rattle.lg_op.specs.Nodes.{InForm}
use Rattle.lg_op.specs.Operands.{number_of}
use Rattle.lg_op.specs.declared.node.Node.{Node}
use Rattle.lg_op.specs.declared.op.Op.{Op}
use Rattle.lg_op.specs.declared.op.Op.TheVariants as op
use Rattle.lg_op.specs.declared.op.ControlOp.TheVariants as control
use Rattle.lg_op.specs.declared.op.LastOperand.TheVariants as last_operand
use Rattle.lg_op.specs.declared.op.PlainOp.TheVariants as plain
use Rattle.lg_op.specs.declared.form.Form.{Form}
use Rattle.lg_op.specs.declared.form.Form.TheVariants as form
use Rattle.lg_op.specs.declared.operand.Label.{Label}
use Rattle.lg_op.specs.declared.operand.Operand.{Operand}
use Rattle.lg_op.specs.declared.operand.Operand.TheVariants as operand
use Rattle.lg_op.specs.declared.operand.Reg.{Reg}
use Rattle.lg_op.specs.declared.operand.Reg.TheVariants.{R0, R1, R2, V0, V1, V2, Fp}
use Rattle.lg_live.specs.Registers.{is_same}
use Rattle.lg_live.specs.Uses.{is_register, is_call, is_written}
use Rattle.lg_op.specs.declared.carry.Carry.{Carry}
use Rattle.lg_op.specs.declared.carry.Carry.TheVariants as carry
use Rattle.lg_op.specs.Operators.{binary_value, unary_value, keeps_carry, holds}
use Rattle.lg_node.specs.Labels.{place_of, is_entry, is_labelled}
use Rattle.lg_node.specs.Nodes.{LabelledNodes}
use Rattle.lg_node.specs.declared.place.Place.{Place}
use Rattle.lg_node.specs.declared.place.Place.TheVariants as place
use Rattle.lg_node.specs.Shapes.{TextShape, IsShapeOf}
use Rattle.lg_node.proofs.FunctionLaws.{node_within}
use Rattle.lg_node.proofs.SuccessorLaws.{has_functions}
use Rattle.lg_node.proofs.WellShaped.{well_shaped}
use Rattle.lg_meaning.specs.Fits.{FitsWell, AreLinked}
use Rattle.lg_meaning.specs.Means.{mean_from}
use Rattle.lg_meaning.specs.Starts.{Entry, MayEnter, begins_at, MayBegin, entered_state}
use Rattle.lg_meaning.specs.States.{Frame, State, reg, value}
use Rattle.lg_meaning.specs.Steps.{Goes, Text, need, quiet, operand_at, on, on_with_carry, with_reg, with_word, operate, branch, binary_step, carry_step, node_in, node_step}
use Rattle.lg_meaning.specs.Texts.{text, step_at, step}
use Rattle.lg_meaning.proofs.KeepLemmas.{steps_fit}
use Rattle.lg_meaning.proofs.MeanLemmas.{always, formed_at}
use Rattle.lg_meaning.proofs.StartLemmas.{start_fits}
use Rattle.lg_meaning.proofs.Outcomes.{on_result}
use Rattle.lg_carry.specs.Carries.{leaps, leaps_at}
use Rattle.lg_carry.proofs.FallLemmas.{nodes-fall}
use Rattle.lg_opt.specs.Rewritten.{memory_in}
use Rattle.lg_opt.specs.Paired.{Pair, AreStepped}
use Rattle.lg_opt.specs.Renumbered.{over, Alike, Meets, Renumbers, IsRewritten}
use Rattle.lg_opt.specs.Remaining.{origins}
use Rattle.lg_opt.specs.Rewritings.{FromEachStart, RunIsDropped}
use Rattle.lg_opt.proofs.LabelLemmas.{labelled-at}
use Rattle.lg_opt.proofs.ArrivalLemmas.{Arrives, leap-arrives}
use Rattle.lg_opt.proofs.DropLemmas.{start-over}
use Rattle.lg_opt.proofs.DropRunLemmas.{drops, drops-look}
use Rattle.lg_opt.proofs.KeepLemmas.{keeps, other-word}
use Rattle.lg_opt.proofs.MoveLemmas.{held}
use Rattle.lg_opt.proofs.OriginLemmas.{all-numbered}
use Rattle.lg_opt.proofs.StepLemmas.{steps-meet}
use Rattle.lg_dead.specs.Known.{number_in, made, last_known, as_movi, as_immediate, folded_by, folded, none_known, moved_number, or_else, known_after, known_at, known_before, can_be_folded, HasNoFolds}
use Rattle.lg_dead.specs.Folds.{IsFoldedTo}
use Rattle.lg_dead.proofs.FoldAcceptLemmas.{beginning-same, begins-same}
use Rattle.lg_dead.proofs.FoldNodeLemmas.{BinaryMade, UnaryMade, BinaryLast, BranchLast, made-cases, last-cases, no-more}
use Rattle.lg_dead.proofs.NearLemmas.{and-left}

-- registers hold the numbers that are known of them
abbrev pub AreKnown : State → (Reg → Option ℕ) → Type 0
AreKnown s known = (r : Reg) (v : ℕ) → known r ≡ Some v → reg s r ≡ Some v

pub is-same : (a b : Reg) → is_same a b ≡ true → a ≡ b
is-same R0 R0 e = refl
is-same R1 R1 e = refl
is-same R2 R2 e = refl
is-same V0 V0 e = refl
is-same V1 V1 e = refl
is-same V2 V2 e = refl
is-same Fp Fp e = refl
is-same a b e = cc

call-leaps : (o : Op) → is_call o ≡ true → leaps o ≡ true
call-leaps (op.Control control.Call last) e = refl
call-leaps (op.Control control.Finish last) e = refl
call-leaps o e = cc

reg-by : (s u : State) (r : Reg) → (r ≢ Fp → u.regs (number_of r) ≡ s.regs (number_of r)) → u.frame.sp ≡ s.frame.sp → reg u r ≡ reg s r
reg-by s u Fp h e = ap (λ p. Some (p - 16)) e
reg-by s u _ h e = h (λ z. cc)

same-word : (regs : ℕ → Option ℕ) (i v : ℕ) → with_word regs i v i ≡ Some v
same-word regs i v = ⊎_elim (λ z. ap (λ b. if b then Some v else regs i) z.0) (λ z. absurd (z.1 refl)) (eqb_tells i i)

abbrev stay-put : ℕ → ℕ
stay-put i = i

abbrev Lands : ℕ → ℕ → Type 0
Lands k n = n ≡ k

-- ---- what a folded node does
known-value : (A : List ℕ) (s : State) (known : Reg → Option ℕ) → AreKnown s known → (x : Operand) (v : ℕ) → number_in known x ≡ Some v → value A s x ≡ Some v
known-value A s known are (operand.Reg r) v e = are r v e
known-value A s known are (operand.Number k) v e = e
known-value A s known are _ v e = cc

module _ (t : Text) (s : State) (known : Reg → Option ℕ) (are : AreKnown s known) where
  -- the step of a node that makes a word
  binary-makes : (n : Node) (v : ℕ) → BinaryMade known n.op n.operands v → node_step t n n.op s ≡ quiet (on (with_reg s (operand_at n 0) v))
  binary-makes n v b =
      subst (λ o. node_step t (record n { op = o }) o s ≡ quiet (on (with_reg s (operand_at n 0) v))) (sym b.op_is)
      (subst (λ xs. node_step t (record n { op = op.Binary b.name b.last; operands = xs }) (op.Binary b.name b.last) s ≡ quiet (on (with_reg s (operand_at (record n { operands = xs }) 0) v))) (sym b.operands_are)
      (ap (λ c. if c then carry_step t.addresses there b.name s else binary_step t.addresses there (binary_value b.name) s) b.plain_is
      ∙ ap (λ o. need o (λ x. need (value t.addresses s b.second) (λ y. operate s b.into (binary_value b.name x y)))) (known-value t.addresses s known are b.first b.x b.first_is)
      ∙ ap (λ o. need o (λ y. operate s b.into (binary_value b.name b.x y))) (known-value t.addresses s known are b.second b.y b.second_is)
      ∙ ap (operate s b.into) b.word))
    where
      there : Node
      there = record n { op = op.Binary b.name b.last; operands = b.into ∷ b.first ∷ b.second ∷ [] }

  unary-makes : (n : Node) (v : ℕ) → UnaryMade known n.op n.operands v
      → (c : Carry) × (node_step t n n.op s ≡ quiet (record (with_reg s (operand_at n 0) v) { at = s.at + 1; carry = c; answer = None })) × ((c ≡ carry.Undefined) ⊎ (c ≡ s.carry))
  unary-makes n v b = by (keeps_carry b.name) refl
    where
      there : Node
      there = record n { op = op.Unary b.name; operands = b.into ∷ b.first ∷ [] }

      opened : node_step t n n.op s ≡ quiet (if keeps_carry b.name then on_with_carry (with_reg s b.into v) else on (with_reg s b.into v))
      opened =
          subst (λ o. node_step t (record n { op = o }) o s ≡ quiet (if keeps_carry b.name then on_with_carry (with_reg s b.into v) else on (with_reg s b.into v))) (sym b.op_is)
          (subst (λ xs. node_step t (record n { op = op.Unary b.name; operands = xs }) (op.Unary b.name) s ≡ quiet (if keeps_carry b.name then on_with_carry (with_reg s b.into v) else on (with_reg s b.into v))) (sym b.operands_are)
          (ap (λ o. need o (λ a. quiet (if keeps_carry b.name then on_with_carry (with_reg s b.into (unary_value b.name a)) else on (with_reg s b.into (unary_value b.name a))))) (known-value t.addresses s known are b.first b.x b.first_is)
          ∙ ap (λ w. quiet (if keeps_carry b.name then on_with_carry (with_reg s b.into w) else on (with_reg s b.into w))) b.word))

      first : operand_at n 0 ≡ b.into
      first = ap (λ xs. operand_at (record n { operands = xs }) 0) b.operands_are

      by : (k : Bool) → keeps_carry b.name ≡ k → (c : Carry) × (node_step t n n.op s ≡ quiet (record (with_reg s (operand_at n 0) v) { at = s.at + 1; carry = c; answer = None })) × ((c ≡ carry.Undefined) ⊎ (c ≡ s.carry))
      by true e = (s.carry, opened ∙ ap (λ k. quiet (if k then on_with_carry (with_reg s b.into v) else on (with_reg s b.into v))) e ∙ ap (λ d. quiet (on_with_carry (with_reg s d v))) (sym first), inr refl)
      by false e = (carry.Undefined, opened ∙ ap (λ k. quiet (if k then on_with_carry (with_reg s b.into v) else on (with_reg s b.into v))) e ∙ ap (λ d. quiet (on (with_reg s d v))) (sym first), inl refl)

  pub record Makes (n : Node) (v : ℕ) : Type 0 where
    pub bit : Carry
    pub is : node_step t n n.op s ≡ quiet (record (with_reg s (operand_at n 0) v) { at = s.at + 1; carry = bit; answer = None })
    pub carries : (bit ≡ carry.Undefined) ⊎ (bit ≡ s.carry)

  pub makes : (n : Node) (v : ℕ) → made known n.op n.operands ≡ Some v → Makes n v
  makes n v e = ⊎_elim
      (λ b. record { bit = carry.Undefined; is = binary-makes n v b; carries = inl refl })
      (λ b. let u = unary-makes n v b in record { bit = u.0; is = u.1; carries = u.2 })
      (made-cases known n.op n.operands v e)

  -- the step of a node whose last operand is known
  pub immediate-same : (n : Node) (v : ℕ) → last_known known n.op n.operands ≡ Some v → node_step t (as_immediate n v) (as_immediate n v).op s ≡ node_step t n n.op s
  immediate-same n v e = ⊎_elim binary branches (last-cases known n.op n.operands v e)
    where
      binary : BinaryLast known n.op n.operands v → node_step t (as_immediate n v) (as_immediate n v).op s ≡ node_step t n n.op s
      binary b =
          subst (λ o. node_step t (as_immediate (record n { op = o }) v) (as_immediate (record n { op = o }) v).op s ≡ node_step t (record n { op = o }) o s) (sym b.op_is)
          (subst (λ xs. node_step t (as_immediate (record n { op = op.Binary b.name last_operand.Register; operands = xs }) v) (op.Binary b.name last_operand.Immediate) s ≡ node_step t (record n { op = op.Binary b.name last_operand.Register; operands = xs }) (op.Binary b.name last_operand.Register) s) (sym b.operands_are)
          (ap (λ c. if c then carry_step t.addresses new b.name s else binary_step t.addresses new (binary_value b.name) s) b.plain_is
          ∙ ap (λ o. need (value t.addresses s b.first) (λ x. need o (λ y. operate s b.into (binary_value b.name x y)))) (sym (are b.second v b.second_is))
          ∙ sym (ap (λ c. if c then carry_step t.addresses old b.name s else binary_step t.addresses old (binary_value b.name) s) b.plain_is)))
        where
          old : Node
          old = record n { op = op.Binary b.name last_operand.Register; operands = b.into ∷ b.first ∷ operand.Reg b.second ∷ [] }

          new : Node
          new = record n { op = op.Binary b.name last_operand.Immediate; operands = b.into ∷ b.first ∷ operand.Number v ∷ [] }

      branches : BranchLast known n.op n.operands v → node_step t (as_immediate n v) (as_immediate n v).op s ≡ node_step t n n.op s
      branches b =
          subst (λ o. node_step t (as_immediate (record n { op = o }) v) (as_immediate (record n { op = o }) v).op s ≡ node_step t (record n { op = o }) o s) (sym b.op_is)
          (subst (λ xs. node_step t (as_immediate (record n { op = op.Branch b.name last_operand.Register; operands = xs }) v) (op.Branch b.name last_operand.Immediate) s ≡ node_step t (record n { op = op.Branch b.name last_operand.Register; operands = xs }) (op.Branch b.name last_operand.Register) s) (sym b.operands_are)
          (ap (λ o. need (value t.addresses s b.first) (λ x. need o (λ y. branch (holds b.name x y) t.places s b.to))) (sym (are b.second v b.second_is))))

-- ---- what is known after a node
writes-register : (x : Operand) → admits form.Write x ≡ true → (q : Reg) × (x ≡ operand.Reg q) × (q ≢ Fp)
writes-register (operand.Reg R0) e = (R0, refl, λ z. cc)
writes-register (operand.Reg R1) e = (R1, refl, λ z. cc)
writes-register (operand.Reg R2) e = (R2, refl, λ z. cc)
writes-register (operand.Reg V0) e = (V0, refl, λ z. cc)
writes-register (operand.Reg V1) e = (V1, refl, λ z. cc)
writes-register (operand.Reg V2) e = (V2, refl, λ z. cc)
writes-register x e = cc

first-admitted : (fs : List Form) (x : Operand) (xs : List Operand) → admit (form.Write ∷ fs) (x ∷ xs) ≡ true → admits form.Write x ≡ true
first-admitted fs x xs e = and-left (admits form.Write x) (admit fs xs) e

nothing : (v : ℕ) → ◌≡◌ {A = Option ℕ} None (Some v) → ⊥
nothing v e = cc

-- a register got a number
wrote : (s : State) (known : Reg → Option ℕ) → AreKnown s known → (q : Reg) (w : ℕ) (bit : Carry) → q ≢ Fp → (r : Reg) (v : ℕ)
    → or_else (if is_same q r then Some w else None) (if is_register r (operand.Reg q) then None else known r) ≡ Some v
    → reg (record (with_reg s (operand.Reg q) w) { at = s.at + 1; carry = bit; answer = None }) r ≡ Some v
wrote s known are q w bit ne r v e = by (is_same q r) refl e
  where
    u : State
    u = record (with_reg s (operand.Reg q) w) { at = s.at + 1; carry = bit; answer = None }

    other : (b : Bool) → is_register r (operand.Reg q) ≡ b → (if b then None else known r) ≡ Some v → reg (record (with_reg s (operand.Reg q) w) { at = s.at + 1; carry = bit; answer = None }) r ≡ Some v
    other true f e = absurd (nothing v e)
    other false f e = reg-by s (record (with_reg s (operand.Reg q) w) { at = s.at + 1; carry = bit; answer = None }) r (λ z. other-word s.regs (operand.Reg q) w r z f) refl ∙ are r v e

    by : (b : Bool) → is_same q r ≡ b → or_else (if b then Some w else None) (if is_register r (operand.Reg q) then None else known r) ≡ Some v → reg (record (with_reg s (operand.Reg q) w) { at = s.at + 1; carry = bit; answer = None }) r ≡ Some v
    by true f e =
        subst (λ x. reg (record (with_reg s (operand.Reg q) w) { at = s.at + 1; carry = bit; answer = None }) x ≡ Some v) (is-same q r f)
        (sym (held (record (with_reg s (operand.Reg q) w) { at = s.at + 1; carry = bit; answer = None }) q ne) ∙ same-word s.regs (number_of q) w ∙ e)
    by false f e = other (is_register r (operand.Reg q)) refl e

goes-to : (u v : State) (a b : List ℕ) → Goes u a ≡ Goes v b → u ≡ v
goes-to u v a b e = cc

module _ (t : Text) (n : Node) (s u : State) (bytes : List ℕ) (known : Reg → Option ℕ) (are : AreKnown s known) (formed : InForm n) (falls : leaps n.op ≡ false) (g : node_step t n n.op s ≡ Goes u bytes) where
  -- what is not written is known still
  kept-known : (r : Reg) (v : ℕ) → (if is_written n r then None else known r) ≡ Some v → reg u r ≡ Some v
  kept-known r v e = by (is_written n r) refl e
    where
      by : (b : Bool) → is_written n r ≡ b → (if b then None else known r) ≡ Some v → reg u r ≡ Some v
      by true w e = absurd (nothing v e)
      by false w e = keeps t n s u bytes r falls w g ∙ are r v e

  -- a node that makes a number
  made-known : (w : ℕ) → made known n.op n.operands ≡ Some w → AreKnown u (known_after known (as_movi n w))
  made-known w e r v h =
      let x = makes t s known are n w e in
      let d = writes-register (operand_at n 0) first in
      let to : u ≡ record (with_reg s (operand_at n 0) w) { at = s.at + 1; carry = x.bit; answer = None } = goes-to u _ bytes [] (sym g ∙ x.is) in
      subst (λ y. reg y r ≡ Some v) (sym (to ∙ ap (λ y. record (with_reg s y w) { at = s.at + 1; carry = x.bit; answer = None }) d.1))
      (wrote s known are d.0 w x.bit d.2 r v (sym (behind (operand_at n 0) d.0 d.1) ∙ h))
    where
      first : admits form.Write (operand_at n 0) ≡ true
      first = ⊎_elim
          (λ (b : BinaryMade known n.op n.operands w).
          ap (λ xs. admits form.Write (operand_at (record n { operands = xs }) 0)) b.operands_are
          ∙ first-admitted (form.Read ∷ last_form b.last ∷ []) b.into (b.first ∷ b.second ∷ []) (sym (ap (λ o. admit (forms_of o) n.operands) b.op_is ∙ ap (admit (form.Write ∷ form.Read ∷ last_form b.last ∷ [])) b.operands_are) ∙ formed.forms))
          (λ (b : UnaryMade known n.op n.operands w).
          ap (λ xs. admits form.Write (operand_at (record n { operands = xs }) 0)) b.operands_are
          ∙ first-admitted (form.Read ∷ []) b.into (b.first ∷ []) (sym (ap (λ o. admit (forms_of o) n.operands) b.op_is ∙ ap (admit (form.Write ∷ form.Read ∷ [])) b.operands_are) ∙ formed.forms))
          (made-cases known n.op n.operands w e)

      behind : (d : Operand) (q : Reg) → d ≡ operand.Reg q → known_after known (record n { op = op.Plain plain.Movi; operands = d ∷ operand.Number w ∷ [] }) r ≡ or_else (if is_same q r then Some w else None) (if is_register r (operand.Reg q) then None else known r)
      behind d q f = ap (λ x. known_after known (record n { op = op.Plain plain.Movi; operands = x ∷ operand.Number w ∷ [] }) r) f ∙ unfolded (is_register r (operand.Reg q))
        where
          unfolded : (b : Bool) → or_else (if is_same q r then Some w else None) (if (b || false) then None else known r) ≡ or_else (if is_same q r then Some w else None) (if b then None else known r)
          unfolded true = refl
          unfolded false = refl

  -- a node that gets its last operand as a number
  last-known : (w : ℕ) → last_known known n.op n.operands ≡ Some w → AreKnown u (known_after known (as_immediate n w))
  last-known w e r v h = kept-known r v (sym same ∙ h)
    where
      binary : BinaryLast known n.op n.operands w → known_after known (as_immediate n w) r ≡ (if is_written n r then None else known r)
      binary b =
          subst (λ o. known_after known (as_immediate (record n { op = o }) w) r ≡ (if is_written (record n { op = o }) r then None else known r)) (sym b.op_is)
          (subst (λ xs. known_after known (as_immediate (record n { op = op.Binary b.name last_operand.Register; operands = xs }) w) r ≡ (if is_written (record n { op = op.Binary b.name last_operand.Register; operands = xs }) r then None else known r)) (sym b.operands_are) refl)

      branch-leaps : BranchLast known n.op n.operands w → ⊥
      branch-leaps b = let no : true ≡ false = sym (ap leaps b.op_is) ∙ falls in cc

      same : known_after known (as_immediate n w) r ≡ (if is_written n r then None else known r)
      same = ⊎_elim binary (λ b. absurd (branch-leaps b)) (last-cases known n.op n.operands w e)

  -- a node that stays as it is
  plain-known : AreKnown u (known_after known n)
  plain-known r v h = by n.op n.operands refl refl (sym (ap (λ o. or_else o (if is_written n r then None else known r)) refl) ∙ h)
    where
      movi : (q : Reg) (w : ℕ) → n.op ≡ op.Plain plain.Movi → n.operands ≡ operand.Reg q ∷ operand.Number w ∷ [] → reg u r ≡ Some v
      movi q w eo ex =
          let d = writes-register (operand.Reg q) (first-admitted (form.Immediate ∷ []) (operand.Reg q) (operand.Number w ∷ []) (sym (ap (λ o. admit (forms_of o) n.operands) eo ∙ ap (admit (form.Write ∷ form.Immediate ∷ [])) ex) ∙ formed.forms)) in
          let step-is : node_step t n n.op s ≡ quiet (on_with_carry (with_reg s (operand.Reg q) w)) = ap (λ o. node_step t n o s) eo ∙ ap (λ xs. node_step t (record n { operands = xs }) (op.Plain plain.Movi) s) ex in
          let to : u ≡ on_with_carry (with_reg s (operand.Reg q) w) = goes-to u _ bytes [] (sym g ∙ step-is) in
          let ne : q ≢ Fp = λ z. d.2 (reg-of d.0 q (sym d.1) ∙ z) in
          subst (λ y. reg y r ≡ Some v) (sym to) (wrote s known are q w s.carry ne r v (sym (opened q w eo ex) ∙ h))
        where
          reg-of : (a b : Reg) → operand.Reg a ≡ operand.Reg b → a ≡ b
          reg-of a b e = cc

          opened : (q : Reg) (w : ℕ) → n.op ≡ op.Plain plain.Movi → n.operands ≡ operand.Reg q ∷ operand.Number w ∷ [] → known_after known n r ≡ or_else (if is_same q r then Some w else None) (if is_register r (operand.Reg q) then None else known r)
          opened q w eo ex = ap (λ o. known_after known (record n { op = o }) r) eo ∙ ap (λ xs. known_after known (record n { op = op.Plain plain.Movi; operands = xs }) r) ex ∙ unfolded (is_register r (operand.Reg q))
            where
              unfolded : (b : Bool) → or_else (if is_same q r then Some w else None) (if (b || false) then None else known r) ≡ or_else (if is_same q r then Some w else None) (if b then None else known r)
              unfolded true = refl
              unfolded false = refl

      by : (o : Op) (xs : List Operand) → n.op ≡ o → n.operands ≡ xs → or_else (moved_number n.op n.operands r) (if is_written n r then None else known r) ≡ Some v → reg u r ≡ Some v
      by (op.Plain plain.Movi) (operand.Reg q ∷ operand.Number w ∷ []) eo ex h = movi q w eo ex
      by o xs eo ex h = kept-known r v (sym (ap (λ z. or_else z (if is_written n r then None else known r)) (ap (λ p. moved_number p n.operands r) eo ∙ ap (λ ys. moved_number o ys r) ex)) ∙ h)

  pub known-on : AreKnown u (known_after known (folded known n))
  known-on = by (made known n.op n.operands) (last_known known n.op n.operands) refl refl
    where
      by : (p q : Option ℕ) → made known n.op n.operands ≡ p → last_known known n.op n.operands ≡ q → AreKnown u (known_after known (folded_by n p q))
      by (Some w) q ep eq = made-known w ep
      by None (Some w) ep eq = last-known w eq
      by None None ep eq = plain-known

-- ---- one step
module _ (t : Text) (n : Node) (s k : State) (known : Reg → Option ℕ) (are : AreKnown s known) (a : Alike stay-put Lands s k) where
  abbrev there : State
  there = over stay-put s s.at a.bit a.result

  closed : k ≡ over stay-put s s.at a.bit a.result
  closed = a.is ∙ ap (λ i. over stay-put s i a.bit a.result) a.lands

  reg-over : (r : Reg) → reg there r ≡ reg s r
  reg-over R0 = refl
  reg-over _ = refl

  known-there : AreKnown there known
  known-there r v e = reg-over r ∙ are r v e

  renumbered : Renumbers t t stay-put Lands s.at
  renumbered = record { addresses = refl; next = refl; lands = λ i. refl; functions = λ i f e. e; jumps = λ w i e. e; entries = λ w i e. e }

  same : IsRewritten t t stay-put Lands n n
  same = (refl, λ e. record { second = refl; third = refl; leads = refl }, λ e. (refl, λ c. refl))

  unfolded : Meets (Alike stay-put Lands) (node_step t n n.op s) (node_step t n n.op there)
  unfolded = steps-meet t t stay-put Lands s renumbered a.bit a.result a.carries a.answers n n same

  to-number : (w : ℕ) → made known n.op n.operands ≡ Some w → Meets (Alike stay-put Lands) (node_step t n n.op s) (node_step t (as_movi n w) (op.Plain plain.Movi) there)
  to-number w e =
      let x = makes t s known are n w e in
      subst (λ o. Meets (Alike stay-put Lands) o (node_step t (as_movi n w) (op.Plain plain.Movi) there)) (sym x.is) (
        record {
          at = s.at + 1;
          bit = a.bit;
          result = None;
          is = refl;
          lands = refl;
          carries = ⊎_elim (λ z. inl z) (λ z. ⊎_elim (λ y. inl (z ∙ y)) (λ y. inr (y ∙ sym z)) a.carries) x.carries;
          answers = inl refl;
        },
        refl,
      )

  by-cases : (p q : Option ℕ) → made known n.op n.operands ≡ p → last_known known n.op n.operands ≡ q → Meets (Alike stay-put Lands) (node_step t n n.op s) (node_step t (folded_by n p q) (folded_by n p q).op there)
  by-cases (Some w) q ep eq = to-number w ep
  by-cases None (Some w) ep eq = subst (λ o. Meets (Alike stay-put Lands) (node_step t n n.op s) o) (sym (immediate-same t there known known-there n w eq)) unfolded
  by-cases None None ep eq = unfolded

  pub folds-meet : Meets (Alike stay-put Lands) (node_step t n n.op s) (node_step t (folded known n) (folded known n).op k)
  folds-meet = subst (λ x. Meets (Alike stay-put Lands) (node_step t n n.op s) (node_step t (folded known n) (folded known n).op x)) (sym closed) (by-cases (made known n.op n.operands) (last_known known n.op n.operands) refl refl)

-- ---- runs
folded-leaps : (known : Reg → Option ℕ) (n : Node) → leaps (folded known n).op ≡ leaps n.op
folded-leaps known n = by (made known n.op n.operands) (last_known known n.op n.operands) refl refl
  where
    by : (p q : Option ℕ) → made known n.op n.operands ≡ p → last_known known n.op n.operands ≡ q → leaps (folded_by n p q).op ≡ leaps n.op
    by (Some w) q ep eq = ⊎_elim (λ (b : BinaryMade known n.op n.operands w). sym (ap leaps b.op_is)) (λ (b : UnaryMade known n.op n.operands w). sym (ap leaps b.op_is)) (made-cases known n.op n.operands w ep)
    by None (Some w) ep eq = ⊎_elim
        (λ (b : BinaryLast known n.op n.operands w). ap (λ o. leaps (as_immediate (record n { op = o }) w).op) b.op_is ∙ sym (ap leaps b.op_is))
        (λ (b : BranchLast known n.op n.operands w). ap (λ o. leaps (as_immediate (record n { op = o }) w).op) b.op_is ∙ sym (ap leaps b.op_is))
        (last-cases known n.op n.operands w eq)
    by None None ep eq = refl

module _ (l m : LabelledNodes) (shape new_shape : TextShape) (A : List ℕ) (is : IsShapeOf l shape) (formed : All InForm l.nodes) (to : IsFoldedTo l m) (ef : new_shape.functions ≡ shape.functions) (et : new_shape.taken ≡ shape.taken) where
  abbrev t : Text
  t = text l shape A

  text-same : text m new_shape A ≡ text l shape A
  text-same =
      ap (λ ps. record { addresses = A; places = ps; functions = new_shape.functions; taken = new_shape.taken }) to.places
      ∙ ap (λ fs. record { addresses = A; places = l.places; functions = fs; taken = new_shape.taken }) ef
      ∙ ap (λ ts. record { addresses = A; places = l.places; functions = shape.functions; taken = ts }) et

  abbrev p : Pair
  p = record { old = l; old_shape = shape; new = m; new_shape = new_shape; addresses = A }

  abbrev Good : State → Type 0
  Good s = FitsWell l shape s × AreKnown s (known_before m s.at)

  at-form : (i : ℕ) (n : Node) → slice_get l.nodes i ≡ Some n → InForm n
  at-form = formed_at l shape A is (well_shaped l is.accepted) (has_functions l is.accepted) formed

  -- nothing is known after a transfer of control, and at a label
  fresh-after : (i : ℕ) (n : Node) → slice_get l.nodes i ≡ Some n → leaps n.op ≡ true → known_before m (i + 1) ≡ none_known
  unfolding known_before
  fresh-after i n e h =
      ap (known_before m) (add-one i)
      ∙ ap (λ f. if is_labelled m.places (suc i) then none_known else f) (ap (known_at (known_before m i)) (to.nodes i n e) ∙ ap (λ b. if b then none_known else known_after (known_before m i) (folded (known_before m i) n)) (folded-leaps (known_before m i) n ∙ h))
      ∙ by (is_labelled m.places (suc i))
    where
      by : (b : Bool) → (if b then none_known else none_known) ≡ none_known
      by true = refl
      by false = refl

  fresh-at : (k : ℕ) → is_labelled m.places k ≡ true → known_before m k ≡ none_known
  unfolding known_before
  fresh-at zero h = refl
  fresh-at (suc k) h = ap (λ b. if b then none_known else known_at (known_before m k) (slice_get m.nodes k)) h

  next-known : (i : ℕ) (n : Node) → slice_get l.nodes i ≡ Some n → leaps n.op ≡ false → is_labelled m.places (i + 1) ≡ false → known_before m (i + 1) ≡ known_after (known_before m i) (folded (known_before m i) n)
  unfolding known_before
  next-known i n e h free =
      ap (known_before m) (add-one i)
      ∙ ap (λ b. if b then none_known else known_at (known_before m i) (slice_get m.nodes i)) (ap (is_labelled m.places) (sym (add-one i)) ∙ free)
      ∙ ap (known_at (known_before m i)) (to.nodes i n e) ∙ ap (λ b. if b then none_known else known_after (known_before m i) (folded (known_before m i) n)) (folded-leaps (known_before m i) n ∙ h)

  at-fresh : (u : State) → known_before m u.at ≡ none_known → AreKnown u (known_before m u.at)
  at-fresh u e = subst (AreKnown u) (sym e) (λ r v z. absurd (nothing v z))

  known-step : (s u : State) (bytes : List ℕ) → Good s → step l shape A s ≡ Goes u bytes → AreKnown u (known_before m u.at)
  known-step s u bytes good g = by (leaps n.0.op) refl
    where
      n : (n : Node) × (slice_get l.nodes s.at ≡ Some n)
      n = node_within l.nodes s.at good.0.fits.inside

      went : node_step (text l shape A) n.0 n.0.op s ≡ Goes u bytes
      went = ap (λ o. step_at (text l shape A) o s) (sym n.1) ∙ g

      to-node : (k : ℕ) → u.at ≡ k → known_before m k ≡ none_known → AreKnown u (known_before m u.at)
      to-node k e f = at-fresh u (ap (known_before m) e ∙ f)

      labelled : (k : ℕ) → is_labelled l.places k ≡ true → known_before m k ≡ none_known
      labelled k h = fresh-at k (ap (λ ps. is_labelled ps k) to.places ∙ h)

      back : (f : Frame) (fs : List Frame) → s.callers ≡ f ∷ fs → u.at ≡ s.frame.back → AreKnown u (known_before m u.at)
      back f fs e at =
          let linked : AreLinked l shape s.frame (f ∷ fs) = subst (AreLinked l shape s.frame) e good.0.fits.linked in
          let c = linked.0 in
          to-node (c.at + 1) (at ∙ c.back) (fresh-after c.at c.node c.here (call-leaps c.node.op c.calls))

      arrived : leaps n.0.op ≡ true → Arrives l s u → AreKnown u (known_before m u.at)
      arrived h (inl e) = to-node (s.at + 1) e (fresh-after s.at n.0 n.1 h)
      arrived h (inr (inl e)) = at-fresh u (labelled u.at e)
      arrived h (inr (inr e)) = back e.1 e.2 e.3 e.0

      by : (b : Bool) → leaps n.0.op ≡ b → AreKnown u (known_before m u.at)
      by true h = arrived h (on_result (Arrives l s) _ u bytes (leap-arrives l shape A is.accepted is.functions s n.0 n.1 (at-form s.at n.0 n.1) h) went)
      by false h =
          let at : u.at ≡ s.at + 1 = nodes-fall l shape A s u bytes (ap leaps_at n.1 ∙ h) g in
          free (is_labelled m.places (s.at + 1)) refl at h
        where
          free : (b : Bool) → is_labelled m.places (s.at + 1) ≡ b → u.at ≡ s.at + 1 → leaps n.0.op ≡ false → AreKnown u (known_before m u.at)
          free true f at h = to-node (s.at + 1) at (fresh-at (s.at + 1) f)
          free false f at h =
              subst (AreKnown u) (sym (ap (known_before m) at ∙ next-known s.at n.0 n.1 h f))
              (known-on (text l shape A) n.0 s u bytes (known_before m s.at) good.1 (at-form s.at n.0 n.1) h went)

  -- nothing is known at the first node, and at a label
  fresh-start : (b : Option Label) → MayBegin l b → known_before m (begins_at l b) ≡ none_known
  unfolding known_before
  fresh-start None h = refl
  fresh-start (Some x) h = at-place (place_of l.places x) refl h
    where
      at-place : (o : Option Place) → place_of l.places x ≡ o → is_entry l.nodes o ≡ true → known_before m (node_in o) ≡ none_known
      at-place None e f = cc
      at-place (Some (place.Image k)) e f = cc
      at-place (Some (place.Node k)) e f = fresh-at k (ap (λ ps. is_labelled ps k) to.places ∙ labelled-at l.places x k e)

  all-good : (e : Entry) (b : Option Label) → MayEnter e → MayBegin l b → (k : ℕ) → Good (mean_from l shape A (entered_state e (begins_at l b)) k).state
  all-good e b may begins k = always l shape A Good
      (λ s u bytes good g. (steps_fit l shape A s u bytes is (well_shaped l is.accepted) (has_functions l is.accepted) (at-form s.at) good.0 g, known-step s u bytes good g))
      (entered_state e (begins_at l b))
      (start_fits l shape is (well_shaped l is.accepted) (has_functions l is.accepted) e may b begins, at-fresh (entered_state e (begins_at l b)) (fresh-start b begins))
      k

  meets : (s k : State) → Good s → Alike stay-put Lands s k → true ≡ true → Meets (Alike stay-put Lands) (step l shape A s) (step m new_shape A k)
  meets s k good a e =
      let n = node_within l.nodes s.at good.0.fits.inside in
      let at : k.at ≡ s.at = ap (λ (x : State). x.at) a.is ∙ a.lands in
      subst (λ o. Meets (Alike stay-put Lands) (step_at t o s) (step m new_shape A k)) (sym n.1)
      (subst (λ o. Meets (Alike stay-put Lands) (node_step t n.0 n.0.op s) (step_at (text m new_shape A) o k)) (sym (ap (slice_get m.nodes) at ∙ to.nodes s.at n.0 n.1))
      (subst (λ (x : Text). Meets (Alike stay-put Lands) (node_step t n.0 n.0.op s) (node_step x (folded (known_before m s.at) n.0) (folded (known_before m s.at) n.0).op k)) (sym text-same)
      (folds-meet t n.0 s k (known_before m s.at) good.1 a)))

  never : true ≡ false → ⊥
  never e = cc

  stepped : AreStepped p Good (Alike stay-put Lands) (λ s k. true)
  stepped = record { meets = meets; rests = λ s k good a e. absurd (never e) }

  leaps-stay : (i : ℕ) → leaps_at (slice_get l.nodes i) ≡ true → (true ≡ true) × (leaps_at (slice_get m.nodes i) ≡ true)
  leaps-stay i e = by (slice_get l.nodes i) refl e
    where
      by : (o : Option Node) → slice_get l.nodes i ≡ o → leaps_at o ≡ true → (true ≡ true) × (leaps_at (slice_get m.nodes i) ≡ true)
      by None f h = cc
      by (Some n) f h = (refl, ap leaps_at (to.nodes i n f) ∙ folded-leaps (known_before m i) n ∙ h)

  pub folded-follow : FromEachStart l m (RunIsDropped l shape m new_shape (origins (λ i. true) (length l.nodes)) A)
  folded-follow e b may begins =
      let first : State = entered_state e (begins_at l b) in
      let second : State = entered_state e (begins_at m b) in
      let start : Alike stay-put Lands first second = record {
        at = begins_at m b;
        bit = carry.Undefined;
        result = None;
        is = start-over stay-put refl e (begins_at l b) (begins_at m b);
        lands = beginning-same l m is.accepted to b;
        carries = inl refl;
        answers = inl refl;
      } in (
        begins-same l m is.accepted to b begins,
        (
          record {
            j = _;
            stays = λ i. true;
            to = stay-put;
            drops = drops p (λ i. true) stay-put Good (Alike stay-put Lands) (λ s k a. ap (λ (x : State). x.at) a.is ∙ a.lands) stepped (λ i e. absurd (never e)) first second (all-good e b may begins) start;
            memory = drops-look p (λ i. true) stay-put Good (Alike stay-put Lands) (λ s k a. ap (λ (x : State). x.at) a.is ∙ a.lands) stepped (λ i e. absurd (never e)) first second (all-good e b may begins) start
                (λ s k a. ap memory_in a.is);
            leaps = leaps-stay;
          },
          all-numbered l,
        ),
      )

-- none of them can be folded again
pub no-folds : (l m : LabelledNodes) → All InForm l.nodes → IsFoldedTo l m → HasNoFolds m
no-folds l m formed to i k e =
    let lt = slice_get_within m.nodes i k e in
    let n = node_within l.nodes i (omega (arith, lt, to.count)) in
    let same : folded (known_before m i) n.0 ≡ k = same_Some (folded (known_before m i) n.0) k (sym (to.nodes i n.0 n.1) ∙ e) in
    subst (λ x. can_be_folded (known_before m i) x ≡ false) same (no-more (known_before m i) n.0)
