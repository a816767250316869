-- What is known of registers where nodes are dropped.
use Rattle.std.proofs.Common.{◌≡◌, ◌≢◌, ⊎_elim, ℕ, zero, suc, ◌≤◌, Bool, true, false, ◌&&◌, ◌||◌, List, [], ◌∷◌, Option, Some, None, length, refl, sym, ap, ◌∙◌, add-one, arith}
use Rattle.std.specs.Prelude.{if◌then◌else◌, is_some, slice_get}
use Rattle.std.specs.Option.{option_map}
use Rattle.std.proofs.lemmas.Bool.{and_parts, or_left, or_right}
use Rattle.std.proofs.lemmas.Option.{slice_get-map, same_Some}
use Rattle.lg_op.specs.Forms.{forms_of, last_form, admit, admits}
use Rattle.lg_op.specs.Nodes.{InForm}
use Rattle.lg_op.specs.declared.form.Form.{Form}
use Rattle.lg_op.specs.declared.form.Form.TheVariants as form
use Rattle.lg_op.specs.declared.node.Node.{Node}
use Rattle.lg_op.specs.declared.op.Op.{Op}
use Rattle.lg_op.specs.declared.op.Op.TheVariants as op
use Rattle.lg_op.specs.declared.op.LastOperand.{LastOperand}
use Rattle.lg_op.specs.declared.op.LastOperand.TheVariants as last_operand
use Rattle.lg_op.specs.declared.operand.Label.{Label}
use Rattle.lg_op.specs.declared.operand.Operand.{Operand}
use Rattle.lg_op.specs.declared.operand.Operand.TheVariants as operand
use Rattle.lg_op.specs.declared.operand.Reg.{Reg}
use Rattle.lg_op.specs.declared.operand.Reg.TheVariants.{R0, R1, R2, V0, V1, V2, Fp}
use Rattle.lg_live.specs.Registers.{is_same}
use Rattle.lg_live.specs.declared.uses.Access.TheVariants as access
use Rattle.lg_live.specs.Uses.{is_register, names, is_read, is_written}
use Rattle.lg_op.specs.Operators.{binary_value, unary_value}
use Rattle.lg_carry.specs.Carries.{leaps}
use Rattle.lg_node.specs.Labels.{is_labelled}
use Rattle.lg_node.specs.Nodes.{LabelledNodes}
use Rattle.lg_node.proofs.FunctionLaws.{node_within}
use Rattle.lg_opt.specs.Remaining.{new_number, moved_place, retargeted, rewritten}
use Rattle.lg_opt.proofs.LabelLemmas.{label-there, labelled-bound}
use Rattle.lg_opt.proofs.MovedLemmas.{same-op, stands}
use Rattle.lg_opt.proofs.RemainingLemmas.{number-zero, number-stays, number-goes}
use Rattle.lg_dead.specs.Known.{number_in, both_known, made, last_known, can_be_folded, moved_number, or_else, known_after, known_before}
use Rattle.lg_dead.proofs.KnownLemmas.{unwritten-known, after-cases, fresh-at, known-step, came}
use Rattle.lg_dead.proofs.FoldNodeLemmas.{BinaryMade, UnaryMade, BinaryLast, BranchLast, made-cases, last-cases}

no : true ≡ false → ⊥
no e = cc

nothing : (v : ℕ) → ◌≡◌ {A = Option ℕ} None (Some v) → ⊥
nothing v e = cc

-- a label is at the new number of its node
pub label-kept : (l : LabelledNodes) (keep : ℕ → Bool) (targets : ℕ → Option Label) (k : ℕ) → is_labelled l.places k ≡ true → is_labelled (rewritten l keep targets).places (new_number keep k) ≡ true
label-kept l keep targets k e =
    let x = label-there l.places k e in
    labelled-bound (rewritten l keep targets).places x.0 (new_number keep k) (slice_get-map (moved_place (new_number keep)) l.places x.0 ∙ ap (option_map (moved_place (new_number keep))) x.1)

-- ---- what is known of the nodes that stay was known of the old ones
module _ (l : LabelledNodes) (keep : ℕ → Bool) (targets : ℕ → Option Label) (Of : ℕ → Reg → Type 0)
    (calm : (i : ℕ) (n : Node) → slice_get l.nodes i ≡ Some n → leaps n.op ≡ false → retargeted (targets i) n ≡ n)
    (passes : (i : ℕ) (n : Node) (r : Reg) → slice_get l.nodes i ≡ Some n → leaps n.op ≡ false → is_written n r ≡ false → Of (suc i) r → Of i r)
    (gone : (i : ℕ) (n : Node) (r : Reg) (v : ℕ) → slice_get l.nodes i ≡ Some n → keep i ≡ false → Of (suc i) r
    → known_before (rewritten l keep targets) (new_number keep (suc i)) r ≡ Some v → (Of i r → known_before l i r ≡ Some v) → (leaps n.op ≡ false) × (is_written n r ≡ false)) where
  abbrev m : LabelledNodes
  m = rewritten l keep targets

  abbrev nu : ℕ → ℕ
  nu = new_number keep

  -- where something is known at a new number, no label stood at the old one
  free-old : (k : ℕ) (r : Reg) (v : ℕ) → known_before m (nu k) r ≡ Some v → is_labelled l.places k ≡ false
  free-old k r v e = by (is_labelled l.places k) refl
    where
      by : (b : Bool) → is_labelled l.places k ≡ b → is_labelled l.places k ≡ false
      by false f = f
      by true f = absurd (nothing v (sym (ap (λ g. g r) (fresh-at m (nu k) (label-kept l keep targets k f))) ∙ e))

  pub tracked : (k : ℕ) (r : Reg) (v : ℕ) → k ≤ length l.nodes → Of k r → known_before (rewritten l keep targets) (new_number keep k) r ≡ Some v → known_before l k r ≡ Some v
  unfolding known_before
  tracked zero r v le of e = absurd (nothing v (sym (ap (λ i. known_before m i r) (number-zero keep)) ∙ e))
  tracked (suc i) r v le of e = by (keep i) refl (node_within l.nodes i (omega arith)) (λ w z f. tracked i r w (omega arith) z f)
    where
      by : (b : Bool) → keep i ≡ b → (n : Node) × (slice_get l.nodes i ≡ Some n) → ((w : ℕ) → Of i r → known_before m (nu i) r ≡ Some w → known_before l i r ≡ Some w) → known_before l (suc i) r ≡ Some v
      by false s n again =
          let here : known_before m (nu i) r ≡ Some v = ap (λ j. known_before m j r) (sym (number-goes keep i s)) ∙ e in
          let g = gone i n.0 r v n.1 s of e (λ z. again v z here) in
          ap (λ f. f r) (known-step l i n.0 n.1 (free-old (suc i) r v e) g.0) ∙ unwritten-known (known_before l i) n.0 r g.1 ∙ again v (passes i n.0 r n.1 g.0 g.1 of) here
      by true s n again =
          let next : known_before m (suc (nu i)) r ≡ Some v = ap (λ j. known_before m j r) (sym (number-stays keep i s ∙ add-one (nu i))) ∙ e in
          let c = came m (nu i) r v next in
          let one : c.node ≡ retargeted (targets i) n.0 = same_Some c.node (retargeted (targets i) n.0) (sym c.here ∙ stands l keep targets i n.0 n.1 s) in
          let falls : leaps n.0.op ≡ false = ap leaps (sym (same-op (targets i) n.0)) ∙ ap (λ (x : Node). leaps x.op) (sym one) ∙ c.falls in
          let same : c.node ≡ n.0 = one ∙ calm i n.0 n.1 falls in
          let old : known_before l (suc i) r ≡ known_after (known_before l i) n.0 r = ap (λ f. f r) (known-step l i n.0 n.1 (free-old (suc i) r v e) falls) in
          old ∙ ⊎_elim
          (λ (x : moved_number c.node.op c.node.operands r ≡ Some v). ap (λ o. or_else o (if is_written n.0 r then None else known_before l i r)) (ap (λ (y : Node). moved_number y.op y.operands r) (sym same) ∙ x))
          (λ (x : (is_written c.node r ≡ false) × (known_before m (nu i) r ≡ Some v)).
          let w : is_written n.0 r ≡ false = ap (λ (y : Node). is_written y r) (sym same) ∙ x.0 in
          unwritten-known (known_before l i) n.0 r w ∙ again v (passes i n.0 r n.1 falls w of) x.1)
          (after-cases (known_before m (nu i)) c.node r v c.known)

-- ---- nodes can be folded only by what they read

pub same-itself : (a : Reg) → a ≢ Fp → is_same a a ≡ true
same-itself Fp e = absurd (e refl)
same-itself other e = refl

module _ (f g : Reg → Option ℕ) (fp : f Fp ≡ None) (n : Node) (more : (r : Reg) (v : ℕ) → is_read n r ≡ true → f r ≡ Some v → g r ≡ Some v) where
  not-fp : (r : Reg) (v : ℕ) → f r ≡ Some v → r ≢ Fp
  not-fp r v e z = nothing v (sym fp ∙ ap f (sym z) ∙ e)

  number-more : (x : Operand) (v : ℕ) → ((r : Reg) → x ≡ operand.Reg r → r ≢ Fp → is_read n r ≡ true) → number_in f x ≡ Some v → number_in g x ≡ Some v
  number-more (operand.Reg r) v h e = more r v (h r refl (not-fp r v e)) e
  number-more (operand.Number k) v h e = e
  number-more other v h e = cc

  -- the operands that are read
  second-read : (fs : List Form) (d a : Operand) (xs : List Operand) (r : Reg) → a ≡ operand.Reg r → r ≢ Fp → (h : Form) → names access.Read (h ∷ form.Read ∷ fs) (d ∷ a ∷ xs) r ≡ true
  second-read fs d a xs r z nf h = or_left (names access.Read fs xs r || is_register r a) _ (or_right (names access.Read fs xs r) (is_register r a) (ap (is_register r) z ∙ same-itself r nf))

  third-read : (d a c : Operand) (r : Reg) → c ≡ operand.Reg r → r ≢ Fp → (h : Form) → names access.Read (h ∷ form.Read ∷ form.Read ∷ []) (d ∷ a ∷ c ∷ []) r ≡ true
  third-read d a c r z nf h = or_left (is_register r c || is_register r a) _ (or_left (is_register r c) (is_register r a) (ap (is_register r) z ∙ same-itself r nf))

  read-as : (o : Op) (xs : List Operand) (r : Reg) → n.op ≡ o → n.operands ≡ xs → names access.Read (forms_of o) xs r ≡ true → is_read n r ≡ true
  read-as o xs r eo ex h = ap (λ p. names access.Read (forms_of p) n.operands r) eo ∙ ap (λ ys. names access.Read (forms_of o) ys r) ex ∙ h

  last-read : (last : LastOperand) (d a c : Operand) (r : Reg) → admit (form.Write ∷ form.Read ∷ last_form last ∷ []) (d ∷ a ∷ c ∷ []) ≡ true → c ≡ operand.Reg r → r ≢ Fp → names access.Read (form.Write ∷ form.Read ∷ last_form last ∷ []) (d ∷ a ∷ c ∷ []) r ≡ true
  last-read last_operand.Register d a c r m z nf = third-read d a c r z nf form.Write
  last-read last_operand.Immediate d a c r m z nf =
      let p = and_parts (admits form.Write d) (admits form.Read a && (admits form.Immediate c && true)) m in
      let q = and_parts (admits form.Read a) (admits form.Immediate c && true) p.1 in
      let w = and_parts (admits form.Immediate c) true q.1 in
      let never : false ≡ true = sym (ap (admits form.Immediate) z) ∙ w.0 in
      cc

  module _ (formed : InForm n) where
    made-more : (v : ℕ) → made f n.op n.operands ≡ Some v → made g n.op n.operands ≡ Some v
    made-more v e = ⊎_elim binary unary-case (made-cases f n.op n.operands v e)
      where
        binary : BinaryMade f n.op n.operands v → made g n.op n.operands ≡ Some v
        binary b =
            ap (λ o. made g o n.operands) b.op_is ∙ ap (made g (op.Binary b.name b.last)) b.operands_are
            ∙ ap (λ k. if k then None else both_known (number_in g b.first) (number_in g b.second) (binary_value b.name)) b.plain_is
            ∙ ap (λ o. both_known o (number_in g b.second) (binary_value b.name)) (number-more b.first b.x (λ r z nf. read-as (op.Binary b.name b.last) (b.into ∷ b.first ∷ b.second ∷ []) r b.op_is b.operands_are (second-read (last_form b.last ∷ []) b.into b.first (b.second ∷ []) r z nf form.Write)) b.first_is)
            ∙ ap (λ o. both_known (Some b.x) o (binary_value b.name)) (number-more b.second b.y (λ r z nf. read-as (op.Binary b.name b.last) (b.into ∷ b.first ∷ b.second ∷ []) r b.op_is b.operands_are (last-read b.last b.into b.first b.second r (sym (ap (λ o. admit (forms_of o) n.operands) b.op_is ∙ ap (admit (form.Write ∷ form.Read ∷ last_form b.last ∷ [])) b.operands_are) ∙ formed.forms) z nf)) b.second_is)
            ∙ b.word

        unary-case : UnaryMade f n.op n.operands v → made g n.op n.operands ≡ Some v
        unary-case b =
            ap (λ o. made g o n.operands) b.op_is ∙ ap (made g (op.Unary b.name)) b.operands_are
            ∙ ap (option_map (unary_value b.name)) (number-more b.first b.x (λ r z nf. read-as (op.Unary b.name) (b.into ∷ b.first ∷ []) r b.op_is b.operands_are (second-read [] b.into b.first [] r z nf form.Write)) b.first_is)
            ∙ ap (λ w. Some w) b.word

    last-more : (v : ℕ) → last_known f n.op n.operands ≡ Some v → last_known g n.op n.operands ≡ Some v
    last-more v e = ⊎_elim binary branch-case (last-cases f n.op n.operands v e)
      where
        binary : BinaryLast f n.op n.operands v → last_known g n.op n.operands ≡ Some v
        binary b =
            ap (λ o. last_known g o n.operands) b.op_is ∙ ap (last_known g (op.Binary b.name last_operand.Register)) b.operands_are
            ∙ ap (λ k. if k then None else g b.second) b.plain_is
            ∙ more b.second v (read-as (op.Binary b.name last_operand.Register) (b.into ∷ b.first ∷ operand.Reg b.second ∷ []) b.second b.op_is b.operands_are (third-read b.into b.first (operand.Reg b.second) b.second refl (not-fp b.second v b.second_is) form.Write)) b.second_is

        branch-case : BranchLast f n.op n.operands v → last_known g n.op n.operands ≡ Some v
        branch-case b =
            ap (λ o. last_known g o n.operands) b.op_is ∙ ap (last_known g (op.Branch b.name last_operand.Register)) b.operands_are
            ∙ more b.second v (read-as (op.Branch b.name last_operand.Register) (b.to ∷ b.first ∷ operand.Reg b.second ∷ []) b.second b.op_is b.operands_are (third-read b.to b.first (operand.Reg b.second) b.second refl (not-fp b.second v b.second_is) form.Target)) b.second_is

    some-of : (o : Option ℕ) (p : Option ℕ) → ((v : ℕ) → o ≡ Some v → p ≡ Some v) → is_some p ≡ false → is_some o ≡ false
    some-of None p h e = refl
    some-of (Some v) p h e = let x : is_some p ≡ true = ap is_some (h v refl) in absurd (no (sym x ∙ e))

    or-parts : (b c : Bool) → (b || c) ≡ false → (b ≡ false) × (c ≡ false)
    or-parts true c e = cc
    or-parts false c e = (refl, e)

    pub can-less : can_be_folded g n ≡ false → can_be_folded f n ≡ false
    can-less e =
        let p = or-parts (is_some (made g n.op n.operands)) (is_some (last_known g n.op n.operands)) e in
        ap (λ b. b || is_some (last_known f n.op n.operands)) (some-of (made f n.op n.operands) (made g n.op n.operands) made-more p.0)
        ∙ ap (λ b. false || b) (some-of (last_known f n.op n.operands) (last_known g n.op n.operands) last-more p.1)
