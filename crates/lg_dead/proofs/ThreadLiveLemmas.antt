-- Where jumps are threaded, what was live is live.
use Rattle.std.proofs.Common.{◌≡◌, inl, inr, ℕ, ◌+◌, ◌<◌, Bool, true, false, ◌&&◌, ◌||◌, List, [], ◌∷◌, Option, Some, None, length, refl, sym, ap, ◌∙◌, subst, add-one, arith}
use Rattle.std.specs.Prelude.{if◌then◌else◌, nat_lt, slice_get, slice_index_or}
use Rattle.std.specs.List.{All}
use Rattle.std.specs.Option.{option_map}
use Rattle.std.proofs.lemmas.Option.{slice_get_within, slice_get-map, same_Some}
use Rattle.lg_op.specs.Forms.{forms_of, last_form}
use Rattle.lg_op.specs.Nodes.{InForm}
use Rattle.lg_op.specs.Operands.{number_of}
use Rattle.lg_op.specs.declared.form.Form.{Form}
use Rattle.lg_op.specs.declared.form.Form.TheVariants as form
use Rattle.lg_op.specs.declared.node.Node.{Node}
use Rattle.lg_op.specs.declared.op.Op.{Op}
use Rattle.lg_op.specs.declared.op.Op.TheVariants as op
use Rattle.lg_op.specs.declared.op.ControlOp.TheVariants as control
use Rattle.lg_op.specs.declared.op.LastOperand.TheVariants as last_operand
use Rattle.lg_op.specs.declared.op.PlainOp.TheVariants as plain
use Rattle.lg_op.specs.declared.operand.Label.{Label}
use Rattle.lg_op.specs.declared.operand.Operand.{Operand}
use Rattle.lg_op.specs.declared.operand.Operand.TheVariants as operand
use Rattle.lg_op.specs.declared.operand.Reg.{Reg}
use Rattle.lg_live.specs.declared.uses.Access.{Access}
use Rattle.lg_live.specs.declared.uses.Access.TheVariants as access
use Rattle.lg_live.specs.Uses.{is_for, is_register, names, is_call, is_read, is_written}
use Rattle.lg_live.specs.Liveness.{IsLive, IsLiveAfter}
use Rattle.lg_live.specs.Liveness as live
use Rattle.lg_node.specs.declared.place.Place.{Place}
use Rattle.lg_node.specs.declared.place.Place.TheVariants as place
use Rattle.lg_node.specs.Labels.{place_of}
use Rattle.lg_node.specs.Nodes.{LabelledNodes}
use Rattle.lg_node.specs.ShapeLaws.{has_target}
use Rattle.lg_node.specs.Shapes.{TextShape, IsShapeOf, IsSuccessor, IsTarget, GoesBy, Way, Next, Jump, Either, Taken, Leave, way_of, target_of}
use Rattle.lg_meaning.specs.Steps.{operand_at, node_in, node_of_label}
use Rattle.lg_live.specs.Definitions.{defines}
use Rattle.lg_opt.specs.Goals.{lead, turns, goal_node}
use Rattle.lg_opt.specs.Goals as goals
use Rattle.lg_opt.specs.Hops.{is_jump, is_jump_at, jump_at, hop, hop_of}
use Rattle.lg_opt.specs.Remaining.{new_number, moved_place, with_first, retargeted, rewritten}
use Rattle.lg_opt.specs.Targets.{target_node, AreTargets}
use Rattle.lg_opt.specs.Threads.{Lands}
use Rattle.lg_opt.proofs.AcceptLemmas.{inside-moved, entry-stays}
use Rattle.lg_opt.proofs.GoalLemmas.{lead-on, ends-on, lead-there, dropped-number}
use Rattle.lg_opt.proofs.MovedLemmas.{same-op, comes-from, new-count, stands, place-moved}
use Rattle.lg_opt.proofs.RemainingLemmas.{number-stays, number-lt}
use Rattle.lg_opt.proofs.ShapeLemmas.{home-moved}
use Rattle.lg_opt.proofs.TargetLemmas.{jumps-within, lead-rests, others-stay, threads-rewrite, same-node}
use Rattle.lg_opt.proofs.ThreadedLemmas.{threaded}
use Rattle.lg_dead.specs.Dead.{HasNoDeadButMoves}
use Rattle.lg_opt.specs.Moves.{is_movr}
use Rattle.lg_dead.proofs.DeadRunLemmas.{next-by-defining}
use Rattle.lg_dead.proofs.NeededLemmas.{next-only}
use Rattle.lg_dead.proofs.Kept.{ThreadsKeepNoDead}

no : true ≡ false → ⊥
no e = cc

-- ---- another target changes neither what is read nor what is written
target-names : (x : Access) (fs : List Form) (xs : List Operand) (y : Label) (r : Reg) → is_for x form.Target ≡ false → names x (form.Target ∷ fs) (with_first xs y) r ≡ names x (form.Target ∷ fs) xs r
target-names x fs [] y r e = refl
target-names x fs (z ∷ xs) y r e = ap (λ b. names x fs xs r || (b && false)) e ∙ sym (ap (λ b. names x fs xs r || (b && is_register r z)) e)

op-names : (x : Access) (o : Op) (xs : List Operand) (y : Label) (r : Reg) → is_for x form.Target ≡ false → has_target o ≡ true → names x (forms_of o) (with_first xs y) r ≡ names x (forms_of o) xs r
op-names x (op.Branch c last) xs y r e h = target-names x (form.Read ∷ last_form last ∷ []) xs y r e
op-names x (op.BranchSum c last) xs y r e h = target-names x (form.Update ∷ last_form last ∷ []) xs y r e
op-names x (op.Control control.Jmp last_operand.Immediate) xs y r e h = target-names x [] xs y r e
op-names x o xs y r e h = cc

jump-names : (x : Access) (o : Op) (xs : List Operand) (r : Reg) → is_for x form.Target ≡ false → is_jump o ≡ true → names x (forms_of o) xs r ≡ false
jump-names x (op.Control control.Jmp last_operand.Immediate) [] r e h = refl
jump-names x (op.Control control.Jmp last_operand.Immediate) (z ∷ xs) r e h = ap (λ b. false || (b && is_register r z)) e
jump-names x o xs r e h = cc

jump-way : (o : Op) → is_jump o ≡ true → way_of o ≡ Jump
jump-way (op.Control control.Jmp last_operand.Immediate) e = refl
jump-way o e = cc

way-jumps : (o : Op) → way_of o ≡ Jump → is_jump o ≡ true
way-jumps (op.Control control.Jmp last_operand.Immediate) e = refl
way-jumps (op.Control control.Jmp last_operand.Register) e = cc
way-jumps (op.Control control.Call last) e = cc
way-jumps (op.Control control.Finish last) e = cc
way-jumps (op.Control control.Pusharg last) e = cc
way-jumps (op.Control control.Ret last) e = cc
way-jumps (op.Plain plain.Ret) e = cc
way-jumps (op.Plain plain.Epilog) e = cc
way-jumps o e = cc

no-target-defines : (o : Op) → defines o ≡ true → has_target o ≡ false
no-target-defines (op.Binary b last) e = refl
no-target-defines (op.Wide b last) e = refl
no-target-defines (op.Unary b) e = refl
no-target-defines (op.Plain plain.Movi) e = refl
no-target-defines (op.Load v at) e = refl
no-target-defines (op.Retval v) e = refl
no-target-defines (op.Getarg v) e = refl
no-target-defines o e = cc

live-inside : (l : LabelledNodes) (s : TextShape) (r : Reg) (i : ℕ) → IsLive l s r i → i < length l.nodes
live-inside l s r i (live.read_here j n e f) = slice_get_within l.nodes i n e
live-inside l s r i (live.kept_to j k n e w c x) = slice_get_within l.nodes i n e

-- the label of a target
goes-to : (places : List (Option Place)) (xs : List Operand) (k : ℕ) → target_of places xs ≡ Some (place.Node k) → node_of_label places (slice_index_or xs 0 (operand.Number 0)) ≡ k
goes-to places (operand.Label x ∷ xs) k e = ap node_in e
goes-to places _ k e = cc

module _ (l : LabelledNodes) (shape new_shape : TextShape) (targets : ℕ → Option Label) (is : IsShapeOf l shape) (formed : All InForm l.nodes) (are : AreTargets l targets) (et : new_shape.taken ≡ shape.taken) where
  abbrev keep : ℕ → Bool
  keep = goals.stays l

  abbrev m : LabelledNodes
  m = rewritten l (goals.stays l) targets

  abbrev nu : ℕ → ℕ
  nu = new_number (goals.stays l)

  abbrev At : ℕ → ℕ → Type 0
  At = Lands l (threaded l)

  abbrev new : ℕ → Node → Node
  new i n = retargeted (targets i) n

  new-reads : (i : ℕ) (n : Node) → slice_get l.nodes i ≡ Some n → (r : Reg) → is_read (retargeted (targets i) n) r ≡ is_read n r
  new-reads i n e r = by (targets i) refl
    where
      by : (o : Option Label) → targets i ≡ o → is_read (retargeted o n) r ≡ is_read n r
      by None t = refl
      by (Some y) t = op-names access.Read n.op n.operands y r refl (are.others i n y e t).jumps

  new-writes : (i : ℕ) (n : Node) → slice_get l.nodes i ≡ Some n → (r : Reg) → is_written (retargeted (targets i) n) r ≡ is_written n r
  new-writes i n e r = by (targets i) refl
    where
      by : (o : Option Label) → targets i ≡ o → is_written (retargeted o n) r ≡ is_written n r
      by None t = refl
      by (Some y) t = ap (λ b. b || (is_call n.op && nat_lt (number_of r) 3)) (op-names access.Write n.op n.operands y r refl (are.others i n y e t).jumps)

  jump-reads : (n : Node) (r : Reg) → is_jump n.op ≡ true → is_read n r ≡ false
  jump-reads n r h = jump-names access.Read n.op n.operands r refl h

  jump-node : (i : ℕ) (n : Node) → slice_get l.nodes i ≡ Some n → jump_at l i ≡ true → is_jump n.op ≡ true
  jump-node i n e j = ap is_jump_at (sym e) ∙ j

  -- a node that reads stays, and is at its number
  plain-stays : (i : ℕ) (n : Node) → slice_get l.nodes i ≡ Some n → is_jump n.op ≡ false → keep i ≡ true
  plain-stays i n e h = others-stay l is.accepted formed i (ap is_jump_at e ∙ h)

  plain-lands : (i k : ℕ) (n : Node) → slice_get l.nodes i ≡ Some n → is_jump n.op ≡ false → At i k → k ≡ nu i
  plain-lands i k n e h (inl z) = z
  plain-lands i k n e h (inr z) = absurd (no (sym (jump-node i n e z.0) ∙ h))

  -- where a target leads, and where the new one does
  record Led (i k : ℕ) (n : Node) : Type 0 where
    to : ℕ
    target : target_of m.places (retargeted (targets i) n).operands ≡ Some (place.Node to)
    lands : At k to

  lead-lands : (k : ℕ) → turns l k ≡ false → At k (nu (lead l k))
  lead-lands k t = by (jump_at l k) refl
    where
      by : (b : Bool) → jump_at l k ≡ b → At k (nu (lead l k))
      by true j = inr (j, t, refl)
      by false j = inl (ap nu (lead-rests l is.accepted formed k j))

  led : (i k : ℕ) (n : Node) → slice_get l.nodes i ≡ Some n → IsTarget l n k → Led i k n
  led i k n e g = let x = by (targets i) refl in record { to = x.0; target = x.1; lands = x.2 }
    where
      moved : (xs : List Operand) → target_of l.places xs ≡ Some (place.Node k) → target_of m.places xs ≡ Some (place.Node (nu k))
      moved (operand.Label y ∷ xs) e = place-moved l keep targets y ∙ ap (moved_place nu) e
      moved other e = cc

      first : (xs : List Operand) (y : Label) → target_of l.places xs ≡ Some (place.Node k) → target_of m.places (with_first xs y) ≡ place_of m.places y
      first (x ∷ xs) y e = refl
      first [] y e = cc

      by : (o : Option Label) → targets i ≡ o → (t : ℕ) × (target_of m.places (retargeted o n).operands ≡ Some (place.Node t)) × At k t
      by None t = (nu k, moved n.operands g, inl refl)
      by (Some y) t =
          let h = are.others i n y e t in
          let here : target_node l n ≡ k = goes-to l.places n.operands k g in (
            nu (lead l k),
            first n.operands y g ∙ place-moved l keep targets y ∙ ap (moved_place nu) h.place ∙ ap (λ j. Some (place.Node (nu (lead l j)))) here,
            lead-lands k (ap (turns l) (sym here) ∙ h.ends),
          )

  -- a node that stays, and is left to a successor
  kept : (i k t : ℕ) (n : Node) (r : Reg) → slice_get l.nodes i ≡ Some n → keep i ≡ true → is_written n r ≡ false → GoesBy m new_shape (nu i) (retargeted (targets i) n) (way_of n.op) t → IsLive m new_shape r t → IsLive m new_shape r (nu i)
  kept i k t n r e s w g x =
      live.kept_to (nu i) t (new i n) (stands l keep targets i n e s) (new-writes i n e r ∙ w)
      record { node = new i n; here = stands l keep targets i n e s; goes = subst (λ (o : Op). GoesBy m new_shape (nu i) (new i n) (way_of o) t) (sym (same-op (targets i) n)) g } x

  -- over a jump
  over-jump : (i k t : ℕ) (n : Node) (r : Reg) → slice_get l.nodes i ≡ Some n → is_jump n.op ≡ true → IsTarget l n k → is_written n r ≡ false → At i t → ((u : ℕ) → At k u → IsLive m new_shape r u) → IsLive m new_shape r t
  over-jump i k t n r e j g w lands again = by (turns l i) refl lands
    where
      few : i < length l.nodes
      few = slice_get_within l.nodes i n e

      jumps : jump_at l i ≡ true
      jumps = ap is_jump_at e ∙ j

      hops : hop l i ≡ k
      hops = ap (hop_of l.places i) e ∙ ap (λ b. if b then node_of_label l.places (operand_at n 0) else i) j ∙ goes-to l.places n.operands k g

      -- where the jumps from it lead, those from the next node do
      ahead : turns l i ≡ false → At k (nu (lead l i))
      ahead f = subst (λ j. At j (nu (lead l i))) hops (by-next (jump_at l (hop l i)) refl)
        where
          by-next : (b : Bool) → jump_at l (hop l i) ≡ b → At (hop l i) (nu (lead l i))
          by-next true z = inr (z, ends-on l (jumps-within l is.accepted formed) i few f, ap nu (sym (lead-on l (jumps-within l is.accepted formed) i few f)))
          by-next false z = inl (ap nu (lead-there l (jumps-within l is.accepted formed) i few z))

      stay : keep i ≡ true → IsLive m new_shape r (nu i)
      stay s =
          let d = led i k n e g in
          kept i k d.to n r e s w (subst (λ (v : Way). GoesBy m new_shape (nu i) (new i n) v d.to) (sym (jump-way n.op j)) d.target) (again d.to d.lands)

      gone : keep i ≡ false → (b : Bool) → turns l i ≡ b → IsLive m new_shape r (nu i)
      gone s false f =
          let d = dropped-number l i few s in
          subst (IsLive m new_shape r) (sym (sym d.2 ∙ ap nu (ap (λ b. if b then hop l i else lead l i) f))) (again (nu (lead l i)) (ahead f))
      gone s true f =
          let d = dropped-number l i few s in
          subst (IsLive m new_shape r) (sym (sym d.2 ∙ ap nu (ap (λ b. if b then hop l i else lead l i) f ∙ hops))) (again (nu k) (inl refl))

      at-number : (b : Bool) → keep i ≡ b → IsLive m new_shape r (nu i)
      at-number true s = stay s
      at-number false s = gone s (turns l i) refl

      by : (b : Bool) → turns l i ≡ b → At i t → IsLive m new_shape r t
      by b f (inl z) = subst (IsLive m new_shape r) (sym z) (at-number (keep i) refl)
      by b f (inr z) = subst (IsLive m new_shape r) (sym z.2) (again (nu (lead l i)) (ahead z.1))

  -- over another node
  over-plain : (i k : ℕ) (n : Node) (r : Reg) → slice_get l.nodes i ≡ Some n → is_jump n.op ≡ false → IsSuccessor l shape i k → is_written n r ≡ false → ((u : ℕ) → At k u → IsLive m new_shape r u) → IsLive m new_shape r (nu i)
  over-plain i k n r e h c w again = by (way_of n.op) refl (subst (λ (x : Node). GoesBy l shape i x (way_of x.op) k) (same_Some c.node n (sym c.here ∙ e)) c.goes)
    where
      s : keep i ≡ true
      s = plain-stays i n e h

      on : (v : Way) (t : ℕ) → way_of n.op ≡ v → GoesBy m new_shape (nu i) (new i n) v t → IsLive m new_shape r t → IsLive m new_shape r (nu i)
      on v t z g x = kept i k t n r e s w (subst (λ (y : Way). GoesBy m new_shape (nu i) (new i n) y t) (sym z) g) x

      next : k ≡ i + 1 → (nu k ≡ nu i + 1) × (nu k < length m.nodes)
      next z = (ap nu (z ∙ add-one i) ∙ number-stays keep i s, live-inside m new_shape r (nu k) (again (nu k) (inl refl)))

      by : (v : Way) → way_of n.op ≡ v → GoesBy l shape i n v k → IsLive m new_shape r (nu i)
      by Next z g = on Next (nu k) z (next g.0) (again (nu k) (inl refl))
      by Jump z g = absurd (no (sym (way-jumps n.op z) ∙ h))
      by Either z (inl g) = let d = led i k n e g in on Either d.to z (inl d.target) (again d.to d.lands)
      by Either z (inr g) = on Either (nu k) z (inr (next g.0)) (again (nu k) (inl refl))
      by Taken z g = on Taken (nu k) z record {
        label = g.label;
        taken = ap (λ ts. slice_index_or ts g.label false) et ∙ g.taken;
        place = slice_get-map (moved_place nu) l.places g.label ∙ ap (option_map (moved_place nu)) g.place;
        function = nu g.function;
        here = home-moved l keep targets (threads-rewrite l is.accepted formed targets are) i n e (let q = slice_get_within l.nodes i n e in omega arith) s ∙ ap (option_map nu) g.here;
        there = inside-moved l keep targets (threads-rewrite l is.accepted formed targets are) is.accepted k g.function g.there g.behind;
        behind = number-lt keep g.function k g.behind (entry-stays l keep targets (threads-rewrite l is.accepted formed targets are) is.accepted k g.function g.there);
      } (again (nu k) (inl refl))
      by Leave z g = absurd g

  pub live-moved : (r : Reg) (i : ℕ) → IsLive l shape r i → (t : ℕ) → Lands l (threaded l) i t → IsLive (rewritten l (goals.stays l) targets) new_shape r t
  live-moved r i (live.read_here j n e rd) t lands = by (is_jump n.op) refl
    where
      by : (b : Bool) → is_jump n.op ≡ b → IsLive m new_shape r t
      by true h = absurd (no (sym rd ∙ jump-reads n r h))
      by false h = subst (IsLive m new_shape r) (sym (plain-lands i t n e h lands)) (live.read_here (nu i) (new i n) (stands l keep targets i n e (plain-stays i n e h)) (new-reads i n e r ∙ rd))
  live-moved r i (live.kept_to j k n e w c x) t lands = by (is_jump n.op) refl (λ u z. live-moved r k x u z)
    where
      by : (b : Bool) → is_jump n.op ≡ b → ((u : ℕ) → At k u → IsLive m new_shape r u) → IsLive m new_shape r t
      by false h again = subst (IsLive m new_shape r) (sym (plain-lands i t n e h lands)) (over-plain i k n r e h c w again)
      by true h again = over-jump i k t n r e h (subst (λ (v : Way). GoesBy l shape i n v k) (jump-way n.op h) (subst (λ (y : Node). GoesBy l shape i y (way_of y.op) k) (same_Some c.node n (sym c.here ∙ e)) c.goes)) w lands again

  pub threads-no-dead : HasNoDeadButMoves l shape → HasNoDeadButMoves (rewritten l (goals.stays l) targets) new_shape
  threads-no-dead all j n e d mv =
      let o = comes-from keep l j (let count = new-count l keep targets in let lt = slice_get_within m.nodes j n e in omega arith) in
      let one : n ≡ new o.index o.node = same_Some n (new o.index o.node) (sym e ∙ ap (slice_get m.nodes) (sym o.number) ∙ stands l keep targets o.index o.node o.here o.kept) in
      let d' : defines o.node.op ≡ true = ap defines (sym (same-op (targets o.index) o.node)) ∙ ap (λ (x : Node). defines x.op) (sym one) ∙ d in
      let same : n ≡ o.node = one ∙ same-node l is.accepted formed targets are o.index o.node o.here (no-target-defines o.node.op d') in
      let u = all o.index o.node o.here d' (ap (λ (x : Node). is_movr x.op) (sym same) ∙ mv) in
      let next = next-only l shape o.index u.live.next o.node o.here d' u.live.successor in
      let x = live-moved u.register u.live.next u.live.live (nu u.live.next) (inl refl) in
      let number : nu u.live.next ≡ j + 1 = ap nu (next ∙ add-one o.index) ∙ number-stays keep o.index o.kept ∙ ap (λ i. i + 1) o.number in
      record {
        register = u.register;
        written = ap (λ (y : Node). is_written y u.register) same ∙ u.written;
        live = record {
          next = nu u.live.next;
          successor = record { node = n; here = e; goes = subst (λ (v : Way). GoesBy m new_shape j n v (nu u.live.next)) (sym (ap (λ (y : Node). way_of y.op) same ∙ next-by-defining o.node.op d')) (number, live-inside m new_shape u.register (nu u.live.next) x) };
          live = x;
        };
      }

pub threads-keep-no-dead : ThreadsKeepNoDead
threads-keep-no-dead l shape new_shape targets is formed are et all = threads-no-dead l shape new_shape targets is formed are et all
