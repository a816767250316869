-- Nodes with the addresses of data labels in the labels' places read, write and choose as they did, and what is live stays what carrying asks for.
use Rattle.std.proofs.Common.{◌≡◌, ℕ, ◌+◌, Bool, List, [], ◌∷◌, Option, Some, None, refl, sym, ap, ◌∙◌}
use Rattle.std.specs.Prelude.{◌||◌, ◌&&◌, not, nat_lt, map, slice_get, slice_index}
use Rattle.std.specs.Option.{option_map}
use Rattle.std.proofs.lemmas.Option.{slice_get-map, same_Some}
use Rattle.lg_base.specs.Parts.{data_base}
use Rattle.lg_base.specs.declared.target.Target.{Target}
use Rattle.lg_carry.specs.FinalNodes.{Code}
use Rattle.lg_carry.specs.NodeCode.{numbered, live_before, IsLiveness}
use Rattle.lg_op.specs.Operands.{number_of}
use Rattle.lg_live.specs.Uses.{is_for, is_register, names, is_call, is_read, is_written}
use Rattle.lg_live.specs.declared.uses.Access.{Access}
use Rattle.lg_live.specs.declared.uses.Access.TheVariants as access
use Rattle.lg_meaning.specs.Addresses.{IsBound}
use Rattle.lg_meaning.specs.Fits as fit
use Rattle.lg_meaning.specs.Reaching.{is_return}
use Rattle.lg_node.specs.declared.place.Place.{Place}
use Rattle.lg_node.specs.declared.place.Place.TheVariants as place
use Rattle.lg_node.specs.Labels.{place_of}
use Rattle.lg_node.specs.Nodes.{LabelledNodes}
use Rattle.lg_node.specs.Shapes.{TextShape}
use Rattle.lg_op.specs.Forms.{forms_of}
use Rattle.lg_op.specs.declared.form.Form.{Form}
use Rattle.lg_op.specs.declared.node.Node.{Node}
use Rattle.lg_op.specs.declared.op.Op.{Op}
use Rattle.lg_op.specs.declared.op.Op.TheVariants as op
use Rattle.lg_op.specs.declared.op.PlainOp.TheVariants as plain
use Rattle.lg_op.specs.declared.operand.Label.{Label}
use Rattle.lg_op.specs.declared.operand.Operand.{Operand}
use Rattle.lg_op.specs.declared.operand.Operand.TheVariants as operand
use Rattle.lg_op.specs.declared.operand.Reg.{Reg}
use Rattle.lg_temp.specs.Chosen.{around, choices_of}
use Rattle.lg_temp.specs.declared.choice.Need.{Need}
use Rattle.lg_asm.specs.Resolved.{placed, resolved, resolved_operands, resolved_node, resolved_text}
use Rattle.lg_asm.proofs.StepLemmas.{step-same}

module _ (places : List (Option Place)) where
  -- ---- registers that operands name
  placed-names : (p : Option Place) (l : Label) (r : Reg) → is_register r (placed p (operand.Label l)) ≡ is_register r (operand.Label l)
  placed-names (Some (place.Image k)) l r = refl
  placed-names p l r = refl

  register-same : (x : Operand) (r : Reg) → is_register r (resolved places x) ≡ is_register r x
  register-same (operand.Label l) r = placed-names (place_of places l) l r
  register-same x r = refl

  map-names : (a : Access) (fs : List Form) (xs : List Operand) (r : Reg) → names a fs (map (resolved places) xs) r ≡ names a fs xs r
  map-names a [] xs r = refl
  map-names a (f ∷ fs) [] r = refl
  map-names a (f ∷ fs) (x ∷ xs) r =
      ap (λ b. b || (is_for a f && is_register r (resolved places x))) (map-names a fs xs r) ∙ ap (λ b. names a fs xs r || (is_for a f && b)) (register-same x r)

  names-same : (a : Access) (o : Op) (xs : List Operand) (r : Reg) → names a (forms_of o) (resolved_operands places o xs) r ≡ names a (forms_of o) xs r
  names-same a (op.Plain plain.Allocai) xs r = refl
  names-same a o xs r = map-names a (forms_of o) xs r

  pub reads-same : (n : Node) → is_read (resolved_node places n) ≡ is_read n
  reads-same n = λ i r. names-same access.Read n.op n.operands r i

  pub writes-same : (n : Node) → is_written (resolved_node places n) ≡ is_written n
  writes-same n = λ i r. names-same access.Write n.op n.operands r i || (is_call n.op && nat_lt (number_of r) 3)

  -- ---- so their choices are the same
  pub choices-same : (target : Target) (n : Node) (live : Reg → Bool) (staged : List Bool) (needs : List Need)
      → choices_of (around target (resolved_node places n) live staged) needs ≡ choices_of (around target n live staged) needs
  choices-same target n live staged needs =
      λ i. choices_of (record { target = target; reads = reads-same n i; writes = writes-same n i; live = live; staged = staged }) needs

  before-same : (n : Node) (S : ℕ → Bool) → live_before (resolved_node places n) S ≡ live_before n S
  before-same n S = λ i r. numbered (reads-same n i) r || (S r && not (numbered (writes-same n i) r))

  -- a node of the new list comes from one of the old
  pub node-back : (o : Option Node) (m : Node) → option_map (resolved_node places) o ≡ Some m → (n : Node) × (o ≡ Some n) × (resolved_node places n ≡ m)
  node-back (Some n) m e = (n, refl, same_Some (resolved_node places n) m e)
  node-back None m e = cc

-- ---- what is live
module _ (l : LabelledNodes) (shape : TextShape) (addresses : List ℕ) (at : ℕ → ℕ) (saved : ℕ) (outward : ℕ → Bool) (first : ℕ) (outer : ℕ → ℕ) (images : (x k : ℕ) → IsBound l x (place.Image k) → slice_index addresses x ≡ data_base + k) where
  abbrev old : Code
  old = record { nodes = l; shape = shape; addresses = addresses; place = at; saved = saved; outward = outward; first = first; outer = outer }

  abbrev new : Code
  new = record { nodes = resolved_text l; shape = shape; addresses = addresses; place = at; saved = saved; outward = outward; first = first; outer = outer }

  back : (i : ℕ) (m : Node) → slice_get new.nodes.nodes i ≡ Some m → (n : Node) × (slice_get l.nodes i ≡ Some n) × (resolved_node l.places n ≡ m)
  back i m e = node-back l.places (slice_get l.nodes i) m (sym (slice_get-map (resolved_node l.places) l.nodes i) ∙ e)

  pub resolved-liveness : (before behind : ℕ → ℕ → Bool) → IsLiveness old before behind → IsLiveness new before behind
  resolved-liveness before behind k = record {
    reads = λ i m e r h live.
        let n = back i m e in
        k.reads i n.0 n.1 r h (ap (λ f. f r) (sym (before-same l.places n.0 (behind i))) ∙ (ap (λ x. live_before x (behind i) r) n.2 ∙ live));
    goes = λ s t m bytes e is goes.
        let n = back s.at m e in
        k.goes s t n.0 bytes n.1 (ap (λ (x : Node). is_return x.op) n.2 ∙ is) (sym (step-same l shape addresses images s) ∙ goes);
    calls = λ i m e is. let n = back i m e in k.calls i n.0 n.1 (ap (λ (x : Node). fit.is_call x.op) n.2 ∙ is);
  }
