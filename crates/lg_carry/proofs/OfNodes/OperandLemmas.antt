-- Operands: a register that is read is live before its node.
use Rattle.std.proofs.Common.{◌≡◌, ◌≢◌, ℕ, Bool, true, List, ◌∷◌, Some, ap, ◌∙◌}
use Rattle.std.specs.Prelude.{◌||◌, ◌&&◌, not}
use Rattle.lg_op.specs.declared.form.Form.{Form}
use Rattle.lg_op.specs.declared.node.Node.{Node}
use Rattle.lg_op.specs.declared.operand.Reg.{Reg}
use Rattle.lg_op.specs.declared.operand.Reg.TheVariants.{Fp}
use Rattle.lg_op.specs.declared.operand.Operand.{Operand}
use Rattle.lg_op.specs.declared.operand.Operand.TheVariants as operand
use Rattle.lg_live.specs.Registers.{is_same}
use Rattle.lg_live.specs.Uses.{is_for, is_register, names, is_read, is_written}
use Rattle.lg_live.specs.declared.uses.Access.{Access}
use Rattle.lg_op.specs.Operands.{number_of}
use Rattle.lg_meaning.specs.States.{State, value}
use Rattle.lg_carry.specs.NodeCode.{numbered, live_before}
use Rattle.lg_carry.proofs.OfNodes.RegisterLemmas.{same-self, numbered-at}
use Rattle.lg_carry.specs.Nodes.Immediates.{immediate}
use Rattle.lg_carry.proofs.SpillChoiceLemmas.{or-true}

-- a register is named by an operand at a place of its access
pub named-here : (m : Access) (f : Form) (fs : List Form) (a : Reg) (xs : List Operand) → is_for m f ≡ true → a ≢ Fp → names m (f ∷ fs) (operand.Reg a ∷ xs) a ≡ true
named-here m f fs a xs h ne = ap (λ z. names m fs xs a || (z && is_same a a)) h ∙ ap (λ z. names m fs xs a || z) (same-self a ne) ∙ or-true (names m fs xs a)

pub named-later : (m : Access) (f : Form) (fs : List Form) (a : Reg) (x : Operand) (xs : List Operand) → names m fs xs a ≡ true → names m (f ∷ fs) (x ∷ xs) a ≡ true
named-later m f fs a x xs h = ap (λ z. z || (is_for m f && is_register a x)) h

-- a register that is read is live before the node
pub read-is-live : (n : Node) (S : ℕ → Bool) (a : Reg) → (a ≢ Fp → is_read n a ≡ true) → a ≢ Fp → live_before n S (number_of a) ≡ true
read-is-live n S a h ne = ap (λ z. z || (S (number_of a) && not (numbered (is_written n) (number_of a)))) (numbered-at (is_read n) a ne ∙ h ne)

-- a word that denotes itself
pub immediate-value : (addresses : List ℕ) (s : State) (x : Operand) (v : ℕ) → immediate x ≡ Some v → value addresses s x ≡ Some v
immediate-value addresses s (operand.Number k) v e = e
immediate-value addresses s (operand.Host name) v e = e
immediate-value addresses s _ v e = cc
