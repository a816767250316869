-- Where nothing is known, only a `movi` makes something known.
use Rattle.std.proofs.Common.{◌≡◌, ℕ, Bool, true, false, ◌&&◌, List, [], ◌∷◌, Option, Some, None, refl, sym, ap, ◌∙◌}
use Rattle.std.specs.Prelude.{if◌then◌else◌}
use Rattle.std.specs.Option.{option_map}
use Rattle.std.proofs.lemmas.Bool.{and_parts}
use Rattle.lg_op.specs.Forms.{forms_of, admit, admits}
use Rattle.lg_op.specs.Nodes.{InForm}
use Rattle.lg_op.specs.Operators.{sets_carry, binary_value, unary_value}
use Rattle.lg_op.specs.declared.op.BinaryOp.{BinaryOp}
use Rattle.lg_op.specs.declared.op.LastOperand.{LastOperand}
use Rattle.lg_op.specs.declared.op.LastOperand.TheVariants as last_operand
use Rattle.lg_op.specs.declared.form.Form.TheVariants as form
use Rattle.lg_op.specs.declared.operand.Operand.TheVariants as operand
use Rattle.lg_op.specs.declared.node.Node.{Node}
use Rattle.lg_op.specs.declared.op.Op.{Op}
use Rattle.lg_op.specs.declared.op.Op.TheVariants as op
use Rattle.lg_op.specs.declared.op.PlainOp.TheVariants as plain
use Rattle.lg_op.specs.declared.operand.Operand.{Operand}
use Rattle.lg_op.specs.declared.operand.Reg.{Reg}
use Rattle.lg_live.specs.Uses.{is_written}
use Rattle.lg_dead.specs.declared.known.Known.{Known}
use Rattle.lg_dead.specs.Known.{number_in, both_known, made, last_known, folded_by, folded, is_movi, moved_number, or_else, none_known, known_after}
use Rattle.lg_dead.specs.declared.known.Moved.{Moved}
use Rattle.lg_dead.specs.Tables.{held_in, known_of, moved_to}
use Rattle.lg_live.specs.Registers.{is_same}
use Rattle.lg_live.specs.RegSets.{has}
use Rattle.lg_live.specs.declared.reg_set.RegSet.{RegSet}

nothing-moved : (o : Op) (xs : List Operand) (r : Reg) → is_movi o ≡ false → moved_number o xs r ≡ None
nothing-moved (op.Plain plain.Movi) xs r e = cc
nothing-moved (op.Plain o) xs r e = refl
nothing-moved o xs r e = refl

pick : (b : Bool) (k : Option ℕ) → k ≡ None → (if b then None else k) ≡ None
pick true k e = refl
pick false k e = e

pub none_behind : (k : Known) (n : Node) (r : Reg) → k.some ≡ false → is_movi n.op ≡ false → known_of k r ≡ known_after (known_of k) n r
none_behind k n r none e =
    here ∙ sym (ap (λ o. or_else o (if is_written n r then None else known_of k r)) (nothing-moved n.op n.operands r e) ∙ pick (is_written n r) (known_of k r) here)
  where
    here : known_of k r ≡ None
    here = ap (λ b. if b then held_in k r else None) none

-- ---- what is known after a node
or_if : (b : Bool) (v : ℕ) (k : Option ℕ) → (if b then Some v else k) ≡ or_else (if b then Some v else None) k
or_if true v k = refl
or_if false v k = refl

pub moved_in : (m : Moved) (o : Op) (xs : List Operand) (r : Reg) (old new : Option ℕ) → ((q : Reg) → moved_to (Some m) q ≡ moved_number o xs q)
    → new ≡ (if is_same m.into r then Some m.number else old) → new ≡ or_else (moved_number o xs r) old
moved_in m o xs r old new is e = e ∙ or_if (is_same m.into r) m.number old ∙ ap (λ x. or_else x old) (is r)

pub passed : (n : Node) (r : Reg) (written : RegSet) (old begun forgotten new : Option ℕ) → ((q : Reg) → has written q ≡ is_written n q) → begun ≡ old
    → forgotten ≡ (if has written r then None else begun) → new ≡ or_else (moved_number n.op n.operands r) forgotten
    → new ≡ or_else (moved_number n.op n.operands r) (if is_written n r then None else old)
passed n r written old begun forgotten new is same gone e =
    e ∙ ap (or_else (moved_number n.op n.operands r)) (gone ∙ ap (λ b. if b then None else begun) (is r) ∙ ap (λ k. if is_written n r then None else k) same)

-- and no node can be folded
none_in : (x : Operand) → admits form.Read x ≡ true → number_in none_known x ≡ None
none_in (operand.Number v) e = cc
none_in x e = refl

none_binary : (b : BinaryOp) (last : LastOperand) (d a y : Operand) → admits form.Read a ≡ true → made none_known (op.Binary b last) (d ∷ a ∷ y ∷ []) ≡ None
none_binary b last d a y e = by (sets_carry b)
  where
    by : (c : Bool) → (if c then None else both_known (number_in none_known a) (number_in none_known y) (binary_value b)) ≡ None
    by true = refl
    by false = ap (λ o. both_known o (number_in none_known y) (binary_value b)) (none_in a e)

none_made : (o : Op) (xs : List Operand) → admit (forms_of o) xs ≡ true → made none_known o xs ≡ None
none_made (op.Binary b last_operand.Register) (d ∷ a ∷ y ∷ []) h =
    none_binary b last_operand.Register d a y (and_parts (admits form.Read a) (admits form.Read y && true) (and_parts (admits form.Write d) (admits form.Read a && (admits form.Read y && true)) h).1).0
none_made (op.Binary b last_operand.Immediate) (d ∷ a ∷ y ∷ []) h =
    none_binary b last_operand.Immediate d a y
    (and_parts (admits form.Read a) (admits form.Immediate y && true) (and_parts (admits form.Write d) (admits form.Read a && (admits form.Immediate y && true)) h).1).0
none_made (op.Unary u) (d ∷ a ∷ []) h =
    ap (option_map (unary_value u)) (none_in a (and_parts (admits form.Read a) true (and_parts (admits form.Write d) (admits form.Read a && true) h).1).0)
none_made o xs h = refl

none_last : (o : Op) (xs : List Operand) → last_known none_known o xs ≡ None
none_last (op.Binary b last_operand.Register) (d ∷ a ∷ operand.Reg r ∷ []) = by (sets_carry b)
  where
    by : (c : Bool) → ◌≡◌ {A = Option ℕ} (if c then None else None) None
    by true = refl
    by false = refl
none_last (op.Branch c last_operand.Register) (t ∷ a ∷ operand.Reg r ∷ []) = refl
none_last (op.Branch c last_operand.Register) xs = refl
none_last (op.Branch c last_operand.Immediate) xs = refl
none_last o xs = refl

pub none_folded : (k : Known) (n : Node) → InForm n → k.some ≡ false → n ≡ folded (known_of k) n
none_folded k n h e =
    sym (ap (λ f. folded f n) same ∙ ap (λ a. folded_by n a (last_known none_known n.op n.operands)) (none_made n.op n.operands h.forms) ∙ ap (folded_by n None) (none_last n.op n.operands))
  where
    here : (r : Reg) → known_of k r ≡ none_known r
    here r = ap (λ b. if b then held_in k r else None) e

    same : known_of k ≡ none_known
    same = λ j. λ r. here r j
