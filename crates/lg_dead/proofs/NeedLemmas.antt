-- Steps of nodes that stay, from states that differ in registers that are not needed.
use Rattle.std.proofs.Common.{◌≡◌, ℕ, ◌+◌, ◌⊎◌, inl, inr, Bool, true, false, ◌&&◌, ◌||◌, Option, Some, None, List, [], ◌∷◌, refl, sym, ap, ◌∙◌, subst, ⊎_elim}
use Rattle.std.specs.Prelude.{nat_lt, slice_get}
use Rattle.std.proofs.lemmas.Bool.{or_left, or_right}
use Rattle.lg_op.specs.Forms.{forms_of}
use Rattle.lg_op.specs.Nodes.{InForm}
use Rattle.lg_op.specs.Operands.{number_of}
use Rattle.lg_op.specs.declared.node.Node.{Node}
use Rattle.lg_op.specs.declared.op.Op.{Op}
use Rattle.lg_op.specs.declared.op.Op.TheVariants as op
use Rattle.lg_op.specs.declared.op.ControlOp.TheVariants as control
use Rattle.lg_op.specs.declared.op.PlainOp.TheVariants as plain
use Rattle.lg_op.specs.declared.op.LastOperand.TheVariants as last_operand
use Rattle.lg_op.specs.declared.operand.Operand.{Operand}
use Rattle.lg_op.specs.declared.operand.Reg.{Reg}
use Rattle.lg_op.specs.declared.operand.Reg.TheVariants.{R0, R1, R2, V0, V1, V2, Fp}
use Rattle.lg_live.specs.declared.uses.Access.TheVariants as access
use Rattle.lg_live.specs.Uses.{names, is_call, is_written}
use Rattle.lg_node.specs.Nodes.{LabelledNodes}
use Rattle.lg_node.specs.Shapes.{TextShape, IsShapeOf, GoesBy, Way, Next, way_of}
use Rattle.lg_meaning.specs.Reaching.{is_return, Reaches}
use Rattle.lg_meaning.specs.States.{Frame, State, value}
use Rattle.lg_meaning.specs.Steps.{Outcome, Goes, Ends, Undefined, Text, back_to, operand_at, node_step}
use Rattle.lg_meaning.specs.Texts.{text, step_at, step}
use Rattle.lg_meaning.proofs.Outcomes.{OnGoes, need_on, on_result}
use Rattle.lg_meaning.proofs.ReachLemmas.{reaches}
use Rattle.lg_dead.specs.Near.{Holds, word_of, is_kept, FramesAlike, Near, Meets}
use Rattle.lg_dead.specs.Needs.{AreNeeds, AreNear, NearStepsMeet}
use Rattle.lg_dead.proofs.NearLemmas.{others-near, returns-near, and-false}

-- a call goes on to the next node
calls-next : (o : Op) → is_call o ≡ true → way_of o ≡ Next
calls-next (op.Control control.Call last) e = refl
calls-next (op.Control control.Finish last) e = refl
calls-next (op.Control o last) e = absurd (cc)
calls-next o e = absurd (cc)

call-writes : (o : Op) → is_call o ≡ true → (xs : List Operand) (r : Reg) → names access.Write (forms_of o) xs r ≡ false
call-writes (op.Control control.Call last_operand.Register) e [] r = refl
call-writes (op.Control control.Call last_operand.Register) e (x ∷ xs) r = refl
call-writes (op.Control control.Call last_operand.Immediate) e [] r = refl
call-writes (op.Control control.Call last_operand.Immediate) e (x ∷ xs) r = refl
call-writes (op.Control control.Finish last_operand.Register) e [] r = refl
call-writes (op.Control control.Finish last_operand.Register) e (x ∷ xs) r = refl
call-writes (op.Control control.Finish last_operand.Immediate) e [] r = refl
call-writes (op.Control control.Finish last_operand.Immediate) e (x ∷ xs) r = refl
call-writes o e xs r = absurd (cc)

not-small : (r : Reg) → is_kept r ≡ true → nat_lt (number_of r) 3 ≡ false
not-small V0 e = refl
not-small V1 e = refl
not-small V2 e = refl
not-small r e = cc

-- a return goes to the node of return
returns-back : (t : Text) (n : Node) (s : State) (o : Op) → is_return o ≡ true → OnGoes (λ u. u.at ≡ s.frame.back) (node_step t n o s)
returns-back t n s o e = by o e
  where
    left : (v : Option ℕ) (fs : List Frame) → OnGoes (λ u. u.at ≡ s.frame.back) (back_to s v fs)
    left v [] = tt
    left v (f ∷ fs) = refl

    by : (o : Op) → is_return o ≡ true → OnGoes (λ u. u.at ≡ s.frame.back) (node_step t n o s)
    by (op.Control control.Ret last) e = need_on (λ u. u.at ≡ s.frame.back) (value t.addresses s (operand_at n 0)) _ (λ v z. left (Some v) s.callers)
    by (op.Plain plain.Epilog) e = left None s.callers
    by (op.Plain plain.Ret) e = left None s.callers
    by o e = cc

no-words : (f : ℕ → Option ℕ) → ((k : ℕ) → f k ≡ None) → (r : Reg) → word_of f r ≡ None
no-words f h R0 = h 0
no-words f h R1 = h 1
no-words f h R2 = h 2
no-words f h V0 = h 3
no-words f h V1 = h 4
no-words f h V2 = h 5
no-words f h Fp = refl

or-cases : (b c : Bool) → (b || c) ≡ true → c ≡ false → b ≡ true
or-cases true c e f = refl
or-cases false c e f = let no : false ≡ true = sym f ∙ e in cc

or-of : (b c d : Bool) → b ≡ false → (c && d) ≡ false → (b || (c && d)) ≡ false
or-of true c d e f = cc
or-of false c d e f = f

module _ (needs : ℕ → Reg → Bool) (these : Reg → Bool) where
  -- where the registers that are needed at the new node are among these
  narrowed : (u v : State) → ((r : Reg) → needs u.at r ≡ true → (these r ≡ true) ⊎ (word_of u.regs r ≡ None)) → Near needs these u v → Near needs (needs u.at) u v
  narrowed u v h x = record { regs = x.regs; frame = x.frame; callers = x.callers; is = x.is; holds = λ r e. ⊎_elim (λ z. x.holds r z) (λ z. inl z) (h r e); top = x.top; below = x.below }

  narrow : (o p : Outcome) → ((u : State) (bytes : List ℕ) → o ≡ Goes u bytes → (r : Reg) → needs u.at r ≡ true → (these r ≡ true) ⊎ (word_of u.regs r ≡ None)) → Meets (Near needs these) o p → Meets (AreNear needs) o p
  narrow (Goes u bytes) (Goes v more) h x = (narrowed u v (h u bytes refl) x.0, x.1)
  narrow (Goes u bytes) _ h x = x
  narrow (Ends c) (Goes v more) h x = x
  narrow (Ends c) _ h x = x
  narrow Undefined p h x = tt

module _ (l : LabelledNodes) (shape : TextShape) (stays : ℕ → Bool) (needs : ℕ → Reg → Bool) (A : List ℕ) (n : Node) (is : IsShapeOf l shape) (are : AreNeeds l shape stays needs) (formed : InForm n) where
  abbrev t : Text
  t = text l shape A

  module _ (s : State) (regs saved : ℕ → Option ℕ) (callers : List Frame) (here : slice_get l.nodes s.at ≡ Some n) (keeps : stays s.at ≡ true)
      (top : (r : Reg) → needs s.frame.back r ≡ true → is_kept r ≡ true → Holds (word_of s.frame.saved r) (word_of saved r)) (below : FramesAlike needs s.callers callers)
      (now : (r : Reg) → needs s.at r ≡ true → Holds (word_of s.regs r) (word_of regs r)) where
    abbrev m : State
    m = record s { regs = regs; frame = record s.frame { saved = saved }; callers = callers }

    read-here : (q : Reg) → names access.Read (forms_of n.op) n.operands q ≡ true → needs s.at q ≡ true
    read-here q e = are.reads s.at n q here keeps e

    abbrev these : Reg → Bool
    these q = needs s.at q || is_written n q

    flows : (q : Reg) → these q ≡ true → names access.Write (forms_of n.op) n.operands q ≡ false → (is_call n.op && nat_lt (number_of q) 3) ≡ false → needs s.at q ≡ true
    flows q e w c = or-cases (needs s.at q) (is_written n q) e (or-of (names access.Write (forms_of n.op) n.operands q) (is_call n.op) (nat_lt (number_of q) 3) w c)

    -- after a call its caller's registers are needed only where they are before
    saves : is_call n.op ≡ true → (r : Reg) → needs (s.at + 1) r ≡ true → is_kept r ≡ true → needs s.at r ≡ true
    saves c r e k = are.passes s.at (s.at + 1) n r here record { node = n; here = here; goes = subst (λ (w : Way). GoesBy l shape s.at n w (s.at + 1)) (sym (calls-next n.op c)) (refl, are.inside (s.at + 1) r e) } e
        (or-of (names access.Write (forms_of n.op) n.operands r) (is_call n.op) (nat_lt (number_of r) 3) (call-writes n.op c n.operands r) (ap (λ b. is_call n.op && b) (not-small r k) ∙ and-false (is_call n.op)))

    goes-on : is_return n.op ≡ false → Meets (AreNear needs) (node_step t n n.op s) (node_step t n n.op m)
    goes-on k = narrow needs these (node_step t n n.op s) (node_step t n n.op m) to-these (others-near needs t n these s regs saved callers top below now formed.forms read-here flows saves k)
      where
        to-these : (u : State) (bytes : List ℕ) → node_step t n n.op s ≡ Goes u bytes → (r : Reg) → needs u.at r ≡ true → (these r ≡ true) ⊎ (word_of u.regs r ≡ None)
        to-these u bytes g r e = by (reaches l shape A s u n bytes is formed here k (ap (λ o. step_at t o s) here ∙ g) (are.inside u.at r e))
          where
            by : Reaches l shape s u → (these r ≡ true) ⊎ (word_of u.regs r ≡ None)
            by (inr none) = inr (no-words u.regs none r)
            by (inl succ) = inl (written (is_written n r) refl)
              where
                written : (b : Bool) → is_written n r ≡ b → these r ≡ true
                written true w = or_right (needs s.at r) (is_written n r) w
                written false w = or_left (needs s.at r) (is_written n r) (are.passes s.at u.at n r here succ e w)

    goes-back : is_return n.op ≡ true → Meets (AreNear needs) (node_step t n n.op s) (node_step t n n.op m)
    goes-back k = narrow needs (needs s.frame.back) (node_step t n n.op s) (node_step t n n.op m)
        (λ u bytes g r e. inl (subst (λ i. needs i r ≡ true) (on_result (λ u. u.at ≡ s.frame.back) (node_step t n n.op s) u bytes (returns-back t n s n.op k) g) e))
        (returns-near needs t n (needs s.frame.back) s regs saved callers top below now formed.forms read-here (λ q e. e) k)

    steps : Meets (AreNear needs) (node_step t n n.op s) (node_step t n n.op m)
    steps = by (is_return n.op) refl
      where
        by : (b : Bool) → is_return n.op ≡ b → Meets (AreNear needs) (node_step t n n.op s) (node_step t n n.op m)
        by true e = goes-back e
        by false e = goes-on e

  -- the states as they are
  pub meets-at : (s m : State) → slice_get l.nodes s.at ≡ Some n → stays s.at ≡ true → AreNear needs s m → Meets (AreNear needs) (step l shape A s) (step l shape A m)
  meets-at s m here keeps x =
      let closed : m ≡ record s { regs = x.regs; frame = record s.frame { saved = x.top.saved }; callers = x.callers } = x.is ∙ ap (λ (f : Frame). record s { regs = x.regs; frame = f; callers = x.callers }) x.top.is in
      subst (λ (y : State). Meets (AreNear needs) (step l shape A s) (step l shape A y)) (sym closed)
      (subst (λ o. Meets (AreNear needs) (step_at t o s) (step_at t o (record s { regs = x.regs; frame = record s.frame { saved = x.top.saved }; callers = x.callers }))) (sym here)
      (steps s x.regs x.top.saved x.callers here keeps x.top.holds x.below x.holds))

pub near-steps : NearStepsMeet
near-steps l shape stays needs A s m n is are here formed keeps x = meets-at l shape stays needs A n is are formed s m here keeps x
