-- Steps of one text from states that differ in registers that are not needed.
use Rattle.std.proofs.Common.{◌≡◌, ℕ, zero, suc, ◌+◌, ◌-◌, ◌⊎◌, inl, inr, Bool, true, false, ◌&&◌, ◌||◌, Option, Some, None, List, [], ◌∷◌, ◌++◌, refl, sym, ap, ◌∙◌, subst}
use Rattle.std.specs.Prelude.{nat_lt, nat_le, if◌then◌else◌, slice_get, slice_index_or}
use Rattle.std.specs.Option.{option_and_then}
use Rattle.std.proofs.lemmas.Bool.{and_from, or_left, or_right}
use Rattle.lg_base.specs.Words.{add_words}
use Rattle.lg_base.specs.Spaces.{loaded, stored}
use Rattle.lg_base.specs.HostNames.{host_by_address}
use Rattle.lg_base.specs.declared.host_name.HostName.{HostName}
use Rattle.lg_host.specs.Host.{Host, Gives, Exits, memory, after, host_of}
use Rattle.lg_host.specs.Host as host
use Rattle.lg_op.specs.Forms.{forms_of, last_form, admit, admits}
use Rattle.lg_op.specs.Operands.{number_of}
use Rattle.lg_op.specs.declared.form.Form.{Form}
use Rattle.lg_op.specs.declared.form.Form.TheVariants as form
use Rattle.lg_op.specs.declared.node.Node.{Node}
use Rattle.lg_op.specs.declared.operand.Operand.{Operand}
use Rattle.lg_op.specs.declared.operand.Operand.TheVariants as operand
use Rattle.lg_op.specs.declared.operand.Reg.{Reg}
use Rattle.lg_op.specs.declared.operand.Reg.TheVariants.{R0, R1, R2, V0, V1, V2, Fp}
use Rattle.lg_op.specs.declared.op.Op.{Op}
use Rattle.lg_op.specs.declared.op.Op.TheVariants as op
use Rattle.lg_op.specs.declared.op.ControlOp.TheVariants as control
use Rattle.lg_op.specs.declared.op.PlainOp.TheVariants as plain
use Rattle.lg_op.specs.declared.op.LastOperand.{LastOperand}
use Rattle.lg_op.specs.declared.op.LastOperand.TheVariants as last_operand
use Rattle.lg_op.specs.declared.op.Addressing.{Addressing}
use Rattle.lg_op.specs.declared.op.Addressing.TheVariants as addressing
use Rattle.lg_op.specs.declared.op.ValueType.{ValueType}
use Rattle.lg_live.specs.declared.uses.Access.TheVariants as access
use Rattle.lg_live.specs.Uses.{is_for, is_register, names, is_call}
use Rattle.lg_node.specs.declared.function.Function.{Function}
use Rattle.lg_node.specs.Functions.{frame_of}
use Rattle.lg_cells.specs.Cells.{within}
use Rattle.lg_cells.specs.Memories.{writable}
use Rattle.lg_op.specs.declared.carry.Carry.TheVariants as carry
use Rattle.lg_op.specs.Operators.{binary_value, sets_carry, carry_in, value_with_carry, wide_value, unary_value, keeps_carry, holds, branch_sum_goes, branch_sum_value, width, extended_by_type, store_width}
use Rattle.lg_meaning.specs.Reaching.{is_return}
use Rattle.lg_meaning.specs.States.{Frame, State, reg, value, named, in_locals, in_any_locals, is_open}
use Rattle.lg_meaning.specs.Steps.{Outcome, Text, need, when, quiet, operand_at, to, on, on_with_carry, is_marked, with_word, with_reg, operate, branch, node_of_label, jump_target, read, address, sum_value, stored_operand, function_here, started, kept, called, enter, begun, back_to, leave, host_end, call_host, call_node, call_operand, entry_target, call_named, call_word, slot, node_step, bit_word}
use Rattle.lg_dead.specs.Near.{Meets}
use Rattle.lg_dead.specs.Near.{Holds, word_of, is_kept, SavesAlike, FramesAlike, Near}

-- ---- what a node reads and writes
-- an operand that is no place to write
abbrev takes : Form → Bool
takes form.Write = false
takes f = true

read-of : (f : Form) (q : Reg) → takes f ≡ true → admits f (operand.Reg q) ≡ true → is_for access.Read f ≡ true
read-of form.Read q t a = refl
read-of form.Update q t a = refl
read-of form.Write q t a = cc
read-of f q t a = cc

pub and-left : (b c : Bool) → (b && c) ≡ true → b ≡ true
and-left true c e = refl
and-left false c e = cc

and-right : (b c : Bool) → (b && c) ≡ true → c ≡ true
and-right true c e = e
and-right false c e = cc

-- a register that is at such a place is read
named-at : (fs : List Form) (xs : List Operand) (i : ℕ) (q : Reg) → admit fs xs ≡ true → takes (slice_index_or fs i form.Write) ≡ true → slice_index_or xs i (operand.Number 0) ≡ operand.Reg q → is_register q (operand.Reg q) ≡ true → names access.Read fs xs q ≡ true
named-at [] [] i q a t e r = cc
named-at [] (x ∷ xs) i q a t e r = cc
named-at (f ∷ fs) [] i q a t e r = cc
named-at (f ∷ fs) (x ∷ xs) zero q a t e r =
    or_right (names access.Read fs xs q) (is_for access.Read f && is_register q x)
    (and_from (is_for access.Read f) (is_register q x) (read-of f q t (ap (admits f) (sym e) ∙ and-left (admits f x) (admit fs xs) a)) (ap (is_register q) e ∙ r))
named-at (f ∷ fs) (x ∷ xs) (suc i) q a t e r = or_left (names access.Read fs xs q) (is_for access.Read f && is_register q x) (named-at fs xs i q (and-right (admits f x) (admit fs xs) a) t e r)

takes-last : (last : LastOperand) → takes (last_form last) ≡ true
takes-last last_operand.Register = refl
takes-last last_operand.Immediate = refl

-- a register that is written is first, or second
abbrev none-writes : List Form → Bool
none-writes [] = true
none-writes (f ∷ fs) = (if is_for access.Write f then false else true) && none-writes fs

unnamed : (fs : List Form) (xs : List Operand) (q : Reg) → none-writes fs ≡ true → names access.Write fs xs q ≡ false
unnamed [] xs q w = refl
unnamed (f ∷ fs) [] q w = refl
unnamed (f ∷ fs) (x ∷ xs) q w = by (is_for access.Write f) refl w (unnamed fs xs q)
  where
    by : (b : Bool) → is_for access.Write f ≡ b → ((if b then false else true) && none-writes fs) ≡ true → (none-writes fs ≡ true → names access.Write fs xs q ≡ false) → (names access.Write fs xs q || (is_for access.Write f && is_register q x)) ≡ false
    by true e w again = cc
    by false e w again = ap (λ b. names access.Write fs xs q || (b && is_register q x)) e ∙ ap (λ b. b || false) (again w)

first-unwritten : (fs : List Form) (xs : List Operand) (q : Reg) → none-writes fs ≡ true → is_register q (slice_index_or xs 0 (operand.Number 0)) ≡ false → names access.Write (form.Write ∷ fs) xs q ≡ false
first-unwritten fs [] q w e = refl
first-unwritten fs (x ∷ xs) q w e = ap (λ b. names access.Write fs xs q || b) e ∙ ap (λ b. b || false) (unnamed fs xs q w)

second-unwritten : (f : Form) (fs : List Form) (xs : List Operand) (q : Reg) → is_for access.Write f ≡ true → none-writes fs ≡ true → is_register q (slice_index_or xs 0 (operand.Number 0)) ≡ false
    → is_register q (slice_index_or xs 1 (operand.Number 0)) ≡ false → names access.Write (form.Write ∷ f ∷ fs) xs q ≡ false
second-unwritten f fs [] q t w e h = refl
second-unwritten f fs (x ∷ []) q t w e h = ap (λ b. false || b) e
second-unwritten f fs (x ∷ y ∷ xs) q t w e h =
    ap (λ b. (names access.Write fs xs q || (is_for access.Write f && is_register q y)) || b) e
    ∙ ap (λ b. (b || (is_for access.Write f && is_register q y)) || false) (unnamed fs xs q w)
    ∙ ap (λ b. (false || (b && is_register q y)) || false) t
    ∙ ap (λ b. (false || (true && b)) || false) h

-- ---- words
word-written : (f g : ℕ → Option ℕ) (d : Operand) (v : ℕ) (q : Reg) → (is_register q d ≡ false → Holds (word_of f q) (word_of g q))
    → Holds (word_of (with_word f (named d) v) q) (word_of (with_word g (named d) v) q)
word-written f g d v Fp h = inl refl
word-written f g (operand.Reg R0) v R0 h = inr refl
word-written f g (operand.Reg R1) v R1 h = inr refl
word-written f g (operand.Reg R2) v R2 h = inr refl
word-written f g (operand.Reg V0) v V0 h = inr refl
word-written f g (operand.Reg V1) v V1 h = inr refl
word-written f g (operand.Reg V2) v V2 h = inr refl
word-written f g d v q h = h refl

word-kept : (f g : ℕ → Option ℕ) (q : Reg) → (is_kept q ≡ true → Holds (word_of f q) (word_of g q)) → Holds (word_of (kept f) q) (word_of (kept g) q)
word-kept f g V0 h = h refl
word-kept f g V1 h = h refl
word-kept f g V2 h = h refl
word-kept f g _ h = inl refl

no-word : (g : ℕ → Option ℕ) (q : Reg) → Holds (word_of (λ r. None) q) (word_of g q)
no-word g R0 = inl refl
no-word g _ = inl refl

small : (q : Reg) → is_kept q ≡ true → nat_lt (number_of q) 3 ≡ false
small V0 e = refl
small V1 e = refl
small V2 e = refl
small q e = cc

pub and-false : (b : Bool) → (b && false) ≡ false
and-false true = refl
and-false false = refl

-- ---- outcomes
module _ (R : State → State → Type 0) where
  same-need : {A : Type 0} (o : Option A) (f g : A → Outcome) → ((v : A) → Meets R (f v) (g v)) → Meets R (need o f) (need o g)
  same-need None f g h = tt
  same-need (Some v) f g h = h v

  held : {A : Type 0} (o p : Option A) → (o ≡ None) ⊎ (p ≡ o) → (f g : A → Outcome) → ((v : A) → Meets R (f v) (g v)) → Meets R (need o f) (need p g)
  held o p (inl e) f g h = subst (λ x. Meets R (need x f) (need p g)) (sym e) tt
  held o p (inr e) f g h = subst (λ x. Meets R (need o f) (need x g)) (sym e) (same-need o f g h)

  where-true : (b c : Bool) → c ≡ b → (o p : Outcome) → Meets R o p → Meets R (when b o) (when c p)
  where-true b c e o p h = subst (λ x. Meets R (when b o) (when x p)) (sym e) (by b)
    where
      by : (b : Bool) → Meets R (when b o) (when b p)
      by true = h
      by false = tt

  either : (b : Bool) (x y x' y' : Outcome) → Meets R x x' → Meets R y y' → Meets R (if b then x else y) (if b then x' else y')
  either true x y x' y' h j = h
  either false x y x' y' h j = j

-- ---- the memory that is open
locals-near : (needs : ℕ → Reg → Bool) (fs gs : List Frame) → FramesAlike needs fs gs → (a : ℕ) → in_any_locals gs a ≡ in_any_locals fs a
locals-near needs [] [] h a = refl
locals-near needs [] (g ∷ gs) h a = absurd h
locals-near needs (f ∷ fs) [] h a = absurd h
locals-near needs (f ∷ fs) (g ∷ gs) h a = ap (λ (x : Frame). in_locals x a || in_any_locals gs a) h.0.is ∙ ap (λ b. in_locals f a || b) (locals-near needs fs gs h.1 a)

-- ---- one step
module _ (needs : ℕ → Reg → Bool) (t : Text) (n : Node) (S : Reg → Bool) (s : State) (regs saved : ℕ → Option ℕ) (callers : List Frame)
    (top : (r : Reg) → needs s.frame.back r ≡ true → is_kept r ≡ true → Holds (word_of s.frame.saved r) (word_of saved r)) (below : FramesAlike needs s.callers callers)
    (now : (r : Reg) → needs s.at r ≡ true → Holds (word_of s.regs r) (word_of regs r)) where
  abbrev m : State
  m = record s { regs = regs; frame = record s.frame { saved = saved }; callers = callers }

  abbrev R : State → State → Type 0
  R = Near needs S

  the-top : (f : Frame) → f.back ≡ s.frame.back → f.saved ≡ s.frame.saved → SavesAlike needs f (record f { saved = saved })
  the-top f b e = record { saved = saved; is = refl; holds = λ r z k. subst (λ (x : ℕ → Option ℕ). Holds (word_of x r) (word_of saved r)) (sym e) (top r (subst (λ i. needs i r ≡ true) b z) k) }

  near : (u : State) (g : ℕ → Option ℕ) (f : Frame) (cs : List Frame) → ((r : Reg) → S r ≡ true → Holds (word_of u.regs r) (word_of g r)) → SavesAlike needs u.frame f → FramesAlike needs u.callers cs
      → Near needs S u (record u { regs = g; frame = f; callers = cs })
  near u g f cs h a b = record { regs = g; frame = f; callers = cs; is = refl; holds = h; top = a; below = b }

  -- operands
  reg-near : (q : Reg) → (is_register q (operand.Reg q) ≡ true → needs s.at q ≡ true) → Holds (reg s q) (reg m q)
  reg-near R0 h = now R0 (h refl)
  reg-near R1 h = now R1 (h refl)
  reg-near R2 h = now R2 (h refl)
  reg-near V0 h = now V0 (h refl)
  reg-near V1 h = now V1 (h refl)
  reg-near V2 h = now V2 (h refl)
  reg-near Fp h = inr refl

  value-near : (A : List ℕ) (x : Operand) → ((q : Reg) → x ≡ operand.Reg q → is_register q (operand.Reg q) ≡ true → needs s.at q ≡ true) → Holds (value A s x) (value A m x)
  value-near A (operand.Reg q) h = reg-near q (h q refl)
  value-near A _ h = inr refl

  open-near : is_open m ≡ is_open s
  open-near = λ i. λ a. at a i
    where
      at : (a : ℕ) → is_open m a ≡ is_open s a
      at a = ap (λ b. within 0x20000000 s.data_size a || (within 0x28000000 s.args_size a || (within 0x30000000 (s.mark - 0x30000000) a || (in_locals s.frame a || b)))) (locals-near needs s.callers callers below a)

  -- where the operation is this one
  module _ (o : Op) (formed : admit (forms_of o) n.operands ≡ true) (reads : (q : Reg) → names access.Read (forms_of o) n.operands q ≡ true → needs s.at q ≡ true)
      (flow : (q : Reg) → S q ≡ true → names access.Write (forms_of o) n.operands q ≡ false → (is_call o && nat_lt (number_of q) 3) ≡ false → needs s.at q ≡ true) where
    at-input : (i : ℕ) → takes (slice_index_or (forms_of o) i form.Write) ≡ true → Holds (value t.addresses s (operand_at n i)) (value t.addresses m (operand_at n i))
    at-input i h = value-near t.addresses (operand_at n i) (λ q e r. reads q (named-at (forms_of o) n.operands i q formed h e r))

    -- what is not written is as it was
    unwritten : is_call o ≡ false → ((q : Reg) → names access.Write (forms_of o) n.operands q ≡ false) → (q : Reg) → S q ≡ true → Holds (word_of s.regs q) (word_of regs q)
    unwritten c w q e = now q (flow q e (w q) (ap (λ b. b && nat_lt (number_of q) 3) c))

    one : (fs : List Form) → forms_of o ≡ form.Write ∷ fs → none-writes fs ≡ true → is_call o ≡ false → (v : ℕ) (q : Reg) → S q ≡ true
        → Holds (word_of (with_word s.regs (named (operand_at n 0)) v) q) (word_of (with_word regs (named (operand_at n 0)) v) q)
    one fs f w c v q e = word-written s.regs regs (operand_at n 0) v q
        (λ z. now q (flow q e (ap (λ x. names access.Write x n.operands q) f ∙ first-unwritten fs n.operands q w z) (ap (λ b. b && nat_lt (number_of q) 3) c)))

    two : (g : Form) (fs : List Form) → forms_of o ≡ form.Write ∷ g ∷ fs → is_for access.Write g ≡ true → none-writes fs ≡ true → is_call o ≡ false → (v w : ℕ) (q : Reg) → S q ≡ true
        → Holds (word_of (with_word (with_word s.regs (named (operand_at n 0)) v) (named (operand_at n 1)) w) q) (word_of (with_word (with_word regs (named (operand_at n 0)) v) (named (operand_at n 1)) w) q)
    two g fs f a b c v w q e = word-written (with_word s.regs (named (operand_at n 0)) v) (with_word regs (named (operand_at n 0)) v) (operand_at n 1) w q
        (λ y. word-written s.regs regs (operand_at n 0) v q
        (λ z. now q (flow q e (ap (λ x. names access.Write x n.operands q) f ∙ second-unwritten g fs n.operands q a b z y) (ap (λ k. k && nat_lt (number_of q) 3) c))))

    fell : (v : ℕ) (fs : List Form) → forms_of o ≡ form.Write ∷ fs → none-writes fs ≡ true → is_call o ≡ false → Meets R (quiet (on (with_reg s (operand_at n 0) v))) (quiet (on (with_reg m (operand_at n 0) v)))
    fell v fs f w c = (near (on (with_reg s (operand_at n 0) v)) (with_word regs (named (operand_at n 0)) v) (record s.frame { saved = saved }) callers (one fs f w c v) (the-top s.frame refl refl) below, refl)

    fell-with-carry : (v : ℕ) (fs : List Form) → forms_of o ≡ form.Write ∷ fs → none-writes fs ≡ true → is_call o ≡ false → Meets R (quiet (on_with_carry (with_reg s (operand_at n 0) v))) (quiet (on_with_carry (with_reg m (operand_at n 0) v)))
    fell-with-carry v fs f w c = (near (on_with_carry (with_reg s (operand_at n 0) v)) (with_word regs (named (operand_at n 0)) v) (record s.frame { saved = saved }) callers (one fs f w c v) (the-top s.frame refl refl) below, refl)

    operated : (r : Option ℕ) (fs : List Form) → forms_of o ≡ form.Write ∷ fs → none-writes fs ≡ true → is_call o ≡ false → Meets R (operate s (operand_at n 0) r) (operate m (operand_at n 0) r)
    operated r fs f w c = same-need R r (λ v. quiet (on (with_reg s (operand_at n 0) v))) (λ v. quiet (on (with_reg m (operand_at n 0) v))) (λ v. fell v fs f w c)

    moved : (b : Bool) (v : ℕ) (fs : List Form) → forms_of o ≡ form.Write ∷ fs → none-writes fs ≡ true → is_call o ≡ false
        → Meets R (quiet (if b then on_with_carry (with_reg s (operand_at n 0) v) else on (with_reg s (operand_at n 0) v))) (quiet (if b then on_with_carry (with_reg m (operand_at n 0) v) else on (with_reg m (operand_at n 0) v)))
    moved true v fs f w c = fell-with-carry v fs f w c
    moved false v fs f w c = fell v fs f w c

    -- to a node, with the registers as they are
    went : (u : State) → u.regs ≡ s.regs → u.frame ≡ s.frame → u.callers ≡ s.callers → ((q : Reg) → names access.Write (forms_of o) n.operands q ≡ false) → is_call o ≡ false
        → Near needs S u (record u { regs = regs; frame = record u.frame { saved = saved }; callers = callers })
    went u er ef ec w c = near u regs (record u.frame { saved = saved }) callers
        (λ q e. subst (λ (x : ℕ → Option ℕ). Holds (word_of x q) (word_of regs q)) (sym er) (unwritten c w q e))
        (the-top u.frame (ap (λ (x : Frame). x.back) ef) (ap (λ (x : Frame). x.saved) ef))
        (subst (λ (x : List Frame). FramesAlike needs x callers) (sym ec) below)

    sum-near : (i : ℕ) → Holds (value t.addresses s (operand_at n i)) (value t.addresses m (operand_at n i)) → Holds (value t.addresses s (operand_at n (i + 1))) (value t.addresses m (operand_at n (i + 1)))
        → Holds (sum_value t.addresses s n i) (sum_value t.addresses m n i)
    sum-near i a b = by (value t.addresses s (operand_at n i)) (value t.addresses m (operand_at n i)) (value t.addresses s (operand_at n (i + 1))) (value t.addresses m (operand_at n (i + 1))) a b
      where
        sum : Option ℕ → Option ℕ → Option ℕ
        sum x y = option_and_then (λ a. option_and_then (λ b. Some (add_words a b)) y) x

        nothing : (x : Option ℕ) → sum x None ≡ None
        nothing None = refl
        nothing (Some x) = refl

        by : (x x' y y' : Option ℕ) → Holds x x' → Holds y y' → Holds (sum x y) (sum x' y')
        by x x' y y' (inl e) k = inl (ap (λ z. sum z y) e)
        by x x' y y' (inr e) (inl k) = inl (ap (sum x) k ∙ nothing x)
        by x x' y y' (inr e) (inr k) = inr (ap (λ z. sum z y') e ∙ ap (sum x) k)

    read-near : (a w : ℕ) → read m a w ≡ read s a w
    read-near a w = ap (λ g. if writable g a w then loaded s.mem a w else None) open-near

    load-at : (v : ValueType) (at : Addressing) → Holds (address t.addresses s at n 1) (address t.addresses m at n 1)
        → (fs : List Form) → forms_of o ≡ form.Write ∷ fs → none-writes fs ≡ true → is_call o ≡ false → Meets R (node_step t n (op.Load v at) s) (node_step t n (op.Load v at) m)
    load-at v at h fs f w c = held R _ _ h _ _ (λ a. held R _ _ (inr (read-near a (width v))) _ _ (λ x. fell-with-carry (extended_by_type v x) fs f w c))

    -- branches and jumps
    branched : (b : Bool) (u : State) (g : ℕ → Option ℕ) (x : Operand) → ((q : Reg) → S q ≡ true → Holds (word_of u.regs q) (word_of g q)) → u.at ≡ s.at → u.frame ≡ s.frame → u.callers ≡ s.callers
        → Meets R (branch b t.places u x) (branch b t.places (record u { regs = g; frame = record u.frame { saved = saved }; callers = callers }) x)
    branched b u g x h ea ef ec = (
      near (to u (if b then node_of_label t.places x else u.at + 1)) g (record u.frame { saved = saved }) callers h (the-top u.frame (ap (λ (x : Frame). x.back) ef) (ap (λ (x : Frame). x.saved) ef))
          (subst (λ (x : List Frame). FramesAlike needs x callers) (sym ec) below),
      refl,
    )

    -- calls
    module _ (call : is_call o ≡ true) (nothing : (q : Reg) → names access.Write (forms_of o) n.operands q ≡ false) (saves : (r : Reg) → needs (s.at + 1) r ≡ true → is_kept r ≡ true → needs s.at r ≡ true) where
      host-near : (h : Host) → Meets R (host_end s h) (host_end m h)
      host-near (Gives v changes mark bytes) = (
        record {
          regs = kept regs;
          frame = record s.frame { saved = saved };
          callers = callers;
          is = ap (λ g. record m { at = s.at + 1; regs = kept regs; carry = carry.Undefined; answer = Some v; pushed = []; variadic = None; mem = (after (memory s.mem g s.mark) changes mark).bytes; mark = mark }) open-near;
          holds = λ q e. word-kept s.regs regs q (λ k. now q (flow q e (nothing q) (ap (λ b. is_call o && b) (small q k) ∙ and-false (is_call o))));
          top = the-top s.frame refl refl;
          below = below;
        },
        refl,
      )
      host-near (Exits status) = refl
      host-near host.Undefined = tt

      call-host-near : (args : List ℕ) (name : HostName) → Meets R (call_host s args name) (call_host m args name)
      call-host-near args name = subst (λ h. Meets R (call_host s args name) (host_end m h)) (ap (λ g. host_of name args (is_marked s.variadic) (memory s.mem g s.mark)) (sym open-near)) (host-near (host_of name args (is_marked s.variadic) (memory s.mem (is_open s) s.mark)))

      enter-near : (args : List ℕ) (f : Function) → Meets R (enter s args f) (enter m args f)
      enter-near args f = where-true R (nat_le (0x3FF00010 + frame_of f) (s.frame.sp - s.frame.size)) (nat_le (0x3FF00010 + frame_of f) (s.frame.sp - s.frame.size)) refl
          (quiet (started (record s { frame = called s args; callers = s.frame ∷ s.callers }) f.entry)) (quiet (started (record m { frame = called m args; callers = m.frame ∷ m.callers }) f.entry)) (
            near (started (record s { frame = called s args; callers = s.frame ∷ s.callers }) f.entry) (λ r. None) (called m args) (m.frame ∷ m.callers) (λ q e. no-word (λ r. None) q)
                record { saved = regs; is = refl; holds = λ r z k. now r (saves r z k) } (the-top s.frame refl refl, below),
            refl,
          )

      call-node-near : (args : List ℕ) (k : ℕ) → Meets R (call_node t s args k) (call_node t m args k)
      call-node-near args k = same-need R (function_here t.functions k) (enter s args) (enter m args) (λ f. enter-near args f)

      call-operand-near : (args : List ℕ) (x : Operand) → Meets R (call_operand t s args x) (call_operand t m args x)
      call-operand-near args (operand.Host name) = call-host-near args name
      call-operand-near args (operand.Label x) = call-node-near args (node_of_label t.places (operand.Label x))
      call-operand-near args _ = call-node-near args 0

      call-named-near : (args : List ℕ) (w : ℕ) (h : Option HostName) → Meets R (call_named t s args w h) (call_named t m args w h)
      call-named-near args w (Some name) = call-host-near args name
      call-named-near args w None = same-need R (entry_target t w) (call_node t s args) (call_node t m args) (λ k. call-node-near args k)

      call-word-near : (args : List ℕ) → takes (slice_index_or (forms_of o) 0 form.Write) ≡ true → Meets R (need (value t.addresses s (operand_at n 0)) (λ w. call_word t s args w)) (need (value t.addresses m (operand_at n 0)) (λ w. call_word t m args w))
      call-word-near args e = held R _ _ (at-input 0 e) _ _ (λ w. call-named-near args w (host_by_address w))

  -- ---- returns
  leave-near : (v : Option ℕ) (fs gs : List Frame) → FramesAlike needs fs gs → ((q : Reg) → S q ≡ true → needs s.frame.back q ≡ true) → Meets R (back_to s v fs) (back_to m v gs)
  leave-near v [] [] h e = refl
  leave-near v [] (g ∷ gs) h e = absurd h
  leave-near v (f ∷ fs) [] h e = absurd h
  leave-near v (f ∷ fs) (g ∷ gs) h e = (
    record {
      regs = kept saved;
      frame = g;
      callers = gs;
      is = refl;
      holds = λ q z. word-kept s.frame.saved saved q (λ k. top q (e q z) k);
      top = h.0;
      below = h.1;
    },
    refl,
  )

  -- ---- the table, but for returns
  module _ (formed : admit (forms_of n.op) n.operands ≡ true) (reads : (q : Reg) → names access.Read (forms_of n.op) n.operands q ≡ true → needs s.at q ≡ true)
      (flow : (q : Reg) → S q ≡ true → names access.Write (forms_of n.op) n.operands q ≡ false → (is_call n.op && nat_lt (number_of q) 3) ≡ false → needs s.at q ≡ true)
      (saves : is_call n.op ≡ true → (r : Reg) → needs (s.at + 1) r ≡ true → is_kept r ≡ true → needs s.at r ≡ true) where
    forms-at : (o : Op) → n.op ≡ o → admit (forms_of o) n.operands ≡ true
    forms-at o e = subst (λ (x : Op). admit (forms_of x) n.operands ≡ true) e formed

    reads-at : (o : Op) → n.op ≡ o → (q : Reg) → names access.Read (forms_of o) n.operands q ≡ true → needs s.at q ≡ true
    reads-at o e = subst (λ (x : Op). (q : Reg) → names access.Read (forms_of x) n.operands q ≡ true → needs s.at q ≡ true) e reads

    flow-at : (o : Op) → n.op ≡ o → (q : Reg) → S q ≡ true → names access.Write (forms_of o) n.operands q ≡ false → (is_call o && nat_lt (number_of q) 3) ≡ false → needs s.at q ≡ true
    flow-at o e = subst (λ (x : Op). (q : Reg) → S q ≡ true → names access.Write (forms_of x) n.operands q ≡ false → (is_call x && nat_lt (number_of q) 3) ≡ false → needs s.at q ≡ true) e flow

    saves-at : (o : Op) → n.op ≡ o → is_call o ≡ true → (r : Reg) → needs (s.at + 1) r ≡ true → is_kept r ≡ true → needs s.at r ≡ true
    saves-at o e = subst (λ (x : Op). is_call x ≡ true → (r : Reg) → needs (s.at + 1) r ≡ true → is_kept r ≡ true → needs s.at r ≡ true) e saves

    table : (o : Op) → (n.op ≡ o) → is_return o ≡ false → Meets (Near needs S) (node_step t n o s) (node_step t n o (record s { regs = regs; frame = record s.frame { saved = saved }; callers = callers }))
    table (op.Binary b last) e k =
        let fs = form.Read ∷ last_form last ∷ [] in
        let w : none-writes fs ≡ true = last-reads last in
        let i = at-input (op.Binary b last) (forms-at _ e) (reads-at _ e) (flow-at _ e) in
        either R (sets_carry b) _ _ _ _
        (held R _ _ (i 1 refl) _ _ (λ x. held R _ _ (i 2 (takes-last last)) _ _ (λ y. same-need R (carry_in b s.carry) _ _ (λ bit.
        (near _ (with_word regs (named (operand_at n 0)) (value_with_carry b x y (bit_word bit))) (record s.frame { saved = saved }) callers (one (op.Binary b last) (forms-at _ e) (reads-at _ e) (flow-at _ e) fs refl w refl (value_with_carry b x y (bit_word bit))) (the-top s.frame refl refl) below, refl)))))
        (held R _ _ (i 1 refl) _ _ (λ x. held R _ _ (i 2 (takes-last last)) _ _ (λ y. operated (op.Binary b last) (forms-at _ e) (reads-at _ e) (flow-at _ e) (binary_value b x y) fs refl w refl)))
      where
        last-reads : (last : LastOperand) → none-writes (form.Read ∷ last_form last ∷ []) ≡ true
        last-reads last_operand.Register = refl
        last-reads last_operand.Immediate = refl
    table (op.Wide b last) e k =
        let i = at-input (op.Wide b last) (forms-at _ e) (reads-at _ e) (flow-at _ e) in
        held R _ _ (i 2 refl) _ _ (λ x. held R _ _ (i 3 (takes-last last)) _ _ (λ y. same-need R (wide_value b x y) _ _ (λ p. (
          near _ (with_word (with_word regs (named (operand_at n 0)) p.0) (named (operand_at n 1)) p.1) (record s.frame { saved = saved }) callers
              (two (op.Wide b last) (forms-at _ e) (reads-at _ e) (flow-at _ e) form.Write (form.Read ∷ last_form last ∷ []) refl refl (last-reads last) refl p.0 p.1) (the-top s.frame refl refl) below,
          refl,
        ))))
      where
        last-reads : (last : LastOperand) → none-writes (form.Read ∷ last_form last ∷ []) ≡ true
        last-reads last_operand.Register = refl
        last-reads last_operand.Immediate = refl
    table (op.Branch c last) e k =
        let i = at-input (op.Branch c last) (forms-at _ e) (reads-at _ e) (flow-at _ e) in
        held R _ _ (i 1 refl) _ _ (λ x. held R _ _ (i 2 (takes-last last)) _ _ (λ y.
        branched (op.Branch c last) (forms-at _ e) (reads-at _ e) (flow-at _ e) (holds c x y) s regs (operand_at n 0) (unwritten (op.Branch c last) (forms-at _ e) (reads-at _ e) (flow-at _ e) refl (λ q. unnamed (forms_of (op.Branch c last)) n.operands q (none last))) refl refl refl))
      where
        none : (last : LastOperand) → none-writes (form.Target ∷ form.Read ∷ last_form last ∷ []) ≡ true
        none last_operand.Register = refl
        none last_operand.Immediate = refl
    table (op.BranchSum b last) e k =
        let i = at-input (op.BranchSum b last) (forms-at _ e) (reads-at _ e) (flow-at _ e) in
        held R _ _ (i 1 refl) _ _ (λ x. held R _ _ (i 2 (takes-last last)) _ _ (λ y.
        branched (op.BranchSum b last) (forms-at _ e) (reads-at _ e) (flow-at _ e) (branch_sum_goes b x y) (with_reg s (operand_at n 1) (branch_sum_value b x y)) (with_word regs (named (operand_at n 1)) (branch_sum_value b x y)) (operand_at n 0)
        (λ q z. word-written s.regs regs (operand_at n 1) (branch_sum_value b x y) q (λ y. now q (flow-at (op.BranchSum b last) e q z (updated last n.operands q y) refl))) refl refl refl))
      where
        updated : (last : LastOperand) (xs : List Operand) (q : Reg) → is_register q (slice_index_or xs 1 (operand.Number 0)) ≡ false → names access.Write (form.Target ∷ form.Update ∷ last_form last ∷ []) xs q ≡ false
        updated last [] q h = refl
        updated last (x ∷ []) q h = refl
        updated last (x ∷ y ∷ xs) q h = ap (λ b. (names access.Write (last_form last ∷ []) xs q || b) || false) h ∙ ap (λ b. (b || false) || false) (unnamed (last_form last ∷ []) xs q (one-last last))
          where
            one-last : (last : LastOperand) → none-writes (last_form last ∷ []) ≡ true
            one-last last_operand.Register = refl
            one-last last_operand.Immediate = refl
    table (op.Control control.Jmp last_operand.Register) e k =
        let o = op.Control control.Jmp last_operand.Register in
        held R _ _ (at-input o (forms-at _ e) (reads-at _ e) (flow-at _ e) 0 refl) _ _ (λ w. same-need R (jump_target t s.at w) _ _ (λ k.
        (went o (forms-at _ e) (reads-at _ e) (flow-at _ e) (to s k) refl refl refl (λ q. unnamed (forms_of (op.Control control.Jmp last_operand.Register)) n.operands q refl) refl, refl)))
    table (op.Control control.Jmp last_operand.Immediate) e k =
        let o = op.Control control.Jmp last_operand.Immediate in
        branched o (forms-at _ e) (reads-at _ e) (flow-at _ e) true s regs (operand_at n 0) (unwritten o (forms-at _ e) (reads-at _ e) (flow-at _ e) refl (λ q. unnamed (forms_of (op.Control control.Jmp last_operand.Immediate)) n.operands q refl)) refl refl refl
    table (op.Control control.Call last_operand.Immediate) e k =
        let o = op.Control control.Call last_operand.Immediate in
        call-operand-near o (forms-at _ e) (reads-at _ e) (flow-at _ e) refl (λ q. unnamed (forms_of (op.Control control.Call last_operand.Immediate)) n.operands q refl) (saves-at o e refl) [] (operand_at n 0)
    table (op.Control control.Call last_operand.Register) e k =
        let o = op.Control control.Call last_operand.Register in
        call-word-near o (forms-at _ e) (reads-at _ e) (flow-at _ e) refl (λ q. unnamed (forms_of (op.Control control.Call last_operand.Register)) n.operands q refl) (saves-at o e refl) [] refl
    table (op.Control control.Finish last_operand.Immediate) e k =
        let o = op.Control control.Finish last_operand.Immediate in
        call-operand-near o (forms-at _ e) (reads-at _ e) (flow-at _ e) refl (λ q. unnamed (forms_of (op.Control control.Finish last_operand.Immediate)) n.operands q refl) (saves-at o e refl) s.pushed (operand_at n 0)
    table (op.Control control.Finish last_operand.Register) e k =
        let o = op.Control control.Finish last_operand.Register in
        call-word-near o (forms-at _ e) (reads-at _ e) (flow-at _ e) refl (λ q. unnamed (forms_of (op.Control control.Finish last_operand.Register)) n.operands q refl) (saves-at o e refl) s.pushed refl
    table (op.Control control.Pusharg last) e k = by last e
      where
        by : (last : LastOperand) → n.op ≡ op.Control control.Pusharg last → Meets R (node_step t n (op.Control control.Pusharg last) s) (node_step t n (op.Control control.Pusharg last) m)
        by last_operand.Register e =
            let o = op.Control control.Pusharg last_operand.Register in
            held R _ _ (at-input o (forms-at _ e) (reads-at _ e) (flow-at _ e) 0 refl) _ _ (λ v. (went o (forms-at _ e) (reads-at _ e) (flow-at _ e) (on (record s { pushed = s.pushed ++ v ∷ [] })) refl refl refl (λ q. unnamed (forms_of o) n.operands q refl) refl, refl))
        by last_operand.Immediate e =
            let o = op.Control control.Pusharg last_operand.Immediate in
            held R _ _ (at-input o (forms-at _ e) (reads-at _ e) (flow-at _ e) 0 refl) _ _ (λ v. (went o (forms-at _ e) (reads-at _ e) (flow-at _ e) (on (record s { pushed = s.pushed ++ v ∷ [] })) refl refl refl (λ q. unnamed (forms_of o) n.operands q refl) refl, refl))
    table (op.Control control.Ret last) e k = absurd (cc)
    table (op.Unary u) e k =
        held R _ _ (at-input (op.Unary u) (forms-at _ e) (reads-at _ e) (flow-at _ e) 1 refl) _ _ (λ a. moved (op.Unary u) (forms-at _ e) (reads-at _ e) (flow-at _ e) (keeps_carry u) (unary_value u a) (form.Read ∷ []) refl refl refl)
    table (op.Plain plain.Movi) e k =
        let o = op.Plain plain.Movi in
        held R _ _ (at-input o (forms-at _ e) (reads-at _ e) (flow-at _ e) 1 refl) _ _ (λ a. fell-with-carry o (forms-at _ e) (reads-at _ e) (flow-at _ e) a (form.Immediate ∷ []) refl refl refl)
    table (op.Plain plain.Prepare) e k = (went (op.Plain plain.Prepare) (forms-at _ e) (reads-at _ e) (flow-at _ e) (on (record s { pushed = []; variadic = Some false })) refl refl refl (λ q. unnamed (forms_of (op.Plain plain.Prepare)) n.operands q refl) refl, refl)
    table (op.Plain plain.Ellipsis) e k = (went (op.Plain plain.Ellipsis) (forms-at _ e) (reads-at _ e) (flow-at _ e) (on (record s { variadic = _ })) refl refl refl (λ q. unnamed (forms_of (op.Plain plain.Ellipsis)) n.operands q refl) refl, refl)
    table (op.Plain plain.Prolog) e k =
        let o = op.Plain plain.Prolog in
        same-need R (function_here t.functions s.at) _ _ (λ f. (
          near (on (begun s f)) regs (record s.frame { saved = saved; size = frame_of f; locals = f.locals }) callers (unwritten o (forms-at _ e) (reads-at _ e) (flow-at _ e) refl (λ q. unnamed (forms_of (op.Plain plain.Prolog)) n.operands q refl))
              record { saved = saved; is = refl; holds = top } below,
          refl,
        ))
    table (op.Plain plain.Epilog) e k = absurd (cc)
    table (op.Plain plain.Ret) e k = absurd (cc)
    table (op.Plain plain.VaStart) e k =
        let o = op.Plain plain.VaStart in
        held R _ _ (at-input o (forms-at _ e) (reads-at _ e) (flow-at _ e) 1 refl) _ _ (λ v. fell o (forms-at _ e) (reads-at _ e) (flow-at _ e) v (form.ArgumentCount ∷ []) refl refl refl)
    table (op.Plain plain.VaArg) e k =
        let o = op.Plain plain.VaArg in
        held R _ _ (at-input o (forms-at _ e) (reads-at _ e) (flow-at _ e) 1 refl) _ _ (λ i. same-need R (slice_get s.frame.args i) _ _ (λ v. (
          near _ (with_word (with_word regs (named (operand_at n 0)) v) (named (operand_at n 1)) (i + 1)) (record s.frame { saved = saved }) callers
              (two o (forms-at _ e) (reads-at _ e) (flow-at _ e) form.Update [] refl refl refl refl v (i + 1)) (the-top s.frame refl refl) below,
          refl,
        )))
    table (op.Plain plain.VaEnd) e k =
        let o = op.Plain plain.VaEnd in
        held R _ _ (at-input o (forms-at _ e) (reads-at _ e) (flow-at _ e) 0 refl) _ _ (λ i. (went o (forms-at _ e) (reads-at _ e) (flow-at _ e) (on s) refl refl refl (λ q. unnamed (forms_of (op.Plain plain.VaEnd)) n.operands q refl) refl, refl))
    table (op.Plain x) e k = (went (op.Plain x) (forms-at _ e) (reads-at _ e) (flow-at _ e) (on s) refl refl refl (λ q. unnamed (forms_of (op.Plain x)) n.operands q refl) refl, refl)
    table (op.Load v at) e k = by at e
      where
        by : (at : Addressing) → n.op ≡ op.Load v at → Meets R (node_step t n (op.Load v at) s) (node_step t n (op.Load v at) m)
        by addressing.Register e = let o = op.Load v addressing.Register in
            load-at o (forms-at _ e) (reads-at _ e) (flow-at _ e) v addressing.Register (at-input o (forms-at _ e) (reads-at _ e) (flow-at _ e) 1 refl) (form.Read ∷ []) refl refl refl
        by addressing.Immediate e = let o = op.Load v addressing.Immediate in
            load-at o (forms-at _ e) (reads-at _ e) (flow-at _ e) v addressing.Immediate (at-input o (forms-at _ e) (reads-at _ e) (flow-at _ e) 1 refl) (form.Immediate ∷ []) refl refl refl
        by addressing.RegisterRegister e = let o = op.Load v addressing.RegisterRegister in
            load-at o (forms-at _ e) (reads-at _ e) (flow-at _ e) v addressing.RegisterRegister (sum-near o (forms-at _ e) (reads-at _ e) (flow-at _ e) 1 (at-input o (forms-at _ e) (reads-at _ e) (flow-at _ e) 1 refl) (at-input o (forms-at _ e) (reads-at _ e) (flow-at _ e) 2 refl)) (form.Read ∷ form.Read ∷ []) refl refl refl
        by addressing.RegisterImmediate e = let o = op.Load v addressing.RegisterImmediate in
            load-at o (forms-at _ e) (reads-at _ e) (flow-at _ e) v addressing.RegisterImmediate (sum-near o (forms-at _ e) (reads-at _ e) (flow-at _ e) 1 (at-input o (forms-at _ e) (reads-at _ e) (flow-at _ e) 1 refl) (at-input o (forms-at _ e) (reads-at _ e) (flow-at _ e) 2 refl)) (form.Read ∷ form.Immediate ∷ []) refl refl refl
    table (op.Store v at) e k = by at e
      where
        stored-near : (at : Addressing) (o : n.op ≡ op.Store v at) → none-writes (forms_of (op.Store v at)) ≡ true → Holds (address t.addresses s at n 0) (address t.addresses m at n 0) → Holds (value t.addresses s (operand_at n (stored_operand at))) (value t.addresses m (operand_at n (stored_operand at)))
            → Meets R (node_step t n (op.Store v at) s) (node_step t n (op.Store v at) m)
        stored-near at e w a h = held R _ _ a _ _ (λ a. held R _ _ h _ _ (λ x. where-true R _ _ (ap (λ g. writable g a (store_width v)) open-near) _ _
            (went (op.Store v at) (forms-at _ e) (reads-at _ e) (flow-at _ e) (on_with_carry (record s { mem = stored s.mem a (store_width v) x })) refl refl refl (λ q. unnamed (forms_of (op.Store v at)) n.operands q w) refl, refl)))

        by : (at : Addressing) → n.op ≡ op.Store v at → Meets R (node_step t n (op.Store v at) s) (node_step t n (op.Store v at) m)
        by addressing.Register e = let i = at-input (op.Store v addressing.Register) (forms-at _ e) (reads-at _ e) (flow-at _ e) in stored-near addressing.Register e refl (i 0 refl) (i 1 refl)
        by addressing.Immediate e = let i = at-input (op.Store v addressing.Immediate) (forms-at _ e) (reads-at _ e) (flow-at _ e) in stored-near addressing.Immediate e refl (i 0 refl) (i 1 refl)
        by addressing.RegisterRegister e = let o = op.Store v addressing.RegisterRegister in let i = at-input o (forms-at _ e) (reads-at _ e) (flow-at _ e) in
            stored-near addressing.RegisterRegister e refl (sum-near o (forms-at _ e) (reads-at _ e) (flow-at _ e) 0 (i 0 refl) (i 1 refl)) (i 2 refl)
        by addressing.RegisterImmediate e = let o = op.Store v addressing.RegisterImmediate in let i = at-input o (forms-at _ e) (reads-at _ e) (flow-at _ e) in
            stored-near addressing.RegisterImmediate e refl (sum-near o (forms-at _ e) (reads-at _ e) (flow-at _ e) 0 (i 0 refl) (i 1 refl)) (i 2 refl)
    table (op.Retval v) e k = same-need R s.answer _ _ (λ x. operated (op.Retval v) (forms-at _ e) (reads-at _ e) (flow-at _ e) (Some (extended_by_type v x)) [] refl refl refl)
    table (op.Getarg v) e k = same-need R (slice_get s.frame.args (slot (operand_at n 1))) _ _ (λ x. operated (op.Getarg v) (forms-at _ e) (reads-at _ e) (flow-at _ e) (Some (extended_by_type v x)) (form.Argument ∷ []) refl refl refl)

    pub others-near : is_return n.op ≡ false → Meets (Near needs S) (node_step t n n.op s) (node_step t n n.op (record s { regs = regs; frame = record s.frame { saved = saved }; callers = callers }))
    others-near k = table n.op refl k

  -- ---- returns
  module _ (formed : admit (forms_of n.op) n.operands ≡ true) (reads : (q : Reg) → names access.Read (forms_of n.op) n.operands q ≡ true → needs s.at q ≡ true) (back : (q : Reg) → S q ≡ true → needs s.frame.back q ≡ true) where
    leaves : (v : Option ℕ) → Meets (Near needs S) (leave s v) (leave (record s { regs = regs; frame = record s.frame { saved = saved }; callers = callers }) v)
    leaves v = leave-near v s.callers callers below back

    returned : (o : Op) → n.op ≡ o → is_return o ≡ true → Meets (Near needs S) (node_step t n o s) (node_step t n o (record s { regs = regs; frame = record s.frame { saved = saved }; callers = callers }))
    returned (op.Control control.Ret last_operand.Register) e k =
        held (Near needs S) _ _ (value-near t.addresses (operand_at n 0) (λ q z r. reads q (ap (λ o. names access.Read (forms_of o) n.operands q) e ∙ named-at (form.Read ∷ []) n.operands 0 q (ap (λ o. admit (forms_of o) n.operands) (sym e) ∙ formed) refl z r))) _ _ (λ v. leaves (Some v))
    returned (op.Control control.Ret last_operand.Immediate) e k =
        held (Near needs S) _ _ (value-near t.addresses (operand_at n 0) (λ q z r. reads q (ap (λ o. names access.Read (forms_of o) n.operands q) e ∙ named-at (form.Immediate ∷ []) n.operands 0 q (ap (λ o. admit (forms_of o) n.operands) (sym e) ∙ formed) refl z r))) _ _ (λ v. leaves (Some v))
    returned (op.Plain plain.Epilog) e k = leaves None
    returned (op.Plain plain.Ret) e k = leaves None
    returned o e k = cc

    pub returns-near : is_return n.op ≡ true → Meets (Near needs S) (node_step t n n.op s) (node_step t n n.op (record s { regs = regs; frame = record s.frame { saved = saved }; callers = callers }))
    returns-near k = returned n.op refl k
