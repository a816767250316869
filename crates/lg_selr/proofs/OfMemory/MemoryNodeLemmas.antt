-- Loads, stores and nodes that read and pass arguments are carried: RV64's code is that of a target.
use Rattle.std.proofs.Common.{◌≡◌, ◌≢◌, ℕ, ◌≤◌, inl, inr, Bool, true, false, List, [], ◌∷◌, refl, sym, ap, ◌∙◌, arith, subst, length}
use Rattle.std.specs.Prelude.{◌==◌, ◌||◌, ◌&&◌, if◌then◌else◌, slice_index_or}
use Rattle.std.specs.List.{list_any}
use Rattle.std.proofs.lemmas.Bool.{or_left}
use Rattle.lg_base.specs.declared.target.Target.TheVariants.{Riscv64}
use Rattle.lg_carry.specs.Spills.{spilled}
use Rattle.lg_selr_values.specs.Processor.RvComputers.{rv_scratch}
use Rattle.lg_selr_values.specs.Processor.RvRows.{rv_rows}
use Rattle.lg_selr_values.proofs.OfProcessor.IsaLemmas.{is-isa}
use Rattle.lg_live.specs.Registers.{is_same}
use Rattle.lg_live.specs.Uses.{is_for, is_register, names}
use Rattle.lg_live.specs.declared.uses.Access.{Access}
use Rattle.lg_live.specs.declared.uses.Access.TheVariants as access
use Rattle.lg_meaning.specs.Steps.{operand_at, stored_operand}
use Rattle.lg_op.specs.Forms.{admit, forms_of, address_forms, store_forms}
use Rattle.lg_op.specs.declared.form.Form.{Form}
use Rattle.lg_op.specs.declared.form.Form.TheVariants as form
use Rattle.lg_op.specs.declared.node.Node.{Node}
use Rattle.lg_op.specs.declared.op.Addressing.{Addressing}
use Rattle.lg_op.specs.declared.op.Addressing.TheVariants as addressing
use Rattle.lg_op.specs.declared.op.Op.TheVariants as op
use Rattle.lg_op.specs.declared.op.StoreType.{StoreType}
use Rattle.lg_op.specs.declared.op.ValueType.{ValueType}
use Rattle.lg_op.specs.declared.operand.Operand.{Operand}
use Rattle.lg_op.specs.declared.operand.Operand.TheVariants as operand
use Rattle.lg_op.specs.declared.operand.Reg.{Reg}
use Rattle.lg_op.specs.declared.operand.Reg.TheVariants.{Fp}
use Rattle.lg_op.specs.Operators.{width, store_width}
use Rattle.lg_rv.specs.Spelling.{IsInstr}
use Rattle.lg_carry.specs.Memory.Accesses.{address_of}
use Rattle.lg_carry.specs.Memory.Operands.{named, is_label}
use Rattle.lg_carry.proofs.OfMemory.FormLemmas.{starts-written, starts-read, starts-number}
use Rattle.lg_carry.proofs.OfMemory.GetargLemmas.{arguments-carry}
use Rattle.lg_carry.proofs.OfMemory.MemoryNodeLemmas.{loads-with-temporaries-carry, stores-with-temporaries-carry}
use Rattle.lg_carry.proofs.OfMemory.PushLemmas.{pushes-carry}
use Rattle.lg_carry.proofs.OfMemory.VariableArgumentLemmas.{next-arguments-carry}
use Rattle.lg_carry.specs.Nodes.Isas.{IsIsa}
use Rattle.lg_carry.specs.Nodes.Straight.{is_taken, spoils}
use Rattle.lg_carry.proofs.OfNodes.RegisterLemmas.{same-self}
use Rattle.lg_selr.specs.Memory.Accesses.{access_needs, load_code, store_code}
use Rattle.lg_selr.specs.Memory.ArgumentCode.{rv_argument}
use Rattle.lg_selr.specs.Memory.MemoryNodes.{AccessesCarry, MemoryIsCarried}
use Rattle.lg_selr.specs.Memory.PushCode.{rv_push}
use Rattle.lg_selr.specs.Memory.VariableArgumentCode.{rv_next_argument}
use Rattle.lg_selr.proofs.OfMemory.ArgumentLemmas.{arguments-do, has-argument-code}
use Rattle.lg_selr.proofs.OfMemory.LoadLemmas.{IsFor, load-does-so, load-has-code}
use Rattle.lg_selr.proofs.OfMemory.PushLemmas.{pushes-do, has-push-code}
use Rattle.lg_selr.proofs.OfMemory.StoreLemmas.{store-does-so, store-has-code}
use Rattle.lg_selr.proofs.OfMemory.VariableArgumentLemmas.{next-arguments-do, has-next-argument-code}
use Rattle.lg_carry.specs.Values.Parts.{first_taken}
use Rattle.lg_selr_values.proofs.TemporaryLemmas.{IsOf, temporary-apart}
use Rattle.lg_temp.specs.Abis.{register_of}
use Rattle.lg_temp.specs.Choices.{AreFor}
use Rattle.lg_temp.specs.Chosen.{Around, around, is_named}
use Rattle.lg_temp.specs.declared.choice.Choice.{Choice}
use Rattle.lg_temp.specs.declared.choice.Choice.TheVariants.{Free, Own, Spill}
use Rattle.lg_temp.specs.declared.choice.Need.{Need}
use Rattle.lg_temp.specs.declared.choice.Need.TheVariants.{Any}

-- ---- the choices for an access
-- no need names a register, and there are few
record AreFewNeeds (needs : List Need) : Type 0 where
  few : length needs ≤ 3
  unnamed : (x : ℕ) → is_named needs x ≡ false

needs-few : (bytes : ℕ) → AreFewNeeds (access_needs bytes)
needs-few bytes = by (bytes == 1)
  where
    by : (b : Bool) → AreFewNeeds (if b then [] else Any ∷ [])
    by true = record { few = omega arith; unnamed = λ x. refl }
    by false = record { few = omega arith; unnamed = λ x. refl }

spilled-few : (a : Around) (bytes : ℕ) (choices : List Choice) → AreFor a (access_needs bytes) [] (access_needs bytes) choices → spilled choices ≤ 5
spilled-few a bytes choices are = by (bytes == 1) choices are
  where
    by : (b : Bool) (choices : List Choice) → AreFor a (if b then [] else Any ∷ []) [] (if b then [] else Any ∷ []) choices → spilled choices ≤ 5
    by true [] h = omega arith
    by true (choice ∷ choices) h = absurd h
    by false [] h = absurd h
    by false (choice ∷ next ∷ choices) h = absurd h.1
    by false (Own r ∷ []) h = absurd h.0
    by false (Free r ∷ []) h = omega arith
    by false (Spill r k ∷ []) h = omega arith

clash : {b : Bool} {A : Type 0} → b ≡ true → b ≡ false → A
clash e h = cc

-- where several bytes are accessed, the temporary is none of the registers of the node
temporary-for : (n : Node) (bytes : ℕ) (live : Reg → Bool) (staged : List Bool) (choices : List Choice) (r : Reg) → AreFor (around Riscv64 n live staged) (access_needs bytes) [] (access_needs bytes) choices → IsOf n r
    → (bytes == 1) ≡ false → IsFor (first_taken choices) (register_of Riscv64 r) (spoils rv_scratch choices)
temporary-for n bytes live staged choices r are of several =
    let m = temporary-apart n live staged choices (subst (λ b. AreFor (around Riscv64 n live staged) (if b then [] else Any ∷ []) [] (if b then [] else Any ∷ []) choices) several are) in
    record { stack = m.stack; nonzero = m.nonzero; link = m.link; apart = m.apart r of; free = or_left (is_taken choices (first_taken choices)) (rv_scratch (first_taken choices)) m.taken }

-- ---- the registers of the node
names-first : (a : Access) (f : Form) (fs : List Form) (d : Reg) (xs : List Operand) → is_for a f ≡ true → d ≢ Fp → names a (f ∷ fs) (operand.Reg d ∷ xs) d ≡ true
names-first a f fs d xs here named = or-last (names a fs xs d) (is_for a f) (is_same d d) here (same-self d named)
  where
    or-last : (x y z : Bool) → y ≡ true → z ≡ true → (x || (y && z)) ≡ true
    or-last true y z e h = refl
    or-last false y z e h = rw (e, h) refl

names-later : (a : Access) (f : Form) (fs : List Form) (x : Operand) (xs : List Operand) (r : Reg) → names a fs xs r ≡ true → names a (f ∷ fs) (x ∷ xs) r ≡ true
names-later a f fs x xs r h = or_left (names a fs xs r) (is_for a f && is_register r x) h

-- a load writes its first operand
load-is-of : (n : Node) (t : ValueType) (at : Addressing) → n.op ≡ op.Load t at → admit (form.Write ∷ address_forms at) n.operands ≡ true → IsOf n (named (operand_at n 0))
load-is-of n t at e formed =
    let d = starts-written (address_forms at) n.operands formed in
    let first : named (operand_at n 0) ≡ d.register = ap (λ xs. named (slice_index_or xs 0 (operand.Number 0))) d.is in
    let written : names access.Write (forms_of n.op) n.operands d.register ≡ true = (λ j. names access.Write (forms_of (e j)) (d.is j) d.register) ∙ names-first access.Write form.Write (address_forms at) d.register d.rest refl d.named in
    subst (IsOf n) (sym first) (λ ne. inl (or_left (names access.Write (forms_of n.op) n.operands d.register) _ written))

-- a store reads its last one
record EndsIn (at : Addressing) (xs : List Operand) : Type 0 where
  register : Reg
  is : named (slice_index_or xs (stored_operand at) (operand.Number 0)) ≡ register
  read : register ≢ Fp → names access.Read (store_forms at) xs register ≡ true

ends-in : (at : Addressing) (xs : List Operand) → admit (store_forms at) xs ≡ true → list_any is_label xs ≡ false → EndsIn at xs
ends-in addressing.Register xs e none =
    let a = starts-read (form.Read ∷ []) xs e in
    let b = starts-read [] a.rest a.admitted in
    let are : xs ≡ operand.Reg a.register ∷ operand.Reg b.register ∷ b.rest = a.is ∙ ap (λ ys. operand.Reg a.register ∷ ys) b.is in
    subst (EndsIn addressing.Register) (sym are) record { register = b.register; is = refl; read = λ ne. names-later access.Read form.Read (form.Read ∷ []) (operand.Reg a.register) (operand.Reg b.register ∷ b.rest) b.register (names-first access.Read form.Read [] b.register b.rest refl ne) }
ends-in addressing.Immediate xs e none =
    let v = starts-number (form.Read ∷ []) xs none e in
    let b = starts-read [] v.rest v.admitted in
    let are : xs ≡ v.constant ∷ operand.Reg b.register ∷ b.rest = v.is ∙ ap (λ ys. v.constant ∷ ys) b.is in
    subst (EndsIn addressing.Immediate) (sym are) record { register = b.register; is = refl; read = λ ne. names-later access.Read form.Immediate (form.Read ∷ []) v.constant (operand.Reg b.register ∷ b.rest) b.register (names-first access.Read form.Read [] b.register b.rest refl ne) }
ends-in addressing.RegisterRegister xs e none =
    let a = starts-read (form.Read ∷ form.Read ∷ []) xs e in
    let b = starts-read (form.Read ∷ []) a.rest a.admitted in
    let d = starts-read [] b.rest b.admitted in
    let are : xs ≡ operand.Reg a.register ∷ operand.Reg b.register ∷ operand.Reg d.register ∷ d.rest = a.is ∙ ap (λ ys. operand.Reg a.register ∷ ys) (b.is ∙ ap (λ ys. operand.Reg b.register ∷ ys) d.is) in
    subst (EndsIn addressing.RegisterRegister) (sym are) record {
      register = d.register;
      is = refl;
      read = λ ne. names-later access.Read form.Read (form.Read ∷ form.Read ∷ []) (operand.Reg a.register) (operand.Reg b.register ∷ operand.Reg d.register ∷ d.rest) d.register
          (names-later access.Read form.Read (form.Read ∷ []) (operand.Reg b.register) (operand.Reg d.register ∷ d.rest) d.register (names-first access.Read form.Read [] d.register d.rest refl ne));
    }
ends-in addressing.RegisterImmediate xs e none =
    let v = starts-number (form.Read ∷ form.Read ∷ []) xs none e in
    let b = starts-read (form.Read ∷ []) v.rest v.admitted in
    let d = starts-read [] b.rest b.admitted in
    let are : xs ≡ v.constant ∷ operand.Reg b.register ∷ operand.Reg d.register ∷ d.rest = v.is ∙ ap (λ ys. v.constant ∷ ys) (b.is ∙ ap (λ ys. operand.Reg b.register ∷ ys) d.is) in
    subst (EndsIn addressing.RegisterImmediate) (sym are) record {
      register = d.register;
      is = refl;
      read = λ ne. names-later access.Read form.Immediate (form.Read ∷ form.Read ∷ []) v.constant (operand.Reg b.register ∷ operand.Reg d.register ∷ d.rest) d.register
          (names-later access.Read form.Read (form.Read ∷ []) (operand.Reg b.register) (operand.Reg d.register ∷ d.rest) d.register (names-first access.Read form.Read [] d.register d.rest refl ne));
    }

store-is-of : (n : Node) (t : StoreType) (at : Addressing) → n.op ≡ op.Store t at → admit (store_forms at) n.operands ≡ true → list_any is_label n.operands ≡ false → IsOf n (named (operand_at n (stored_operand at)))
store-is-of n t at e formed none =
    let b = ends-in at n.operands formed none in
    subst (IsOf n) (sym b.is) (λ ne. inr (ap (λ o. names access.Read (forms_of o) n.operands b.register) e ∙ b.read ne))

-- ---- the nodes
module _ (code : List ℕ) (trash : ℕ) (isa : IsIsa (rv_rows code trash) rv_scratch IsInstr) where
  loads-carry : (t : ValueType) (at : Addressing) → AccessesCarry code trash (op.Load t at) (width t) (load_code t at)
  loads-carry t at c i n frame live staged choices e none words are pushes x is-frame k =
      let w = needs-few (width t) in
      let d = named (operand_at n 0) in
      let a = address_of at (operand_at n 1) (operand_at n 2) in
      let u = first_taken choices in
      let formed : admit (form.Write ∷ address_forms at) n.operands ≡ true = ap (λ o. admit (forms_of o) n.operands) (sym e) ∙ (x.formed n x.here).forms in
      loads-with-temporaries-carry (rv_rows code trash) rv_scratch IsInstr isa c i n t at frame live staged (access_needs (width t)) choices (load_code t at n u) e none words
      (λ y h. clash h (w.unnamed y)) w.few are pushes x is-frame k (load-has-code t (register_of Riscv64 d) u a)
      (load-does-so code trash isa.rows choices u frame t d a (spilled-few (around Riscv64 n live staged) (width t) choices are) (temporary-for n (width t) live staged choices d are (load-is-of n t at e formed)))

  stores-carry : (t : StoreType) (at : Addressing) → AccessesCarry code trash (op.Store t at) (store_width t) (store_code t at)
  stores-carry t at c i n frame live staged choices e none words are pushes x is-frame k =
      let w = needs-few (store_width t) in
      let b = named (operand_at n (stored_operand at)) in
      let a = address_of at (operand_at n 0) (operand_at n 1) in
      let u = first_taken choices in
      let formed : admit (store_forms at) n.operands ≡ true = ap (λ o. admit (forms_of o) n.operands) (sym e) ∙ (x.formed n x.here).forms in
      stores-with-temporaries-carry (rv_rows code trash) rv_scratch IsInstr isa c i n t at frame live staged (access_needs (store_width t)) choices (store_code t at n u) e none words
      (λ y h. clash h (w.unnamed y)) w.few are pushes x is-frame k (store-has-code t (register_of Riscv64 b) u a)
      (store-does-so code trash isa.rows choices u frame t a b (spilled-few (around Riscv64 n live staged) (store_width t) choices are) (temporary-for n (store_width t) live staged choices b are (store-is-of n t at e formed none)))

pub memory-is-carried : MemoryIsCarried
memory-is-carried code trash small bytes word =
    let isa = is-isa code trash small bytes word in record {
      loads = loads-carry code trash isa;
      stores = stores-carry code trash isa;
      arguments = arguments-carry (rv_rows code trash) rv_scratch IsInstr isa rv_argument (arguments-do code trash) (has-argument-code code trash);
      next_arguments = next-arguments-carry (rv_rows code trash) rv_scratch IsInstr isa rv_next_argument (next-arguments-do code trash) (has-next-argument-code code trash);
      pushes = pushes-carry (rv_rows code trash) rv_scratch IsInstr isa rv_push (pushes-do code trash) (has-push-code code trash);
    }
