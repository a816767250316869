-- The temporary of a store: a register of the conventions, and none of those that the store reads.
use Rattle.std.proofs.Common.{◌≡◌, ◌≢◌, ℕ, ◌<◌, Bool, true, false, List, [], ◌∷◌, refl, sym, ap, ◌∙◌, arith, subst, length}
use Rattle.std.specs.Prelude.{◌==◌, ◌||◌, ◌&&◌, ◌≤◌, slice_index_or}
use Rattle.std.specs.List.{list_any}
use Rattle.std.proofs.lemmas.Bool.{or_left, or_parts}
use Rattle.lg_base.specs.declared.target.Target.TheVariants.{X86_64}
use Rattle.lg_live.specs.Registers.{is_same}
use Rattle.lg_live.specs.Uses.{is_read, is_written, is_for, is_register, names}
use Rattle.lg_live.specs.declared.uses.Access.TheVariants as access
use Rattle.lg_meaning.specs.Steps.{operand_at, stored_operand}
use Rattle.lg_op.specs.Forms.{admit, forms_of, store_forms}
use Rattle.lg_op.specs.Operands.{number_of}
use Rattle.lg_op.specs.declared.form.Form.{Form}
use Rattle.lg_op.specs.declared.form.Form.TheVariants as form
use Rattle.lg_op.specs.declared.node.Node.{Node}
use Rattle.lg_op.specs.declared.op.Addressing.{Addressing}
use Rattle.lg_op.specs.declared.op.Addressing.TheVariants as addressing
use Rattle.lg_op.specs.declared.op.Op.TheVariants as op
use Rattle.lg_op.specs.declared.op.StoreType.{StoreType}
use Rattle.lg_op.specs.declared.operand.Operand.{Operand}
use Rattle.lg_op.specs.declared.operand.Operand.TheVariants as operand
use Rattle.lg_op.specs.declared.operand.Reg.{Reg}
use Rattle.lg_op.specs.declared.operand.Reg.TheVariants.{R0, R1, R2, V0, V1, V2, Fp}
use Rattle.lg_carry.proofs.TemporariesApartLemmas.{none-stood-for, tried-spare}
use Rattle.lg_carry.specs.Spills.{spilled}
use Rattle.lg_carry.specs.Memory.Accesses.{Address, Base, Index, address_of}
use Rattle.lg_carry.specs.Memory.Operands.{named, is_label}
use Rattle.lg_carry.proofs.OfMemory.FormLemmas.{starts-read, starts-number}
use Rattle.lg_carry.specs.Nodes.Straight.{is_taken}
use Rattle.lg_carry.proofs.OfNodes.RegisterLemmas.{same-self, stands-for, number-few, numbered-at}
use Rattle.lg_carry.specs.Values.Parts.{first_taken}
use Rattle.lg_selx_values.specs.GoodItems.{Fine}
use Rattle.lg_selx.specs.Memory.Accesses.{indexes, store_needs}
use Rattle.lg_selx.specs.Memory.MemoryFits.{AreStoreChoices}
use Rattle.lg_temp.specs.Abis.{register_of}
use Rattle.lg_temp.specs.Choices.{IsTaken, AreFor}
use Rattle.lg_temp.specs.Chosen.{around, order, stands_in, is_named}
use Rattle.lg_temp.specs.declared.choice.Choice.{Choice}
use Rattle.lg_temp.specs.declared.choice.Choice.TheVariants.{Free, Own, Spill}
use Rattle.lg_temp.specs.declared.choice.Need.{Need}
use Rattle.lg_temp.specs.declared.choice.Need.TheVariants.{Any}

-- ---- registers that are tried
abbrev AllFine : List ℕ → Type 0
AllFine [] = Unit {0}
AllFine (r ∷ rs) = Fine r × AllFine rs

one-fine : (u : ℕ) (rs : List ℕ) → AllFine rs → list_any (λ x. x == u) rs ≡ true → Fine u
one-fine u [] fine e = cc
one-fine u (r ∷ rs) fine e = by (r == u) refl e (λ h. one-fine u rs fine.1 h)
  where
    by : (b : Bool) → (r == u) ≡ b → (b || list_any (λ x. x == u) rs) ≡ true → (list_any (λ x. x == u) rs ≡ true → Fine u) → Fine u
    by true is h again = let z : r ≡ u = grind (arith, is) in subst Fine z fine.0
    by false is h again = again h

pub tried-fine : (u : ℕ) → list_any (λ x. x == u) (order X86_64) ≡ true → Fine u
tried-fine u e =
    one-fine u (order X86_64)
    ((omega arith, refl), ((omega arith, refl), ((omega arith, refl), ((omega arith, refl), ((omega arith, refl), ((omega arith, refl), ((omega arith, refl), ((omega arith, refl), ((omega arith, refl), ((omega arith, refl), ((omega arith, refl), ((omega arith, refl), tt)))))))))))) e

-- ---- a temporary is none of the registers that the node reads
abbrev IsOf : Node → Reg → Type 0
IsOf n r = r ≢ Fp → is_read n r ≡ true

record IsTemporary (n : Node) (choices : List Choice) (u : ℕ) : Type 0 where
  fine : Fine u
  taken : is_taken choices u ≡ true
  stack : 4 ≢ u
  apart : (r : Reg) → IsOf n r → register_of X86_64 r ≢ u

same : (u : ℕ) (b : Bool) → ((u == u) || b) ≡ true
same u b = let e : (u == u) ≡ true = grind arith in ap (λ c. c || b) e

module _ (n : Node) (u : ℕ) where
  none-of : (r : Reg) → r ≢ Fp → stands_in X86_64 (is_read n) u ≡ false → IsOf n r → register_of X86_64 r ≢ u
  none-of r named read of e =
      none-stood-for X86_64 (is_read n) u read (number_of r) (number-few r named) (numbered-at (is_read n) r named ∙ of named) (sym (stands-for X86_64 r named) ∙ e)

  apart-from : (r : Reg) → 5 ≢ u → stands_in X86_64 (is_read n) u ≡ false → IsOf n r → register_of X86_64 r ≢ u
  apart-from Fp pointer read of = pointer
  apart-from R0 pointer read of = none-of R0 (λ z. cc) read of
  apart-from R1 pointer read of = none-of R1 (λ z. cc) read of
  apart-from R2 pointer read of = none-of R2 (λ z. cc) read of
  apart-from V0 pointer read of = none-of V0 (λ z. cc) read of
  apart-from V1 pointer read of = none-of V1 (λ z. cc) read of
  apart-from V2 pointer read of = none-of V2 (λ z. cc) read of

  tried-apart : (live : Reg → Bool) (staged : List Bool) (choices : List Choice) → IsTaken (around X86_64 n live staged) (Any ∷ []) [] u → is_taken choices u ≡ true
      → IsTemporary n choices u
  tried-apart live staged choices m taken =
      let own = or_parts (stands_in X86_64 (is_read n) u) (stands_in X86_64 (is_written n) u) m.own in
      let spare = tried-spare X86_64 u m.tried in
      record { fine = tried-fine u m.tried; taken = taken; stack = spare.stack; apart = λ r of. apart-from r spare.pointer own.0 of }

temporary-apart : (n : Node) (live : Reg → Bool) (staged : List Bool) (choices : List Choice) → AreFor (around X86_64 n live staged) (Any ∷ []) [] (Any ∷ []) choices
    → IsTemporary n choices (first_taken choices)
temporary-apart n live staged [] h = absurd h
temporary-apart n live staged (choice ∷ next ∷ choices) h = absurd h.1
temporary-apart n live staged (Own r ∷ []) h = absurd h.0
temporary-apart n live staged (Free r ∷ []) h = tried-apart n r live staged (Free r ∷ []) h.0.0 (same r false)
temporary-apart n live staged (Spill r k ∷ []) h = tried-apart n r live staged (Spill r k ∷ []) h.0.0 (same r false)

-- ---- the registers that a store reads

names-first : (f : Form) (fs : List Form) (d : Reg) (xs : List Operand) → is_for access.Read f ≡ true → d ≢ Fp → names access.Read (f ∷ fs) (operand.Reg d ∷ xs) d ≡ true
names-first f fs d xs here named = or-last (names access.Read fs xs d) (is_for access.Read f) (is_same d d) here (same-self d named)
  where
    or-last : (x y z : Bool) → y ≡ true → z ≡ true → (x || (y && z)) ≡ true
    or-last true y z e h = refl
    or-last false y z e h = rw (e, h) refl

names-later : (f : Form) (fs : List Form) (x : Operand) (xs : List Operand) (r : Reg) → names access.Read fs xs r ≡ true → names access.Read (f ∷ fs) (x ∷ xs) r ≡ true
names-later f fs x xs r h = or_left (names access.Read fs xs r) (is_for access.Read f && is_register r x) h

abbrev Reads : Addressing → List Operand → Reg → Type 0
Reads at xs r = r ≢ Fp → names access.Read (store_forms at) xs r ≡ true

abbrev operand_of : List Operand → ℕ → Operand
operand_of xs i = slice_index_or xs i (operand.Number 0)

-- the one that it stores, and the one to which a number is added
record ReadsRegisters (at : Addressing) (xs : List Operand) : Type 0 where
  stored : Reads at xs (named (operand_of xs (stored_operand at)))
  indexed : (r : Reg) (v : ℕ) → address_of at (operand_of xs 0) (operand_of xs 1) ≡ Index r v → Reads at xs r

index-is : (v : Operand) (b r : Reg) (k : ℕ) → ((r : Reg) → v ≢ operand.Reg r) → address_of addressing.RegisterImmediate v (operand.Reg b) ≡ Index r k → b ≡ r
index-is (operand.Number m) b r k plain e = cc
index-is (operand.Host name) b r k plain e = cc
index-is (operand.Label l) b r k plain e = cc
index-is (operand.Slot s) b r k plain e = cc
index-is (operand.Reg a) b r k plain e = absurd (plain a refl)

reads-registers : (at : Addressing) (xs : List Operand) → admit (store_forms at) xs ≡ true → list_any is_label xs ≡ false → ReadsRegisters at xs
reads-registers addressing.Register xs e none =
    let a = starts-read (form.Read ∷ []) xs e in
    let b = starts-read [] a.rest a.admitted in
    let are : xs ≡ operand.Reg a.register ∷ operand.Reg b.register ∷ b.rest = a.is ∙ ap (λ ys. operand.Reg a.register ∷ ys) b.is in
    subst (ReadsRegisters addressing.Register) (sym are) record {
      stored = λ ne. names-later form.Read (form.Read ∷ []) (operand.Reg a.register) (operand.Reg b.register ∷ b.rest) b.register (names-first form.Read [] b.register b.rest refl ne);
      indexed = λ r v is. cc;
    }
reads-registers addressing.Immediate xs e none =
    let v = starts-number (form.Read ∷ []) xs none e in
    let b = starts-read [] v.rest v.admitted in
    let are : xs ≡ v.constant ∷ operand.Reg b.register ∷ b.rest = v.is ∙ ap (λ ys. v.constant ∷ ys) b.is in
    subst (ReadsRegisters addressing.Immediate) (sym are) record {
      stored = λ ne. names-later form.Immediate (form.Read ∷ []) v.constant (operand.Reg b.register ∷ b.rest) b.register (names-first form.Read [] b.register b.rest refl ne);
      indexed = λ r v is. cc;
    }
reads-registers addressing.RegisterRegister xs e none =
    let a = starts-read (form.Read ∷ form.Read ∷ []) xs e in
    let b = starts-read (form.Read ∷ []) a.rest a.admitted in
    let d = starts-read [] b.rest b.admitted in
    let are : xs ≡ operand.Reg a.register ∷ operand.Reg b.register ∷ operand.Reg d.register ∷ d.rest =
    a.is ∙ ap (λ ys. operand.Reg a.register ∷ ys) (b.is ∙ ap (λ ys. operand.Reg b.register ∷ ys) d.is) in
    subst (ReadsRegisters addressing.RegisterRegister) (sym are) record {
      stored = λ ne. names-later form.Read (form.Read ∷ form.Read ∷ []) (operand.Reg a.register) (operand.Reg b.register ∷ operand.Reg d.register ∷ d.rest) d.register
          (names-later form.Read (form.Read ∷ []) (operand.Reg b.register) (operand.Reg d.register ∷ d.rest) d.register (names-first form.Read [] d.register d.rest refl ne));
      indexed = λ r v is. cc;
    }
reads-registers addressing.RegisterImmediate xs e none =
    let v = starts-number (form.Read ∷ form.Read ∷ []) xs none e in
    let b = starts-read (form.Read ∷ []) v.rest v.admitted in
    let d = starts-read [] b.rest b.admitted in
    let are : xs ≡ v.constant ∷ operand.Reg b.register ∷ operand.Reg d.register ∷ d.rest = v.is ∙ ap (λ ys. v.constant ∷ ys) (b.is ∙ ap (λ ys. operand.Reg b.register ∷ ys) d.is) in
    let ys : List Operand = v.constant ∷ operand.Reg b.register ∷ operand.Reg d.register ∷ d.rest in
    let base : Reads addressing.RegisterImmediate ys b.register = λ ne. names-later form.Immediate (form.Read ∷ form.Read ∷ []) v.constant (operand.Reg b.register ∷ operand.Reg d.register ∷ d.rest) b.register
    (names-first form.Read (form.Read ∷ []) b.register (operand.Reg d.register ∷ d.rest) refl ne) in
    subst (ReadsRegisters addressing.RegisterImmediate) (sym are) record {
      stored = λ ne. names-later form.Immediate (form.Read ∷ form.Read ∷ []) v.constant (operand.Reg b.register ∷ operand.Reg d.register ∷ d.rest) d.register
          (names-later form.Read (form.Read ∷ []) (operand.Reg b.register) (operand.Reg d.register ∷ d.rest) d.register (names-first form.Read [] d.register d.rest refl ne));
      indexed = λ r k is. subst (Reads addressing.RegisterImmediate ys) (index-is v.constant b.register r k v.plain is) base;
    }

-- ---- of a store
-- a register that its code may spoil, neither stored nor one to which a number is added
pub record IsSpare (u : ℕ) (at : Address) (from : ℕ) (choices : List Choice) : Type 0 where
  pub few : u < 16
  pub free : indexes u at ≡ false
  pub stack : 4 ≢ u
  pub apart_from : from ≢ u
  pub taken : is_taken choices u ≡ true

free-of : (u : ℕ) (at : Address) → ((r : Reg) (v : ℕ) → at ≡ Index r v → register_of X86_64 r ≢ u) → indexes u at ≡ false
free-of u (Index r v) h = let ne = h r v refl in grind (arith, ne)
free-of u (Base a) h = refl
free-of u o h = refl

-- whether its address is computed
abbrev pub is_computed : Addressing → Bool
is_computed addressing.Register = false
is_computed at = true

needs-any : (at : Addressing) → is_computed at ≡ true → store_needs at ≡ Any ∷ []
needs-any addressing.Register e = cc
needs-any at e = refl

pub spare-for : (n : Node) (t : StoreType) (at : Addressing) (live : Reg → Bool) (staged : List Bool) (choices : List Choice) → n.op ≡ op.Store t at
    → admit (store_forms at) n.operands ≡ true → list_any is_label n.operands ≡ false → AreFor (around X86_64 n live staged) (store_needs at) [] (store_needs at) choices
    → is_computed at ≡ true
    → IsSpare (first_taken choices) (address_of at (operand_at n 0) (operand_at n 1)) (register_of X86_64 (named (operand_at n (stored_operand at)))) choices
spare-for n t at live staged choices e formed none are computed =
    let m = temporary-apart n live staged choices (subst (λ ns. AreFor (around X86_64 n live staged) ns [] ns choices) (needs-any at computed) are) in
    let k = reads-registers at n.operands formed none in
    let of : (r : Reg) → Reads at n.operands r → IsOf n r = λ r reads ne. ap (λ o. names access.Read (forms_of o) n.operands r) e ∙ reads ne in
    record {
      few = m.fine.0;
      stack = m.stack;
      free = free-of (first_taken choices) (address_of at (operand_at n 0) (operand_at n 1)) (λ r v is. m.apart r (of r (k.indexed r v is)));
      apart_from = m.apart (named (operand_at n (stored_operand at))) (of (named (operand_at n (stored_operand at))) k.stored);
      taken = m.taken;
    }

-- ---- its choices
-- no need names a register, and there are few
pub record AreFewNeeds (needs : List Need) : Type 0 where
  pub few : length needs ≤ 3
  pub unnamed : (x : ℕ) → is_named needs x ≡ false

pub needs-few : (at : Addressing) → AreFewNeeds (store_needs at)
needs-few addressing.Register = record { few = omega arith; unnamed = λ x. refl }
needs-few o = record { few = omega arith; unnamed = λ x. refl }

-- a register of the conventions, which is free or saved in the first slot
abbrev pub IsOne : Choice → Type 0
IsOne (Free u) = Fine u
IsOne (Own u) = ⊥
IsOne (Spill u k) = Fine u × (k ≡ 0)

-- there is none, or one such
abbrev pub AreOne : List Choice → Type 0
AreOne [] = Unit {0}
AreOne (choice ∷ []) = IsOne choice
AreOne (choice ∷ next ∷ choices) = ⊥

are-any : (n : Node) (live : Reg → Bool) (staged : List Bool) (choices : List Choice) → AreFor (around X86_64 n live staged) (Any ∷ []) [] (Any ∷ []) choices → AreOne choices
are-any n live staged [] h = absurd h
are-any n live staged (choice ∷ next ∷ choices) h = absurd h.1
are-any n live staged (Own r ∷ []) h = absurd h.0
are-any n live staged (Free r ∷ []) h = tried-fine r h.0.0.tried
are-any n live staged (Spill r k ∷ []) h = (tried-fine r h.0.0.tried, h.0.1)

are-none : (n : Node) (live : Reg → Bool) (staged : List Bool) (choices : List Choice) → AreFor (around X86_64 n live staged) [] [] [] choices → AreOne choices
are-none n live staged [] h = tt
are-none n live staged (choice ∷ choices) h = absurd h

pub choices-are : (at : Addressing) (n : Node) (live : Reg → Bool) (staged : List Bool) (choices : List Choice)
    → AreFor (around X86_64 n live staged) (store_needs at) [] (store_needs at) choices → AreOne choices
choices-are addressing.Register n live staged choices h = are-none n live staged choices h
choices-are addressing.Immediate n live staged choices h = are-any n live staged choices h
choices-are o n live staged choices h = are-any n live staged choices h

pub one-fits : (choices : List Choice) → AreOne choices → AreStoreChoices choices
one-fits [] h = record { few = omega arith; slots = tt }
one-fits (Free u ∷ []) h = record { few = omega arith; slots = tt }
one-fits (Own u ∷ []) h = absurd h
one-fits (Spill u k ∷ []) h = let e = h.1 in record { few = omega arith; slots = (omega (arith, e), tt) }
one-fits (choice ∷ next ∷ choices) h = absurd h

pub one-spilled : (choices : List Choice) → AreOne choices → spilled choices ≤ 5
one-spilled [] h = omega arith
one-spilled (Free u ∷ []) h = omega arith
one-spilled (Own u ∷ []) h = omega arith
one-spilled (Spill u k ∷ []) h = omega arith
one-spilled (choice ∷ next ∷ choices) h = absurd h
