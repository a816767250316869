-- Loads and stores with each kind of address are carried.
use Rattle.std.proofs.Common.{◌≡◌, ◌≢◌, ℕ, ◌^◌, ◌<◌, ◌≤◌, Bool, true, false, List, [], ◌∷◌, Option, Some, refl, sym, ap, ◌∙◌, arith, subst, length}
use Rattle.std.specs.Prelude.{◌||◌, slice_index_or}
use Rattle.std.specs.List.{list_any}
use Rattle.std.proofs.lemmas.Bool.{or_left}
use Rattle.lg_base.specs.Words.{add_words}
use Rattle.lg_op.specs.Forms.{admit, forms_of, address_forms, store_forms}
use Rattle.lg_op.specs.declared.form.Form.TheVariants as form
use Rattle.lg_op.specs.declared.op.Op.TheVariants as op
use Rattle.lg_op.specs.declared.op.ValueType.{ValueType}
use Rattle.lg_op.specs.declared.op.StoreType.{StoreType}
use Rattle.lg_op.specs.declared.op.Addressing.{Addressing}
use Rattle.lg_op.specs.declared.op.Addressing.TheVariants as addressing
use Rattle.lg_op.specs.declared.operand.Reg.{Reg}
use Rattle.lg_op.specs.declared.operand.Reg.TheVariants.{Fp}
use Rattle.lg_op.specs.declared.operand.Operand.{Operand}
use Rattle.lg_op.specs.declared.operand.Operand.TheVariants as operand
use Rattle.lg_op.specs.declared.node.Node.{Node}
use Rattle.lg_live.specs.Registers.{is_same}
use Rattle.lg_meaning.specs.States.{State, reg, value}
use Rattle.lg_meaning.specs.Steps.{need, load_to, store_to, operand_at, stored_operand}
use Rattle.lg_temp.specs.Choices.{AreFor}
use Rattle.lg_temp.specs.Chosen.{around}
use Rattle.lg_temp.specs.declared.choice.Choice.{Choice}
use Rattle.lg_temp.specs.declared.choice.Need.{Need}
use Rattle.lg_carry.specs.Blocks.{spellings}
use Rattle.lg_carry.specs.Carries.{leaps}
use Rattle.lg_carry.specs.FinalNodes.{Code}
use Rattle.lg_carry.specs.Passages.{IsNodeCode}
use Rattle.lg_carry.specs.NodeBlocks.{IsNodeBlock}
use Rattle.lg_carry.specs.NodeCode.{numbered, CarriesNode}
use Rattle.lg_carry.specs.Rows.{Rows}
use Rattle.lg_carry.specs.Spills.{wrapped, spilled, with_register}
use Rattle.lg_carry.specs.TextNodes.{IsInText, IsFrameOf, stands_inside}
use Rattle.lg_carry.specs.Nodes.Isas.{IsIsa}
use Rattle.lg_node.specs.Preparations.{pushed}
use Rattle.lg_carry.specs.Nodes.Straight.{spoils, from_to, NeedWell}
use Rattle.lg_carry.proofs.OfNodes.RegisterLemmas.{same-self}
use Rattle.lg_carry.proofs.OfNodes.StraightLemmas.{AreHarmless, none-harmless, harmless}
use Rattle.lg_carry.proofs.OfMemory.CrossingLemmas.{straight-crosses, block-within}
use Rattle.lg_carry.proofs.OfMemory.PassedNodeLemmas.{crossed-carries}
use Rattle.lg_base.specs.Conventions.{frame_register}
use Rattle.lg_base.specs.Spaces.{stored}
use Rattle.lg_temp.specs.Abis.{register_of}
use Rattle.lg_op.specs.Operators.{extended_by_type, store_width}
use Rattle.lg_carry.specs.Memory.Accesses.{Base, At, Sum, Index, address_of}
use Rattle.lg_carry.specs.Memory.Crossings.{CrossesNode}
use Rattle.lg_carry.specs.Memory.Loads.{LoadCode, LoadCrosses, LoadsDo, HasCode, LoadsCarry, LoadsWithTemporariesCarry}
use Rattle.lg_carry.specs.Memory.Operands.{named, number, is_label, names_label, HasWords}
use Rattle.lg_carry.specs.Memory.Stores.{StoreCode, StoreDoes, StoreCrosses, StoresDo, HasStoreCode, StoresCarry, StoresWithTemporariesCarry}
use Rattle.lg_carry.proofs.OfMemory.FormLemmas.{nothing-left, starts-written, starts-read, starts-number}
use Rattle.lg_carry.proofs.OfMemory.LoadLemmas.{load-computes}
use Rattle.lg_carry.proofs.SpillChoiceLemmas.{or-true}
use Rattle.lg_carry.proofs.OfMemory.ReadLemmas.{sum, same-some, parts, or-false, numbered-same, numbered-none, number-small, with_op, stepped}
use Rattle.lg_carry.proofs.OfMemory.StoreLemmas.{store-carried}

turned : (a b : ℕ) → add_words a b ≡ add_words b a
turned a b = omega arith

no-label : (a : Reg) (xs : List Operand) → list_any is_label (operand.Reg a ∷ xs) ≡ false → list_any is_label xs ≡ false
no-label a xs e = e

-- the sum of words that registers hold, and of one and a number
held-sum : {u w : ℕ} (x y : Option ℕ) (a : ℕ) → ((b : ℕ) → x ≡ Some b → u ≡ b) → ((b : ℕ) → y ≡ Some b → w ≡ b) → sum x y ≡ Some a → add_words u w ≡ a
held-sum x y a f g e = let p = parts x y a e in let b = f p.0 p.2 in let c = g p.1 p.3 in (λ i. add_words (b i) (c i)) ∙ p.4

held-index : {u : ℕ} (x : Option ℕ) (v a : ℕ) → ((b : ℕ) → x ≡ Some b → u ≡ b) → sum x (Some v) ≡ Some a → add_words u v ≡ a
held-index x v a f e = held-sum x (Some v) a f (λ b g. same-some v b g) e

held-offset : {u : ℕ} (x : Option ℕ) (v a : ℕ) → ((b : ℕ) → x ≡ Some b → u ≡ b) → sum (Some v) x ≡ Some a → add_words u v ≡ a
held-offset {u} x v a f e = turned u v ∙ held-sum (Some v) x a (λ b g. same-some v b g) f e

-- ---- loads
module _ {Q I : Type 0} (R : Rows Q I) (fits : I → Type 0) (scratch : ℕ → Bool) (c : Code) (i : ℕ) (t : ValueType) (frame : ℕ) (choices : List Choice) (body : List I) (some : 0 < length (spellings R.spelling body))
    (line : ℕ) (d : Reg) (named : d ≢ Fp) where
  abbrev node : Addressing → List Operand → Node
  node at xs = record { op = op.Load t at; operands = operand.Reg d ∷ xs; line = line }

  abbrev Computed : Addressing → List Operand → Type 0
  Computed at xs = HasWords (node at xs) → IsInText c i (node at xs) → LoadCrosses R fits scratch choices frame t d (address_of at (operand_at (node at xs) 1) (operand_at (node at xs) 2)) body
      → CrossesNode R fits scratch c i (node at xs) frame choices body

  only-d : (r : ℕ) → numbered (λ m. is_same d m || false) r ≡ numbered (is_same d) r
  only-d r = numbered-same (λ m. is_same d m || false) (is_same d) (λ m. or-false (is_same d m)) r

  by-register : (a : Reg) → Computed addressing.Register (operand.Reg a ∷ [])
  by-register a words x lead =
      let n = node addressing.Register (operand.Reg a ∷ []) in
      load-computes R fits scratch c i n t d named (Base a) tt frame choices body lead some (λ s. reg s a)
      (λ s q v h e. h.registers a v (λ ne. or_left (is_same a a) false (same-self a ne)) e)
      only-d (λ s at. stepped c i n s x at)

  by-number : (v : Operand) → number v < 2 ^ 64 → ((A : List ℕ) (s : State) → value A s v ≡ Some (number v)) → Computed addressing.Immediate (v ∷ [])
  by-number v small gives words x lead =
      let n = node addressing.Immediate (v ∷ []) in
      load-computes R fits scratch c i n t d named (At (number v)) small frame choices body lead some (λ s. Some (number v))
      (λ s q a h e. same-some (number v) a e)
      only-d (λ s at. stepped c i n s x at ∙ ap (λ z. need z (λ a. load_to s t a (operand.Reg d))) (gives c.addresses s))

  by-registers : (a b : Reg) → Computed addressing.RegisterRegister (operand.Reg a ∷ operand.Reg b ∷ [])
  by-registers a b words x lead =
      let n = node addressing.RegisterRegister (operand.Reg a ∷ operand.Reg b ∷ []) in
      load-computes R fits scratch c i n t d named (Sum a b) tt frame choices body lead some (λ s. sum (reg s a) (reg s b))
      (λ s q v h e. held-sum (reg s a) (reg s b) v
      (λ y ey. h.registers a y (λ ne. or_left (is_same b a || is_same a a) false (ap (λ z. is_same b a || z) (same-self a ne) ∙ or-true (is_same b a))) ey)
      (λ y ey. h.registers b y (λ ne. or_left (is_same b b || is_same a b) false (or_left (is_same b b) (is_same a b) (same-self b ne))) ey) e)
      only-d (λ s at. stepped c i n s x at)

  by-index : (a : Reg) (v : Operand) → number v < 2 ^ 64 → ((A : List ℕ) (s : State) → value A s v ≡ Some (number v)) → Computed addressing.RegisterImmediate (operand.Reg a ∷ v ∷ [])
  by-index a v small gives words x lead =
      let n = node addressing.RegisterImmediate (operand.Reg a ∷ v ∷ []) in
      load-computes R fits scratch c i n t d named (Index a (number v)) small frame choices body lead some (λ s. sum (reg s a) (Some (number v)))
      (λ s q b h e. held-index (reg s a) (number v) b (λ y ey. h.registers a y (λ ne. or_left (is_same a a) false (same-self a ne)) ey) e)
      only-d (λ s at. stepped c i n s x at ∙ ap (λ z. need (sum (reg s a) z) (λ y. load_to s t y (operand.Reg d))) (gives c.addresses s))

  load-law : (at : Addressing) (xs : List Operand) → admit (address_forms at) xs ≡ true → list_any is_label xs ≡ false → Computed at xs
  load-law addressing.Register xs e none =
      let a = starts-read [] xs e in
      let xs-are : xs ≡ operand.Reg a.register ∷ [] = a.is ∙ ap (λ ys. operand.Reg a.register ∷ ys) (nothing-left a.rest a.admitted) in
      subst (Computed addressing.Register) (sym xs-are) (by-register a.register)
  load-law addressing.Immediate xs e none =
      let v = starts-number [] xs none e in
      let xs-are : xs ≡ v.constant ∷ [] = v.is ∙ ap (λ ys. v.constant ∷ ys) (nothing-left v.rest v.admitted) in
      subst (Computed addressing.Immediate) (sym xs-are) (λ words. by-number v.constant (number-small v.constant (λ m z. words 1 m z)) v.gives words)
  load-law addressing.RegisterRegister xs e none =
      let a = starts-read (form.Read ∷ []) xs e in
      let b = starts-read [] a.rest a.admitted in
      let xs-are : xs ≡ operand.Reg a.register ∷ operand.Reg b.register ∷ [] =
      a.is ∙ ap (λ ys. operand.Reg a.register ∷ ys) (b.is ∙ ap (λ ys. operand.Reg b.register ∷ ys) (nothing-left b.rest b.admitted)) in
      subst (Computed addressing.RegisterRegister) (sym xs-are) (by-registers a.register b.register)
  load-law addressing.RegisterImmediate xs e none =
      let a = starts-read (form.Immediate ∷ []) xs e in
      let v = starts-number [] a.rest (no-label a.register a.rest (ap (list_any is_label) (sym a.is) ∙ none)) a.admitted in
      let xs-are : xs ≡ operand.Reg a.register ∷ v.constant ∷ [] =
      a.is ∙ ap (λ ys. operand.Reg a.register ∷ ys) (v.is ∙ ap (λ ys. v.constant ∷ ys) (nothing-left v.rest v.admitted)) in
      subst (Computed addressing.RegisterImmediate) (sym xs-are) (λ words. by-index a.register v.constant (number-small v.constant (λ m z. words 2 m z)) v.gives words)

-- ---- stores
module _ {Q I : Type 0} (R : Rows Q I) (scratch : ℕ → Bool) (fits : I → Type 0) (isa : IsIsa R scratch fits) (c : Code) (i : ℕ) (t : StoreType) (frame : ℕ) (is-frame : IsFrameOf c i frame) (S : ℕ → Bool)
    (choices : List Choice) (body : List I) (some : 0 < length (spellings R.spelling body)) (line : ℕ) where
  abbrev store : Addressing → List Operand → Node
  store at xs = record { op = op.Store t at; operands = xs; line = line }

  abbrev Stores : Addressing → List Operand → Type 0
  Stores at xs = HasWords (store at xs) → IsInText c i (store at xs) → AreHarmless R c i (store at xs) S choices
      → StoreCrosses R fits scratch choices frame t (address_of at (operand_at (store at xs) 0) (operand_at (store at xs) 1)) (named (operand_at (store at xs) (stored_operand at))) body
      → IsNodeCode R fits c i (wrapped R choices body) → CarriesNode R.processor c i (store at xs) S

  at-register : (a b : Reg) → Stores addressing.Register (operand.Reg a ∷ operand.Reg b ∷ [])
  at-register a b words x harm lead k =
      let n = store addressing.Register (operand.Reg a ∷ operand.Reg b ∷ []) in
      store-carried R scratch fits isa c i n t S b (Base a) tt frame choices body lead some harm (λ s. reg s a) (λ s. reg s b) refl refl
      (λ s q v h e. h.registers a v (λ ne. ap (λ z. is_same b a || z) (same-self a ne) ∙ or-true (is_same b a)) e)
      (λ s q v h e. h.registers b v (λ ne. or_left (is_same b b) (is_same a b) (same-self b ne)) e)
      numbered-none (λ s at. stepped c i n s x at) x is-frame k

  at-number : (v : Operand) (b : Reg) → number v < 2 ^ 64 → ((A : List ℕ) (s : State) → value A s v ≡ Some (number v)) → Stores addressing.Immediate (v ∷ operand.Reg b ∷ [])
  at-number v b small gives words x harm lead k =
      let n = store addressing.Immediate (v ∷ operand.Reg b ∷ []) in
      store-carried R scratch fits isa c i n t S b (At (number v)) small frame choices body lead some harm (λ s. Some (number v)) (λ s. reg s b) refl refl
      (λ s q a h e. same-some (number v) a e)
      (λ s q y h e. h.registers b y (λ ne. or_left (is_same b b) false (same-self b ne)) e)
      numbered-none (λ s at. stepped c i n s x at ∙ ap (λ z. need z (λ y. need (reg s b) (λ u. store_to s t y u))) (gives c.addresses s)) x is-frame k

  at-registers : (a b d : Reg) → Stores addressing.RegisterRegister (operand.Reg a ∷ operand.Reg b ∷ operand.Reg d ∷ [])
  at-registers a b d words x harm lead k =
      let n = store addressing.RegisterRegister (operand.Reg a ∷ operand.Reg b ∷ operand.Reg d ∷ []) in
      store-carried R scratch fits isa c i n t S d (Sum a b) tt frame choices body lead some harm (λ s. sum (reg s a) (reg s b)) (λ s. reg s d) refl refl
      (λ s q v h e. held-sum (reg s a) (reg s b) v
      (λ y ey. h.registers a y (λ ne. ap (λ z. (is_same d a || is_same b a) || z) (same-self a ne) ∙ or-true (is_same d a || is_same b a)) ey)
      (λ y ey. h.registers b y (λ ne. or_left (is_same d b || is_same b b) (is_same a b) (ap (λ z. is_same d b || z) (same-self b ne) ∙ or-true (is_same d b))) ey) e)
      (λ s q v h e. h.registers d v (λ ne. or_left (is_same d d || is_same b d) (is_same a d) (or_left (is_same d d) (is_same b d) (same-self d ne))) e)
      numbered-none (λ s at. stepped c i n s x at) x is-frame k

  at-index : (v : Operand) (b d : Reg) → ((r : Reg) → v ≢ operand.Reg r) → number v < 2 ^ 64 → ((A : List ℕ) (s : State) → value A s v ≡ Some (number v))
      → Stores addressing.RegisterImmediate (v ∷ operand.Reg b ∷ operand.Reg d ∷ [])
  at-index v b d plain small gives words x harm lead k =
      let n = store addressing.RegisterImmediate (v ∷ operand.Reg b ∷ operand.Reg d ∷ []) in
      store-carried R scratch fits isa c i n t S d (Index b (number v)) small frame choices body (subst (λ a. StoreCrosses R fits scratch choices frame t a d body) (address-is v b plain) lead) some harm (λ s. sum (Some (number v)) (reg s b)) (λ s. reg s d) refl refl
      (λ s q a h e. held-offset (reg s b) (number v) a
      (λ y ey. h.registers b y (λ ne. or_left (is_same d b || is_same b b) false (ap (λ z. is_same d b || z) (same-self b ne) ∙ or-true (is_same d b))) ey) e)
      (λ s q y h e. h.registers d y (λ ne. or_left (is_same d d || is_same b d) false (or_left (is_same d d) (is_same b d) (same-self d ne))) e)
      numbered-none (λ s at. stepped c i n s x at ∙ ap (λ z. need (sum z (reg s b)) (λ y. need (reg s d) (λ u. store_to s t y u))) (gives c.addresses s)) x is-frame k
    where
      address-is : (v : Operand) (b : Reg) → ((r : Reg) → v ≢ operand.Reg r) → address_of addressing.RegisterImmediate v (operand.Reg b) ≡ Index b (number v)
      address-is (operand.Reg r) b g = absurd (g r refl)
      address-is other b g = refl

  store-law : (at : Addressing) (xs : List Operand) → admit (store_forms at) xs ≡ true → list_any is_label xs ≡ false → Stores at xs
  store-law addressing.Register xs e none =
      let a = starts-read (form.Read ∷ []) xs e in
      let b = starts-read [] a.rest a.admitted in
      let xs-are : xs ≡ operand.Reg a.register ∷ operand.Reg b.register ∷ [] =
      a.is ∙ ap (λ ys. operand.Reg a.register ∷ ys) (b.is ∙ ap (λ ys. operand.Reg b.register ∷ ys) (nothing-left b.rest b.admitted)) in
      subst (Stores addressing.Register) (sym xs-are) (at-register a.register b.register)
  store-law addressing.Immediate xs e none =
      let v = starts-number (form.Read ∷ []) xs none e in
      let b = starts-read [] v.rest v.admitted in
      let xs-are : xs ≡ v.constant ∷ operand.Reg b.register ∷ [] =
      v.is ∙ ap (λ ys. v.constant ∷ ys) (b.is ∙ ap (λ ys. operand.Reg b.register ∷ ys) (nothing-left b.rest b.admitted)) in
      subst (Stores addressing.Immediate) (sym xs-are) (λ words. at-number v.constant b.register (number-small v.constant (λ m z. words 0 m z)) v.gives words)
  store-law addressing.RegisterRegister xs e none =
      let a = starts-read (form.Read ∷ form.Read ∷ []) xs e in
      let b = starts-read (form.Read ∷ []) a.rest a.admitted in
      let d = starts-read [] b.rest b.admitted in
      let xs-are : xs ≡ operand.Reg a.register ∷ operand.Reg b.register ∷ operand.Reg d.register ∷ [] =
      a.is ∙ ap (λ ys. operand.Reg a.register ∷ ys) (b.is ∙ ap (λ ys. operand.Reg b.register ∷ ys) (d.is ∙ ap (λ ys. operand.Reg d.register ∷ ys) (nothing-left d.rest d.admitted))) in
      subst (Stores addressing.RegisterRegister) (sym xs-are) (at-registers a.register b.register d.register)
  store-law addressing.RegisterImmediate xs e none =
      let v = starts-number (form.Read ∷ form.Read ∷ []) xs none e in
      let b = starts-read (form.Read ∷ []) v.rest v.admitted in
      let d = starts-read [] b.rest b.admitted in
      let xs-are : xs ≡ v.constant ∷ operand.Reg b.register ∷ operand.Reg d.register ∷ [] =
      v.is ∙ ap (λ ys. v.constant ∷ ys) (b.is ∙ ap (λ ys. operand.Reg b.register ∷ ys) (d.is ∙ ap (λ ys. operand.Reg d.register ∷ ys) (nothing-left d.rest d.admitted))) in
      subst (Stores addressing.RegisterImmediate) (sym xs-are) (λ words. at-index v.constant b.register d.register v.plain (number-small v.constant (λ m z. words 0 m z)) v.gives words)

-- ---- nodes
-- a load is computed, and a store carried, by code that does so with its address
abbrev IsComputed : {Q I : Type 0} → Rows Q I → (I → Type 0) → (ℕ → Bool) → Code → ℕ → ValueType → Addressing → ℕ → List Choice → List I → Node → Type 0
IsComputed R fits scratch c i t at frame choices body m =
    names_label m ≡ false → HasWords m → IsInText c i m → LoadCrosses R fits scratch choices frame t (named (operand_at m 0)) (address_of at (operand_at m 1) (operand_at m 2)) body
    → CrossesNode R fits scratch c i m frame choices body

abbrev IsCarried : {Q I : Type 0} → Rows Q I → (ℕ → Bool) → (I → Type 0) → Code → ℕ → StoreType → Addressing → ℕ → (ℕ → Bool) → List Choice → List I → Node → Type 0
IsCarried R scratch fits c i t at frame S choices body m =
    names_label m ≡ false → HasWords m → IsInText c i m → AreHarmless R c i m S choices
    → StoreCrosses R fits scratch choices frame t (address_of at (operand_at m 0) (operand_at m 1)) (named (operand_at m (stored_operand at))) body
    → IsNodeCode R fits c i (wrapped R choices body) → CarriesNode R.processor c i m S

module _ {Q I : Type 0} (R : Rows Q I) (scratch : ℕ → Bool) (fits : I → Type 0) (isa : IsIsa R scratch fits) where
  loads-compute : (c : Code) (i : ℕ) (n : Node) (t : ValueType) (at : Addressing) (frame : ℕ) (choices : List Choice) (body : List I) → 0 < length (spellings R.spelling body) → n.op ≡ op.Load t at
      → IsComputed R fits scratch c i t at frame choices body n
  loads-compute c i n t at frame choices body some e none words x lead = subst (IsComputed R fits scratch c i t at frame choices body) (ap (with_op n) (sym e)) with-op none words x lead
    where
      formed : admit (forms_of (op.Load t at)) n.operands ≡ true
      formed = ap (λ o. admit (forms_of o) n.operands) (sym e) ∙ (x.formed n x.here).forms

      with-op : IsComputed R fits scratch c i t at frame choices body (with_op n (op.Load t at))
      with-op =
          let d = starts-written (address_forms at) n.operands formed in
          subst (λ xs. IsComputed R fits scratch c i t at frame choices body record { op = op.Load t at; operands = xs; line = n.line }) (sym d.is)
          (λ none' words' x' lead'. load-law R fits scratch c i t frame choices body some n.line d.register d.named at d.rest d.admitted none' words' x' lead')

  stores-go : (c : Code) (i : ℕ) (n : Node) (t : StoreType) (at : Addressing) (frame : ℕ) → IsFrameOf c i frame → (S : ℕ → Bool) (choices : List Choice) (body : List I) → 0 < length (spellings R.spelling body)
      → n.op ≡ op.Store t at → IsCarried R scratch fits c i t at frame S choices body n
  stores-go c i n t at frame is-frame S choices body some e none words x harm lead k = subst (IsCarried R scratch fits c i t at frame S choices body) (ap (with_op n) (sym e)) with-op none words x harm lead k
    where
      formed : admit (forms_of (op.Store t at)) n.operands ≡ true
      formed = ap (λ o. admit (forms_of o) n.operands) (sym e) ∙ (x.formed n x.here).forms

      with-op : IsCarried R scratch fits c i t at frame S choices body (with_op n (op.Store t at))
      with-op none' words' x' harm' lead' k' = store-law R scratch fits isa c i t frame is-frame S choices body some n.line at n.operands formed none' words' x' harm' lead' k'

  -- ---- without temporaries
  pub loads-carry : (code : LoadCode I) → LoadsDo R scratch code → HasCode R code → LoadsCarry R fits code
  loads-carry code lead some c i n t at frame S e none words x is-frame k =
      let d = named (operand_at n 0) in
      let a = address_of at (operand_at n 1) (operand_at n 2) in
      crossed-carries R scratch fits isa c i n frame S [] (code frame t d a) (ap stands_inside e) (ap leaps e) x is-frame k.code
      (loads-compute c i n t at frame [] (code frame t d a) (some frame t d a) e none words x
      (λ q b v ne ok f address end readable safe lt. straight-crosses R fits isa.rows (from_to (R.processor.seen q) (with_register (R.processor.seen q).registers (register_of R.processor.target d) (extended_by_type t v)) (R.processor.seen q).bytes (R.processor.seen q).flags) (code frame t d a)
      ((R.processor.seen q).registers (frame_register R.processor.target)) 0 (spoils scratch []) k.block (lead frame t d a q b v ne ok f address end readable safe lt)))
      (none-harmless R scratch fits isa c i n S)

  pub stores-carry : (code : StoreCode I) → StoresDo R scratch code → HasStoreCode R code → StoresCarry R fits code
  stores-carry code lead some c i n t at frame S e none words x is-frame k =
      let a = address_of at (operand_at n 0) (operand_at n 1) in
      let b = named (operand_at n (stored_operand at)) in
      stores-go c i n t at frame is-frame S [] (code frame t a b) (some frame t a b) e none words x (none-harmless R scratch fits isa c i n S)
      (λ q y ok f address end writable safe off. straight-crosses R fits isa.rows (from_to (R.processor.seen q) (R.processor.seen q).registers (stored (R.processor.seen q).bytes y (store_width t) ((R.processor.seen q).registers (register_of R.processor.target b))) (R.processor.seen q).flags) (code frame t a b)
      ((R.processor.seen q).registers (frame_register R.processor.target)) 0 (spoils scratch []) k.block (lead frame t a b q y ok f address end writable safe off)) k.code

  -- ---- with temporaries
  pub loads-with-temporaries-carry : LoadsWithTemporariesCarry R scratch fits
  loads-with-temporaries-carry c i n t at frame live staged needs choices body e none words well few chosen pushes x is-frame k some lead =
      crossed-carries R scratch fits isa c i n frame (numbered live) choices body (ap stands_inside e) (ap leaps e) x is-frame k
      (loads-compute c i n t at frame choices body some e none words x lead) (harmless R scratch fits isa c i n live staged needs choices well few chosen pushes)

  pub stores-with-temporaries-carry : StoresWithTemporariesCarry R scratch fits
  stores-with-temporaries-carry c i n t at frame live staged needs choices body e none words well few chosen pushes x is-frame k some lead =
      stores-go c i n t at frame is-frame (numbered live) choices body some e none words x (harmless R scratch fits isa c i n live staged needs choices well few chosen pushes) lead k

  -- the code of a store that goes straight on, with temporaries
  pub straight-stores-with-temporaries-carry : (c : Code) (i : ℕ) (n : Node) (t : StoreType) (at : Addressing) (frame : ℕ) (live : Reg → Bool) (staged : List Bool) (needs : List Need)
      (choices : List Choice) (body : List I) → n.op ≡ op.Store t at → names_label n ≡ false → HasWords n → NeedWell R needs → length needs ≤ 3
      → AreFor (around R.processor.target n live staged) needs [] needs choices → ((j : ℕ) → j < pushed c.nodes.nodes i → slice_index_or staged j false ≡ true)
      → IsInText c i n → IsFrameOf c i frame → IsNodeBlock R fits c i (wrapped R choices body) → 0 < length (spellings R.spelling body)
      → StoreDoes R scratch choices frame t (address_of at (operand_at n 0) (operand_at n 1)) (named (operand_at n (stored_operand at))) body
      → CarriesNode R.processor c i n (numbered live)
  straight-stores-with-temporaries-carry c i n t at frame live staged needs choices body e none words well few chosen pushes x is-frame k some lead =
      let b = named (operand_at n (stored_operand at)) in
      stores-with-temporaries-carry c i n t at frame live staged needs choices body e none words well few chosen pushes x is-frame k.code some
      (λ q y ok f address end writable safe off. straight-crosses R fits isa.rows (from_to (R.processor.seen q) (R.processor.seen q).registers (stored (R.processor.seen q).bytes y (store_width t) ((R.processor.seen q).registers (register_of R.processor.target b))) (R.processor.seen q).flags) body
      ((R.processor.seen q).registers (frame_register R.processor.target)) (spilled choices) (spoils scratch choices) (block-within R choices body k.block) (lead q y ok f address end writable safe off))
