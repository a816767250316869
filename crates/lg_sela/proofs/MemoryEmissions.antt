-- The items of loads, stores and nodes that read and pass arguments: a store and an argument that is passed store once.
use Rattle.std.proofs.Common.{ℕ, ◌-◌, ◌/◌, ◌≤◌, Bool, true, false, [], ◌∷◌, ◌++◌, refl, arith}
use Rattle.std.specs.Prelude.{nat_lt, slice_index, if◌then◌else◌}
use Rattle.lg_a64.specs.declared.instruction.ImmOp.TheVariants.{Addi, Subi}
use Rattle.lg_a64.specs.declared.instruction.Instr.TheVariants as instr
use Rattle.lg_a64.specs.declared.instruction.UnscaledOp.TheVariants.{Stur}
use Rattle.lg_a64.specs.declared.instruction.RegOp.TheVariants as reg
use Rattle.lg_a64.specs.declared.instruction.ScaledOp.TheVariants.{Str64}
use Rattle.lg_base.specs.Conventions.{argument_registers}
use Rattle.lg_base.specs.HostNames.{host_address}
use Rattle.lg_base.specs.Words.{negated}
use Rattle.lg_base.specs.declared.target.Target.TheVariants.{Aarch64}
use Rattle.lg_sela_values.specs.Processor.A64Rows.{frame_pointer, link, stack_pointer, zero_register}
use Rattle.lg_sela_values.specs.Processor.Numbers.{number_code}
use Rattle.lg_meaning.specs.Steps.{operand_at, stored_operand, slot}
use Rattle.lg_op.specs.declared.node.Node.{Node}
use Rattle.lg_op.specs.declared.op.Addressing.{Addressing}
use Rattle.lg_op.specs.declared.op.StoreType.{StoreType}
use Rattle.lg_op.specs.declared.op.StoreType.TheVariants as store_type
use Rattle.lg_op.specs.declared.op.ValueType.{ValueType}
use Rattle.lg_op.specs.declared.op.ValueType.TheVariants as value_type
use Rattle.lg_op.specs.declared.operand.Operand.{Operand}
use Rattle.lg_op.specs.declared.operand.Operand.TheVariants as operand
use Rattle.lg_sel.proofs.LabelLemmas.{Passes, AllPass, passes-at}
use Rattle.lg_sel.proofs.StoreLemmas as stores
use Rattle.lg_sela.specs.Stores.{a64_stores}
use Rattle.lg_carry.specs.Memory.Accesses.{Address, Base, At, Sum, Index, address_of}
use Rattle.lg_sel.specs.declared.reach.Reach.{Reach}
use Rattle.lg_sela.proofs.Emissions.{NoneStores, number-none, Emits, none, append, more, either, instructions, plain, number, address}
use Rattle.lg_sela_values.specs.Items.{ones}
use Rattle.lg_sela.specs.Memory.Accesses.{register, load_row, store_row, Place, at_link, is_scaled, is_small, sum_code, indexed, place_of, loading, storing, is_unscaled, unscaled, is_word, word_load, load_at, store_at, load_code, store_code}
use Rattle.lg_sela.specs.Memory.ArgumentCode.{stack_count, home_load, argument_load, argument_code}
use Rattle.lg_sela.specs.Memory.PushCode.{into, stack_push, onto_stack, push_code}
use Rattle.lg_sela.specs.Memory.VariableArgumentCode.{next_argument_code}
use Rattle.lg_op.specs.Operators.{width, store_width}
use Rattle.lg_temp.specs.Abis.{register_of}

-- ---- instructions
sum-none : (a v : ℕ) → NoneStores (sum_code a v)
sum-none a v = by (is_small v) (is_small (negated v))
  where
    by : (b c : Bool) → NoneStores (if b then instr.Imm Addi link a v false ∷ [] else if c then instr.Imm Subi link a (negated v) false ∷ [] else number_code link v ++ instr.Reg reg.Add link a link ∷ [])
    by true c = refl
    by false true = refl
    by false false = stores.none-append a64_stores (number_code link v) (instr.Reg reg.Add link a link ∷ []) (number-none link v) refl

indexed-none : (bytes a v : ℕ) → NoneStores (indexed bytes a v).code
indexed-none bytes a v = by (is_scaled bytes v)
  where
    by : (b : Bool) → NoneStores (if b then record { code = []; base = a; count = v / bytes } else at_link (sum_code a v)).code
    by true = refl
    by false = sum-none a v

place-none : (bytes : ℕ) (at : Address) → NoneStores (place_of bytes at).code
place-none bytes (Base a) = refl
place-none bytes (At v) = number-none link v
place-none bytes (Sum a b) = refl
place-none bytes (Index a v) = indexed-none bytes (register_of Aarch64 a) v

-- the row of a load stores nothing
load-none : (t : ValueType) (rt rn imm : ℕ) → NoneStores (instr.Scaled (load_row t) rt rn imm ∷ [])
load-none value_type.Char rt rn imm = refl
load-none t rt rn imm = refl

store-one : (t : StoreType) (rt rn imm : ℕ) → stores.stores_among a64_stores (instr.Scaled (store_row t) rt rn imm ∷ []) ≤ 1
store-one store_type.Char rt rn imm = omega arith
store-one t rt rn imm = omega arith

loading-none : (t : ValueType) (d bytes : ℕ) (at : Address) → NoneStores (loading t d (place_of bytes at))
loading-none t d bytes at =
    let p : Place = place_of bytes at in
    stores.none-append a64_stores p.code (instr.Scaled (load_row t) d p.base p.count ∷ []) (place-none bytes at) (load-none t d p.base p.count)

storing-one : (t : StoreType) (v bytes : ℕ) (at : Address) → stores.stores_among a64_stores (storing t v (place_of bytes at)) ≤ 1
storing-one t v bytes at =
    let p : Place = place_of bytes at in
    let h = stores.among-append a64_stores p.code (instr.Scaled (store_row t) v p.base p.count ∷ []) in
    let g = place-none bytes at in let one = store-one t v p.base p.count in omega (arith, h, g, one)

-- by the row that counts bytes, or else by other code
unscaled-one : (v : ℕ) (at : Address) → stores.stores_among a64_stores (unscaled Stur v at) ≤ 1
unscaled-one v (Index a n) = omega arith
unscaled-one v at = omega arith

word-none : (d : ℕ) (at : Address) → NoneStores (word_load d at)
word-none d (Sum a b) = refl
word-none d o = refl

load-at-none : (t : ValueType) (d : ℕ) (at : Address) → NoneStores (load_at t d at)
load-at-none t d at = stores.none-if a64_stores (is_word (width t) at) (word_load d at) (loading t d (place_of (width t) at)) (word-none d at) (loading-none t d (width t) at)

store-at-one : (t : StoreType) (v : ℕ) (at : Address) → stores.stores_among a64_stores (store_at t v at) ≤ 1
store-at-one t v at = by (is_unscaled (store_width t) at)
  where
    by : (b : Bool) → stores.stores_among a64_stores (if b then unscaled Stur v at else storing t v (place_of (store_width t) at)) ≤ 1
    by true = unscaled-one v at
    by false = storing-one t v (store_width t) at

home-none : (t : ValueType) (rd k : ℕ) → NoneStores (home_load t rd k)
home-none value_type.Long rd k = refl
home-none t rd k = load-none t rd link 0

argument-none : (t : ValueType) (rd k : ℕ) → NoneStores (argument_load t rd k)
argument-none t rd k =
    stores.none-if a64_stores (nat_lt k 8) (home_load t rd k) (instr.Scaled (load_row t) rd frame_pointer (stack_count t k) ∷ []) (home-none t rd k)
    (load-none t rd frame_pointer (stack_count t k))

-- ---- items
module _ (reach : Reach) (is : ℕ → Bool) where
  pub loads-emit : (t : ValueType) (at : Addressing) (n : Node) → Emits reach is 1 0 (ones (load_code t at n))
  loads-emit t at n = plain reach is 1 (load_code t at n) (load-at-none t (register (operand_at n 0)) (address_of at (operand_at n 1) (operand_at n 2)))

  pub stores-emit : (t : StoreType) (at : Addressing) (n : Node) → Emits reach is 1 1 (ones (store_code t at n))
  stores-emit t at n =
      instructions reach is 1 1 (store_code t at n) (store-at-one t (register (operand_at n (stored_operand at))) (address_of at (operand_at n 0) (operand_at n 1)))

  pub arguments-emit : (t : ValueType) (n : Node) → Emits reach is 1 0 (ones (argument_code t n))
  arguments-emit t n = plain reach is 1 (argument_code t n)
      (stores.none-if a64_stores (nat_lt (slot (operand_at n 1)) 16) (argument_load t (register (operand_at n 0)) (slot (operand_at n 1))) []
      (argument-none t (register (operand_at n 0)) (slot (operand_at n 1))) refl)

  pub next-arguments-emit : (n : Node) → Emits reach is 1 0 (ones (next_argument_code n))
  next-arguments-emit n = plain reach is 1 (next_argument_code n) refl

  puts : (rd : ℕ) (x : Operand) → Passes is x → Emits reach is 1 0 (into rd x)
  puts rd (operand.Reg r) h = plain reach is 1 (instr.Reg reg.Orr rd zero_register (register_of Aarch64 r) ∷ []) refl
  puts rd (operand.Number v) h = number reach is 1 rd v
  puts rd (operand.Host name) h = number reach is 1 rd (host_address name)
  puts rd (operand.Label l) h = address reach is rd l.0 h
  puts rd (operand.Slot k) h = none reach is 1 0

  stack : (f j r : ℕ) → Emits reach is f 1 (stack_push j r ∷ [])
  stack f j r = instructions reach is f 1 (instr.Scaled Str64 r stack_pointer (j - 8) ∷ []) (omega arith)

  loaded : (j : ℕ) (x : Operand) → Passes is x → Emits reach is 1 1 (into link x ++ stack_push j link ∷ [])
  loaded j x h = append reach is 1 0 0 1 (into link x) (stack_push j link ∷ []) (puts link x h) (stack 0 j link)

  stacked : (j : ℕ) (x : Operand) → Passes is x → Emits reach is 1 1 (onto_stack j x)
  stacked j (operand.Reg r) h = stack 1 j (register_of Aarch64 r)
  stacked j (operand.Number v) h = loaded j (operand.Number v) h
  stacked j (operand.Host name) h = loaded j (operand.Host name) h
  stacked j (operand.Label l) h = loaded j (operand.Label l) h
  stacked j (operand.Slot k) h = loaded j (operand.Slot k) h

  pub pushes-emit : (j : ℕ) (n : Node) → AllPass is n.operands → Emits reach is 1 1 (push_code j n)
  pushes-emit j n h =
      let rd : ℕ = slice_index (argument_registers Aarch64) j in
      let x : Operand = operand_at n 0 in
      let p : Passes is x = passes-at is n.operands 0 h in
      either reach is 1 1 (nat_lt j 8) (into rd x) (onto_stack j x) (more reach is 1 1 0 1 (into rd x) (omega arith) (omega arith) (puts rd x p)) (stacked j x p)
