-- The items of loads, stores and nodes that read and pass arguments: a store and an argument that is passed store once.
use Rattle.std.proofs.Common.{ℕ, ◌+◌, ◌-◌, ◌*◌, ◌≤◌, Bool, true, false, List, [], ◌∷◌, ◌++◌, refl, arith}
use Rattle.std.specs.Prelude.{◌==◌, nat_lt, slice_index, if◌then◌else◌, pos}
use Rattle.lg_base.specs.Conventions.{argument_registers}
use Rattle.lg_base.specs.HostNames.{host_address}
use Rattle.lg_base.specs.Words.{signed_view, is_half}
use Rattle.lg_base.specs.declared.target.Target.TheVariants.{X86_64}
use Rattle.lg_selx_values.specs.Processor.Numbers.{number_row}
use Rattle.lg_meaning.specs.Steps.{operand_at, stored_operand, slot}
use Rattle.lg_op.specs.declared.node.Node.{Node}
use Rattle.lg_op.specs.declared.op.Addressing.{Addressing}
use Rattle.lg_op.specs.declared.op.StoreType.{StoreType}
use Rattle.lg_op.specs.declared.op.ValueType.{ValueType}
use Rattle.lg_op.specs.declared.operand.Operand.{Operand}
use Rattle.lg_op.specs.declared.operand.Operand.TheVariants as operand
use Rattle.lg_sel.proofs.LabelLemmas.{Passes, AllPass, passes-at}
use Rattle.lg_sel.proofs.StoreLemmas as stores
use Rattle.lg_selx.specs.Stores.{x86_stores}
use Rattle.lg_carry.specs.Memory.Accesses.{Address, Base, At, Sum, Index, address_of}
use Rattle.lg_sel.specs.declared.reach.Reach.{Reach}
use Rattle.lg_selx.proofs.Emissions.{NoneStores, keep-none, number-keeps, Emits, none, append, more, either, instructions, plain, number, address}
use Rattle.lg_selx.proofs.SavedEmissions.{saved}
use Rattle.lg_selx_values.specs.Items.{ones}
use Rattle.lg_selx.specs.Memory.Accesses as accesses
use Rattle.lg_selx.specs.Memory.Accesses.{register, load_row, store_row, Place, at_register, at_spare, indexed, place_of, remade, load_spare, loading, storing, load_code, store_code, store_items}
use Rattle.lg_selx.specs.Memory.ArgumentCode.{argument_load, argument_code}
use Rattle.lg_selx.specs.Memory.PushCode.{into, stack_push, onto_stack, push_code}
use Rattle.lg_selx.specs.Memory.VariableArgumentCode.{next_argument_code}
use Rattle.lg_selx_values.specs.Scratch.{again}
use Rattle.lg_carry.specs.Values.Parts.{first_taken}
use Rattle.lg_temp.specs.Abis.{register_of}
use Rattle.lg_temp.specs.Chosen.{spills}
use Rattle.lg_temp.specs.declared.choice.Choice.{Choice}
use Rattle.lg_x86.specs.declared.instruction.Instr.{Instr}
use Rattle.lg_x86.specs.declared.instruction.Instr.TheVariants as instr
use Rattle.lg_x86.specs.declared.instruction.RmRegOp.TheVariants.{Mov}
use Rattle.lg_x86.specs.declared.instruction.StoreOp.TheVariants.{St64}

-- ---- instructions
indexed-none : (t a v : ℕ) → NoneStores (indexed t a v).code
indexed-none t a v = by (is_half v)
  where
    by : (b : Bool) → NoneStores (if b then at_register a (signed_view v) else at_spare t (number_row t v ∷ instr.Lea2 t t a ∷ [])).code
    by true = refl
    by false = keep-none (number_row t v ∷ instr.Lea2 t t a ∷ []) (number-keeps t v, (refl, tt))

place-none : (t : ℕ) (at : Address) → NoneStores (place_of t at).code
place-none t (Base a) = refl
place-none t (At v) = keep-none (number_row t v ∷ []) (number-keeps t v, tt)
place-none t (Sum a b) = refl
place-none t (Index a v) = indexed-none t (register_of X86_64 a) v

remade-none : (frame t : ℕ) → NoneStores (remade frame t)
remade-none frame t = by (t == 5)
  where
    by : (c : Bool) → NoneStores (if c then again frame else [])
    by true = refl
    by false = refl

behind-none : (frame : ℕ) (p : Place) → NoneStores (accesses.behind frame p)
behind-none frame p = by p.spare
  where
    by : (b : Bool) → NoneStores (if b then remade frame p.base else [])
    by true = remade-none frame p.base
    by false = refl

loading-none : (frame : ℕ) (t : ValueType) (d : ℕ) (p : Place) → NoneStores p.code → NoneStores (loading frame t d p)
loading-none frame t d p few =
    stores.none-append x86_stores p.code (instr.Load (load_row t) d p.base p.disp ∷ accesses.behind frame p) few (behind-none frame p)

storing-one : (t : StoreType) (from : ℕ) (p : Place) → NoneStores p.code → stores.stores_among x86_stores (storing t from p) ≤ 1
storing-one t from p few =
    let h = stores.among-append x86_stores p.code (instr.Store (store_row t) p.base p.disp from ∷ []) in omega (arith, h, few)

argument-none : (t : ValueType) (rd k : ℕ) → NoneStores (argument_load t rd k)
argument-none t rd k = refl

-- ---- items
pub next-arguments-emit : (reach : Reach) (is : ℕ → Bool) (n : Node) → Emits reach is 1 0 (ones (next_argument_code n))
next-arguments-emit reach is n = plain reach is 1 (next_argument_code n) refl

module _ (reach : Reach) (is : ℕ → Bool) (frame : ℕ) where
  pub loads-emit : (t : ValueType) (at : Addressing) (n : Node) → Emits reach is 1 0 (ones (load_code frame t at n))
  loads-emit t at n =
      let d : ℕ = register (operand_at n 0) in
      let a : Address = address_of at (operand_at n 1) (operand_at n 2) in
      plain reach is 1 (load_code frame t at n) (loading-none frame t d (place_of (load_spare d a) a) (place-none (load_spare d a) a))

  pub stores-emit : (t : StoreType) (at : Addressing) (n : Node) (choices : List Choice) → Emits reach is 1 (spills choices + 1) (store_items t at n choices)
  stores-emit t at n choices =
      let v : ℕ = register (operand_at n (stored_operand at)) in
      let a : Address = address_of at (operand_at n 0) (operand_at n 1) in
      let u : ℕ = first_taken choices in
      saved reach is 1 choices (ones (store_code t at n u)) (instructions reach is 1 1 (store_code t at n u) (storing-one t v (place_of u a) (place-none u a)))

  pub arguments-emit : (t : ValueType) (n : Node) → Emits reach is 1 0 (ones (argument_code frame t n))
  arguments-emit t n = plain reach is 1 (argument_code frame t n)
      (stores.none-if x86_stores (nat_lt (slot (operand_at n 1)) 16) (argument_load t (register (operand_at n 0)) (slot (operand_at n 1))) []
      (argument-none t (register (operand_at n 0)) (slot (operand_at n 1))) refl)

  puts : (rd : ℕ) (x : Operand) → Passes is x → Emits reach is 1 0 (into rd x)
  puts rd (operand.Reg r) h = plain reach is 1 (instr.RmReg Mov rd (register_of X86_64 r) ∷ []) refl
  puts rd (operand.Number v) h = number reach is 1 rd v
  puts rd (operand.Host name) h = number reach is 1 rd (host_address name)
  puts rd (operand.Label l) h = address reach is rd l.0 h
  puts rd (operand.Slot k) h = none reach is 1 0

  stack : (f j r : ℕ) (code : List Instr) → NoneStores code → Emits reach is f 1 (stack_push j r ∷ ones code)
  stack f j r code few = instructions reach is f 1 (instr.Store St64 4 (pos (8 * (j - 6))) r ∷ code) (omega (arith, few))

  loaded : (j : ℕ) (x : Operand) → Passes is x → Emits reach is 1 1 (into 5 x ++ stack_push j 5 ∷ ones (again frame))
  loaded j x h = append reach is 1 0 0 1 (into 5 x) (stack_push j 5 ∷ ones (again frame)) (puts 5 x h) (stack 0 j 5 (again frame) refl)

  stacked : (j : ℕ) (x : Operand) → Passes is x → Emits reach is 1 1 (onto_stack frame j x)
  stacked j (operand.Reg r) h = stack 1 j (register_of X86_64 r) [] refl
  stacked j (operand.Number v) h = loaded j (operand.Number v) h
  stacked j (operand.Host name) h = loaded j (operand.Host name) h
  stacked j (operand.Label l) h = loaded j (operand.Label l) h
  stacked j (operand.Slot k) h = loaded j (operand.Slot k) h

  pub pushes-emit : (j : ℕ) (n : Node) → AllPass is n.operands → Emits reach is 1 1 (push_code frame j n)
  pushes-emit j n h =
      let rd : ℕ = slice_index (argument_registers X86_64) j in
      let x : Operand = operand_at n 0 in
      let p : Passes is x = passes-at is n.operands 0 h in
      either reach is 1 1 (nat_lt j 6) (into rd x) (onto_stack frame j x) (more reach is 1 1 0 1 (into rd x) (omega arith) (omega arith) (puts rd x p)) (stacked j x p)
