-- The items of loads, stores and arguments write no register that is outside of the conventions, and name no label but that of an operand.
use Rattle.std.proofs.Common.{◌≡◌, ℕ, ◌<◌, ◌^◌, Bool, true, false, List, [], ◌∷◌, ◌++◌, refl}
use Rattle.std.specs.Prelude.{nat_lt, slice_index, if◌then◌else◌, ◌==◌}
use Rattle.lg_base.specs.Conventions.{argument_registers}
use Rattle.lg_base.specs.HostNames.{host_address}
use Rattle.lg_base.specs.Words.{signed_view, is_half}
use Rattle.lg_base.specs.declared.target.Target.TheVariants.{X86_64}
use Rattle.lg_op.specs.declared.node.Node.{Node}
use Rattle.lg_op.specs.declared.op.StoreType.{StoreType}
use Rattle.lg_op.specs.declared.op.ValueType.{ValueType}
use Rattle.lg_op.specs.declared.operand.Label.{Label}
use Rattle.lg_op.specs.declared.operand.Operand.{Operand}
use Rattle.lg_op.specs.declared.operand.Operand.TheVariants as operand
use Rattle.lg_x86.specs.declared.instruction.Instr.{Instr}
use Rattle.lg_x86.specs.declared.instruction.Instr.TheVariants as instr
use Rattle.lg_meaning.specs.Steps.{operand_at, stored_operand, slot}
use Rattle.lg_temp.specs.Abis.{register_of}
use Rattle.lg_selx_values.specs.Processor.Destinations.{WritesWithin}
use Rattle.lg_selx_values.specs.Processor.Numbers.{number_row}
use Rattle.lg_carry.specs.Memory.Accesses.{Address, Base, At, Sum, Index, address_of}
use Rattle.lg_carry.specs.Memory.Operands.{named}
use Rattle.lg_selx_values.specs.declared.items.Item.{Item}
use Rattle.lg_selx_values.specs.declared.items.Item.TheVariants.{One}
use Rattle.lg_selx_values.specs.Items.{ones, NameLabels, StayWithin}
use Rattle.lg_selx_values.proofs.ItemLemmas.{names-append, names-ones}
use Rattle.lg_selx_values.proofs.WithinLemmas.{In, Within, portable, join, stay-append, stay-ones}
use Rattle.lg_selx_values.specs.Scratch.{again}
use Rattle.lg_selx_values.specs.ValueItems.{restore, saved_items}
use Rattle.lg_selx.specs.Memory.Accesses.{register, load_row, store_row, Place, at_register, at_spare, place_of, behind, indexes, load_spare, load_into, store_from, load_code, store_code}
use Rattle.lg_selx.specs.Memory.ArgumentCode.{argument_load, argument_code}
use Rattle.lg_selx.specs.Memory.MemoryFits.{MemoryItemsStay, MemoryItemsName}
use Rattle.lg_selx.specs.Memory.PushCode.{into, stack_push, onto_stack, push_code}
use Rattle.lg_selx.specs.Memory.VariableArgumentCode.{next_code, next_argument_code}
use Rattle.lg_selx.proofs.OfMemory.FitLemmas.{argument-fine}
use Rattle.lg_selx.proofs.OfMemory.TemporaryLemmas.{AreOne, choices-are}
use Rattle.lg_carry.specs.Values.Parts.{first_taken}
use Rattle.lg_temp.specs.declared.choice.Choice.{Choice}
use Rattle.lg_temp.specs.declared.choice.Choice.TheVariants.{Free, Own, Spill}

-- ---- registers
number : (r v : ℕ) → In r → WritesWithin false (number_row r v)
number r v h = by (nat_lt v (2 ^ 32)) (is_half v)
  where
    by : (b c : Bool) → WritesWithin false (if b then instr.Movi32 r v else if c then instr.Movs32 r (signed_view v) else instr.Movi64 r v)
    by true c = (h, tt)
    by false true = (h, tt)
    by false false = (h, tt)

place-within : (t : ℕ) (at : Address) → In t → Within (place_of t at).code
place-within t (Base a) h = tt
place-within t (At v) h = (number t v h, tt)
place-within t (Sum a b) h = ((h, tt), tt)
place-within t (Index a v) h = by (is_half v)
  where
    by : (b : Bool) → Within (if b then at_register (register_of X86_64 a) (signed_view v) else at_spare t (number_row t v ∷ (instr.Lea2 t t (register_of X86_64 a) ∷ []))).code
    by true = tt
    by false = (number t v h, ((h, tt), tt))

after-within : (frame : ℕ) (p : Place) → Within (behind frame p)
after-within frame p = by p.spare (p.base == 5)
  where
    by : (a c : Bool) → Within (if a then (if c then again frame else []) else [])
    by true true = ((refl, tt), tt)
    by true false = tt
    by false c = tt

around : (frame : ℕ) (p : Place) (i : Instr) → Within p.code → WritesWithin false i → Within (p.code ++ i ∷ behind frame p)
around frame p i h k = join p.code (i ∷ behind frame p) h (k, after-within frame p)

load-spare-in : (d : ℕ) (at : Address) → In d → In (load_spare d at)
load-spare-in d at h = by (indexes d at)
  where
    by : (b : Bool) → In (if b then 5 else d)
    by true = refl
    by false = h

loads : (frame : ℕ) (t : ValueType) (d : ℕ) (at : Address) → In d → Within (load_into frame t d at)
loads frame t d at h =
    let p = place_of (load_spare d at) at in
    around frame p (instr.Load (load_row t) d p.base p.disp) (place-within (load_spare d at) at (load-spare-in d at h)) (h, tt)

stores : (t : StoreType) (from u : ℕ) (at : Address) → In u → Within (store_from t from u at)
stores t from u at h = let p = place_of u at in join p.code (instr.Store (store_row t) p.base p.disp from ∷ []) (place-within u at h) (tt, tt)

-- with its choice
stored : (code : ℕ → List Instr) → ((u : ℕ) → In u → Within (code u)) → (choices : List Choice) → AreOne choices
    → StayWithin false (saved_items choices (ones (code (first_taken choices))))
stored code within [] h = stay-ones (code 0) (within 0 refl)
stored code within (Free u ∷ []) h = stay-ones (code u) (within u h.1)
stored code within (Own u ∷ []) h = absurd h
stored code within (choice ∷ next ∷ choices) h = absurd h
stored code within (Spill u k ∷ []) h = (tt, stay-append (ones (code u)) (One (restore u k) ∷ []) (stay-ones (code u) (within u h.0.1)) ((h.0.1, tt), tt))

arguments : (frame : ℕ) (t : ValueType) (n : Node) → Within (argument_code frame t n)
arguments frame t n = by (nat_lt (slot (operand_at n 1)) 16)
  where
    by : (b : Bool) → Within (if b then argument_load t (register (operand_at n 0)) (slot (operand_at n 1)) else [])
    by true = ((portable (named (operand_at n 0)), tt), tt)
    by false = tt

next : (rd rs : ℕ) → In rd → In rs → Within (next_code rd rs)
next rd rs d s = ((d, tt), ((d, tt), ((d, tt), ((d, tt), ((d, tt), ((d, tt), ((d, tt), ((s, tt), tt))))))))

puts : (rd : ℕ) (x : Operand) → In rd → StayWithin false (into rd x)
puts rd (operand.Reg r) h = ((h, tt), tt)
puts rd (operand.Number v) h = (number rd v h, tt)
puts rd (operand.Host name) h = (number rd (host_address name) h, tt)
puts rd (operand.Label l) h = (h, tt)
puts rd (operand.Slot k) h = tt

through : (frame j : ℕ) (x : Operand) → StayWithin false (into 5 x ++ stack_push j 5 ∷ ones (again frame))
through frame j x = stay-append (into 5 x) (stack_push j 5 ∷ ones (again frame)) (puts 5 x refl) (tt, ((refl, tt), tt))

stacked : (frame j : ℕ) (x : Operand) → StayWithin false (onto_stack frame j x)
stacked frame j (operand.Reg r) = (tt, tt)
stacked frame j (operand.Number v) = through frame j (operand.Number v)
stacked frame j (operand.Host name) = through frame j (operand.Host name)
stacked frame j (operand.Label l) = through frame j (operand.Label l)
stacked frame j (operand.Slot k) = through frame j (operand.Slot k)

pushes : (frame j : ℕ) (n : Node) → StayWithin false (push_code frame j n)
pushes frame j n = by (nat_lt j 6)
  where
    by : (b : Bool) → StayWithin false (if b then into (slice_index (argument_registers X86_64) j) (operand_at n 0) else onto_stack frame j (operand_at n 0))
    by true = puts (slice_index (argument_registers X86_64) j) (operand_at n 0) (argument-fine j).1
    by false = stacked frame j (operand_at n 0)

pub memory-items-stay : MemoryItemsStay
memory-items-stay = record {
  loads = λ frame t at n.
      stay-ones (load_code frame t at n)
      (loads frame t (register (operand_at n 0)) (address_of at (operand_at n 1) (operand_at n 2)) (portable (named (operand_at n 0))));
  stores = λ t at n live staged choices are.
      stored (store_code t at n)
      (λ u h. stores t (register (operand_at n (stored_operand at))) u (address_of at (operand_at n 0) (operand_at n 1)) h)
      choices (choices-are at n live staged choices are);
  arguments = λ frame t n. stay-ones (argument_code frame t n) (arguments frame t n);
  next_arguments = λ n.
      stay-ones (next_argument_code n)
      (next (register (operand_at n 0)) (register (operand_at n 1)) (portable (named (operand_at n 0))) (portable (named (operand_at n 1))));
  pushes = pushes;
}

-- ---- labels
module _ (labels : ℕ) where
  saved-names : (choices : List Choice) (body : List Item) → NameLabels labels body → NameLabels labels (saved_items choices body)
  saved-names [] body h = h
  saved-names (Free r ∷ choices) body h = saved-names choices body h
  saved-names (Own r ∷ choices) body h = saved-names choices body h
  saved-names (Spill r k ∷ choices) body h = (tt, names-append labels (saved_items choices body) (One (restore r k) ∷ []) (saved-names choices body h) (tt, tt))

  names : (rd : ℕ) (x : Operand) → ((l : Label) → x ≡ operand.Label l → l.0 < labels) → NameLabels labels (into rd x)
  names rd (operand.Reg r) h = (tt, tt)
  names rd (operand.Number v) h = (tt, tt)
  names rd (operand.Host name) h = (tt, tt)
  names rd (operand.Label l) h = (h l refl, tt)
  names rd (operand.Slot k) h = tt

  linked : (frame j : ℕ) (x : Operand) → ((l : Label) → x ≡ operand.Label l → l.0 < labels) → NameLabels labels (into 5 x ++ stack_push j 5 ∷ ones (again frame))
  linked frame j x h = names-append labels (into 5 x) (stack_push j 5 ∷ ones (again frame)) (names 5 x h) (tt, (tt, tt))

  onto : (frame j : ℕ) (x : Operand) → ((l : Label) → x ≡ operand.Label l → l.0 < labels) → NameLabels labels (onto_stack frame j x)
  onto frame j (operand.Reg r) h = (tt, tt)
  onto frame j (operand.Number v) h = linked frame j (operand.Number v) h
  onto frame j (operand.Host name) h = linked frame j (operand.Host name) h
  onto frame j (operand.Label l) h = linked frame j (operand.Label l) h
  onto frame j (operand.Slot k) h = linked frame j (operand.Slot k) h

  passes : (frame j : ℕ) (n : Node) → ((l : Label) → operand_at n 0 ≡ operand.Label l → l.0 < labels) → NameLabels labels (push_code frame j n)
  passes frame j n h = by (nat_lt j 6)
    where
      by : (b : Bool) → NameLabels labels (if b then into (slice_index (argument_registers X86_64) j) (operand_at n 0) else onto_stack frame j (operand_at n 0))
      by true = names (slice_index (argument_registers X86_64) j) (operand_at n 0) h
      by false = onto frame j (operand_at n 0) h

pub memory-items-name : MemoryItemsName
memory-items-name = record {
  loads = λ labels frame t at n. names-ones labels (load_code frame t at n);
  stores = λ labels t at n choices. saved-names labels choices (ones (store_code t at n (first_taken choices))) (names-ones labels (store_code t at n (first_taken choices)));
  arguments = λ labels frame t n. names-ones labels (argument_code frame t n);
  next_arguments = λ labels n. names-ones labels (next_argument_code n);
  pushes = passes;
}
