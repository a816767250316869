-- Stores: what a target's code of them does, and that nodes with this code are carried.
use Rattle.std.specs.Prelude.{◌≡◌, ℕ, ◌+◌, ◌^◌, ◌<◌, ◌≤◌, Bool, true, false, List, [], length, slice_index_or, Option}
use Rattle.lg_base.specs.Conventions.{frame_register, stack_register}
use Rattle.lg_base.specs.Spaces.{mapped, stored}
use Rattle.lg_node.specs.Preparations.{pushed}
use Rattle.lg_op.specs.declared.node.Node.{Node}
use Rattle.lg_op.specs.declared.op.Addressing.{Addressing}
use Rattle.lg_op.specs.declared.op.Op.TheVariants as op
use Rattle.lg_op.specs.declared.op.StoreType.{StoreType}
use Rattle.lg_op.specs.declared.operand.Reg.{Reg}
use Rattle.lg_op.specs.Operators.{store_width}
use Rattle.lg_meaning.specs.Steps.{operand_at, stored_operand}
use Rattle.lg_temp.specs.Abis.{register_of}
use Rattle.lg_temp.specs.Choices.{AreFor}
use Rattle.lg_temp.specs.Chosen.{around}
use Rattle.lg_temp.specs.declared.choice.Choice.{Choice}
use Rattle.lg_temp.specs.declared.choice.Need.{Need}
use Rattle.lg_carry.specs.Blocks.{spellings}
use Rattle.lg_carry.specs.FinalNodes.{Code}
use Rattle.lg_carry.specs.NodeBlocks.{IsNodeBlock}
use Rattle.lg_carry.specs.NodeCode.{numbered, CarriesNode}
use Rattle.lg_carry.specs.Passages.{IsNodeCode}
use Rattle.lg_carry.specs.Processors.{Seen}
use Rattle.lg_carry.specs.Rows.{Rows}
use Rattle.lg_carry.specs.Spills.{Does, in_slots, wrapped, spilled}
use Rattle.lg_carry.specs.TextNodes.{IsInText, IsFrameOf}
use Rattle.lg_carry.specs.Nodes.Straight.{spoils, from_to, NeedWell}
use Rattle.lg_carry.specs.Nodes.Stretches.{HasFrame}
use Rattle.lg_carry.specs.Memory.Accesses.{Address, address_of, address_word, IsAddress, LiesAbove}
use Rattle.lg_carry.specs.Memory.Crossings.{CrossesCode}
use Rattle.lg_carry.specs.Memory.Operands.{named, names_label, HasWords}

-- the code of a store by a type of a register, in a frame of this many bytes
abbrev pub StoreCode : Type 0 → Type 0
StoreCode I = ℕ → StoreType → Address → Reg → List I

-- there is memory there, whatever the spill slots hold
abbrev pub IsWritable : Seen → ℕ → ℕ → ℕ → Type 0
IsWritable q fp a w = (bytes : ℕ → Option ℕ) → ((j : ℕ) → in_slots fp j ≡ false → bytes j ≡ q.bytes j) → mapped bytes a w ≡ true

-- none of this many bytes is one of a spill slot
abbrev pub IsOffSlots : ℕ → ℕ → ℕ → Type 0
IsOffSlots fp a w = (j : ℕ) → j < w → in_slots fp (a + j) ≡ false

-- code with temporaries stores a register at an address, whatever it is a multiple of, and changes no register but temporaries and scratch registers;
-- the bytes end by 2^64, and none is one of a spill slot
abbrev pub StoreDoes : {Q I : Type 0} → Rows Q I → (ℕ → Bool) → List Choice → ℕ → StoreType → Address → Reg → List I → Type 0
StoreDoes {Q} R scratch choices frame t at b code =
    (q : Q) (a : ℕ) → IsAddress at → HasFrame R.processor.target frame (R.processor.seen q)
    → address_word R.processor.target (R.processor.seen q).registers at ≡ a → a + store_width t ≤ 2 ^ 64
    → IsWritable (R.processor.seen q) ((R.processor.seen q).registers (frame_register R.processor.target)) a (store_width t)
    → LiesAbove R.processor.target ((R.processor.seen q).registers (stack_register R.processor.target)) a (store_width t)
    → IsOffSlots ((R.processor.seen q).registers (frame_register R.processor.target)) a (store_width t)
    → Does R
    (from_to (R.processor.seen q) (R.processor.seen q).registers
    (stored (R.processor.seen q).bytes a (store_width t) ((R.processor.seen q).registers (register_of R.processor.target b)))
    (R.processor.seen q).flags)
    code ((R.processor.seen q).registers (frame_register R.processor.target)) (spilled choices) (spoils scratch choices)

-- code that may branch within itself does so
abbrev pub StoreCrosses : {Q I : Type 0} → Rows Q I → (I → Type 0) → (ℕ → Bool) → List Choice → ℕ → StoreType → Address → Reg → List I → Type 0
StoreCrosses {Q} R fits scratch choices frame t at b code =
    (q : Q) (a : ℕ) → IsAddress at → HasFrame R.processor.target frame (R.processor.seen q)
    → address_word R.processor.target (R.processor.seen q).registers at ≡ a → a + store_width t ≤ 2 ^ 64
    → IsWritable (R.processor.seen q) ((R.processor.seen q).registers (frame_register R.processor.target)) a (store_width t)
    → LiesAbove R.processor.target ((R.processor.seen q).registers (stack_register R.processor.target)) a (store_width t)
    → IsOffSlots ((R.processor.seen q).registers (frame_register R.processor.target)) a (store_width t)
    → CrossesCode R fits
    (from_to (R.processor.seen q) (R.processor.seen q).registers
    (stored (R.processor.seen q).bytes a (store_width t) ((R.processor.seen q).registers (register_of R.processor.target b)))
    (R.processor.seen q).flags)
    code ((R.processor.seen q).registers (frame_register R.processor.target)) (spilled choices) (spoils scratch choices)

-- so does the code of each store, without temporaries
abbrev pub StoresDo : {Q I : Type 0} → Rows Q I → (ℕ → Bool) → StoreCode I → Type 0
StoresDo R scratch code = (frame : ℕ) (t : StoreType) (at : Address) (b : Reg) → StoreDoes R scratch [] frame t at b (code frame t at b)

abbrev pub HasStoreCode : {Q I : Type 0} → Rows Q I → StoreCode I → Type 0
HasStoreCode R code = (frame : ℕ) (t : StoreType) (at : Address) (b : Reg) → 0 < length (spellings R.spelling (code frame t at b))

-- the code of a node that stores
abbrev pub store_of : {I : Type 0} → StoreCode I → ℕ → StoreType → Addressing → Node → List I
store_of code frame t at n = code frame t (address_of at (operand_at n 0) (operand_at n 1)) (named (operand_at n (stored_operand at)))

-- a store that names no label is carried by it, whatever is live after it
abbrev pub StoresCarry : {Q I : Type 0} → Rows Q I → (I → Type 0) → StoreCode I → Type 0
StoresCarry R fits code =
    (c : Code) (i : ℕ) (n : Node) (t : StoreType) (at : Addressing) (frame : ℕ) (S : ℕ → Bool) → n.op ≡ op.Store t at → names_label n ≡ false → HasWords n
    → IsInText c i n → IsFrameOf c i frame → IsNodeBlock R fits c i (store_of code frame t at n) → CarriesNode R.processor c i n S

-- and so is it by code with temporaries, saved or not, which are chosen for its needs; the staged arguments are at least those that are pushed at the node
abbrev pub StoresWithTemporariesCarry : {Q I : Type 0} → Rows Q I → (ℕ → Bool) → (I → Type 0) → Type 0
StoresWithTemporariesCarry {Q} {I} R scratch fits =
    (c : Code) (i : ℕ) (n : Node) (t : StoreType) (at : Addressing) (frame : ℕ) (live : Reg → Bool) (staged : List Bool) (needs : List Need)
    (choices : List Choice) (body : List I) → n.op ≡ op.Store t at → names_label n ≡ false → HasWords n → NeedWell R needs → length needs ≤ 3
    → AreFor (around R.processor.target n live staged) needs [] needs choices → ((j : ℕ) → j < pushed c.nodes.nodes i → slice_index_or staged j false ≡ true)
    → IsInText c i n → IsFrameOf c i frame → IsNodeCode R fits c i (wrapped R choices body) → 0 < length (spellings R.spelling body)
    → StoreCrosses R fits scratch choices frame t (address_of at (operand_at n 0) (operand_at n 1)) (named (operand_at n (stored_operand at))) body
    → CarriesNode R.processor c i n (numbered live)
