-- Loads: what a target's code of them does, and that nodes with this code are carried.
use Rattle.std.specs.Prelude.{◌≡◌, ◌≢◌, ℕ, ◌+◌, ◌^◌, ◌<◌, ◌≤◌, Bool, true, false, List, [], length, slice_index_or, Option, Some}
use Rattle.lg_base.specs.Conventions.{frame_register, stack_register}
use Rattle.lg_base.specs.Spaces.{loaded}
use Rattle.lg_node.specs.Preparations.{pushed}
use Rattle.lg_op.specs.declared.node.Node.{Node}
use Rattle.lg_op.specs.declared.op.Addressing.{Addressing}
use Rattle.lg_op.specs.declared.op.Op.TheVariants as op
use Rattle.lg_op.specs.declared.op.ValueType.{ValueType}
use Rattle.lg_op.specs.declared.operand.Reg.{Reg}
use Rattle.lg_op.specs.declared.operand.Reg.TheVariants.{Fp}
use Rattle.lg_op.specs.Operators.{width, extended_by_type}
use Rattle.lg_meaning.specs.Steps.{operand_at}
use Rattle.lg_temp.specs.Abis.{register_of}
use Rattle.lg_temp.specs.Choices.{AreFor}
use Rattle.lg_temp.specs.Chosen.{around}
use Rattle.lg_temp.specs.declared.choice.Choice.{Choice}
use Rattle.lg_temp.specs.declared.choice.Need.{Need}
use Rattle.lg_carry.specs.Blocks.{spellings}
use Rattle.lg_carry.specs.FinalNodes.{Code}
use Rattle.lg_carry.specs.NodeBlocks.{IsNodeBlock}
use Rattle.lg_carry.specs.NodeCode.{numbered, CarriesNode}
use Rattle.lg_carry.specs.Passages.{IsNodeCode}
use Rattle.lg_carry.specs.Processors.{Seen}
use Rattle.lg_carry.specs.Rows.{Rows}
use Rattle.lg_carry.specs.Spills.{Does, in_slots, with_register, wrapped, spilled}
use Rattle.lg_carry.specs.TextNodes.{IsInText, IsFrameOf}
use Rattle.lg_carry.specs.Nodes.Straight.{spoils, from_to, NeedWell}
use Rattle.lg_carry.specs.Nodes.Stretches.{HasFrame}
use Rattle.lg_carry.specs.Memory.Accesses.{Address, address_of, address_word, IsAddress, LiesAbove}
use Rattle.lg_carry.specs.Memory.Crossings.{CrossesCode}
use Rattle.lg_carry.specs.Memory.Operands.{named, names_label, HasWords}

-- the code of a load by a type into a register, in a frame of this many bytes
abbrev pub LoadCode : Type 0 → Type 0
LoadCode I = ℕ → ValueType → Reg → Address → List I

-- a number is read there, whatever the spill slots hold
abbrev pub IsReadable : Seen → ℕ → ℕ → ℕ → ℕ → Type 0
IsReadable q fp a w v = (bytes : ℕ → Option ℕ) → ((j : ℕ) → in_slots fp j ≡ false → bytes j ≡ q.bytes j) → loaded bytes a w ≡ Some v

-- code with temporaries leaves what is read at an address in a register, and changes no other but temporaries and scratch registers
abbrev pub Reads : {Q I : Type 0} → Rows Q I → (ℕ → Bool) → List Choice → ValueType → Reg → Q → ℕ → List I → Type 0
Reads {Q} R scratch choices t d q v code =
    Does R
    (from_to (R.processor.seen q)
    (with_register (R.processor.seen q).registers (register_of R.processor.target d) (extended_by_type t v))
    (R.processor.seen q).bytes (R.processor.seen q).flags)
    code ((R.processor.seen q).registers (frame_register R.processor.target)) (spilled choices) (spoils scratch choices)

-- code does so with a load's address, whatever it is a multiple of; its bytes end by 2^64
abbrev pub LoadDoes : {Q I : Type 0} → Rows Q I → (ℕ → Bool) → List Choice → ℕ → ValueType → Reg → Address → List I → Type 0
LoadDoes {Q} R scratch choices frame t d at code =
    (q : Q) (a v : ℕ) → d ≢ Fp → IsAddress at → HasFrame R.processor.target frame (R.processor.seen q)
    → address_word R.processor.target (R.processor.seen q).registers at ≡ a → a + width t ≤ 2 ^ 64
    → IsReadable (R.processor.seen q) ((R.processor.seen q).registers (frame_register R.processor.target)) a (width t) v
    → LiesAbove R.processor.target ((R.processor.seen q).registers (stack_register R.processor.target)) a (width t) → v < 256 ^ width t
    → Reads R scratch choices t d q v code

-- code that may branch within itself does so
abbrev pub LoadCrosses : {Q I : Type 0} → Rows Q I → (I → Type 0) → (ℕ → Bool) → List Choice → ℕ → ValueType → Reg → Address → List I → Type 0
LoadCrosses {Q} R fits scratch choices frame t d at code =
    (q : Q) (a v : ℕ) → d ≢ Fp → IsAddress at → HasFrame R.processor.target frame (R.processor.seen q)
    → address_word R.processor.target (R.processor.seen q).registers at ≡ a → a + width t ≤ 2 ^ 64
    → IsReadable (R.processor.seen q) ((R.processor.seen q).registers (frame_register R.processor.target)) a (width t) v
    → LiesAbove R.processor.target ((R.processor.seen q).registers (stack_register R.processor.target)) a (width t) → v < 256 ^ width t
    → CrossesCode R fits
    (from_to (R.processor.seen q)
    (with_register (R.processor.seen q).registers (register_of R.processor.target d) (extended_by_type t v))
    (R.processor.seen q).bytes (R.processor.seen q).flags)
    code ((R.processor.seen q).registers (frame_register R.processor.target)) (spilled choices) (spoils scratch choices)

-- so does the code of each load, without temporaries
abbrev pub LoadsDo : {Q I : Type 0} → Rows Q I → (ℕ → Bool) → LoadCode I → Type 0
LoadsDo R scratch code = (frame : ℕ) (t : ValueType) (d : Reg) (at : Address) → LoadDoes R scratch [] frame t d at (code frame t d at)

abbrev pub HasCode : {Q I : Type 0} → Rows Q I → LoadCode I → Type 0
HasCode R code = (frame : ℕ) (t : ValueType) (d : Reg) (at : Address) → 0 < length (spellings R.spelling (code frame t d at))

-- the code of a node that loads
abbrev pub load_of : {I : Type 0} → LoadCode I → ℕ → ValueType → Addressing → Node → List I
load_of code frame t at n = code frame t (named (operand_at n 0)) (address_of at (operand_at n 1) (operand_at n 2))

-- a load that names no label is carried by it, whatever is live after it
abbrev pub LoadsCarry : {Q I : Type 0} → Rows Q I → (I → Type 0) → LoadCode I → Type 0
LoadsCarry R fits code =
    (c : Code) (i : ℕ) (n : Node) (t : ValueType) (at : Addressing) (frame : ℕ) (S : ℕ → Bool) → n.op ≡ op.Load t at → names_label n ≡ false → HasWords n
    → IsInText c i n → IsFrameOf c i frame → IsNodeBlock R fits c i (load_of code frame t at n) → CarriesNode R.processor c i n S

-- and so is it by code with temporaries, saved or not, which are chosen for its needs; the staged arguments are at least those that are pushed at the node
abbrev pub LoadsWithTemporariesCarry : {Q I : Type 0} → Rows Q I → (ℕ → Bool) → (I → Type 0) → Type 0
LoadsWithTemporariesCarry {Q} {I} R scratch fits =
    (c : Code) (i : ℕ) (n : Node) (t : ValueType) (at : Addressing) (frame : ℕ) (live : Reg → Bool) (staged : List Bool) (needs : List Need)
    (choices : List Choice) (body : List I) → n.op ≡ op.Load t at → names_label n ≡ false → HasWords n → NeedWell R needs → length needs ≤ 3
    → AreFor (around R.processor.target n live staged) needs [] needs choices → ((j : ℕ) → j < pushed c.nodes.nodes i → slice_index_or staged j false ≡ true)
    → IsInText c i n → IsFrameOf c i frame → IsNodeCode R fits c i (wrapped R choices body) → 0 < length (spellings R.spelling body)
    → LoadCrosses R fits scratch choices frame t (named (operand_at n 0)) (address_of at (operand_at n 1) (operand_at n 2)) body
    → CarriesNode R.processor c i n (numbered live)
