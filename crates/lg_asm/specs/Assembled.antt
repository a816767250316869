-- What is kept of code, and what follows from it.
use Rattle.std.specs.Prelude.{◌≡◌, ℕ, ◌+◌, ◌*◌, ◌%◌, ◌^◌, ◌<◌, ◌≤◌, Bool, true, List, [], ◌∷◌, Some, Ok, length, slice_get, slice_index}
use Rattle.lg_cpu.specs.Steps.{Run}
use Rattle.lg_cpu.specs.States.{CpuState}
use Rattle.lg_temp.specs.Agrees.{AgreesAt}
use Rattle.lg_carry.specs.Disturbed.{IsDisturber, disturbed}
use Rattle.lg_base.specs.Arguments.{most_args}
use Rattle.lg_base.specs.Layout.{code_base, most_code}
use Rattle.lg_base.specs.declared.refusal.RefusalKind.TheVariants.{CodeFull}
use Rattle.lg_base.specs.declared.refusal.Stop.{Stop}
use Rattle.lg_base.specs.declared.refusal.Stop.TheVariants as stop
use Rattle.lg_base.specs.declared.target.Target.{Target}
use Rattle.lg_carry.specs.Agreement.{Agrees}
use Rattle.lg_carry.specs.Entries.{entry_at}
use Rattle.lg_carry.specs.FinalNodes.{Code}
use Rattle.lg_carry.specs.Stands.{Stands}
use Rattle.lg_asm.specs.Targets.{processor_of}
use Rattle.lg_cpu.specs.Laws.{AreBytes}
use Rattle.lg_cpu.specs.Targets.{run_from, start_of}
use Rattle.lg_live.specs.Liveness.{LiveSets, AreLive}
use Rattle.lg_meaning.specs.Means as mean
use Rattle.lg_meaning.specs.Addresses.{AreAddresses}
use Rattle.lg_meaning.specs.Starts.{start_state}
use Rattle.lg_meaning.specs.States.{Frame}
use Rattle.lg_node.specs.Labels.{taken_labels}
use Rattle.lg_node.specs.Nodes.{LabelledNodes}
use Rattle.lg_node.specs.Preparations.{pushed}
use Rattle.lg_node.specs.declared.unit.Unit.{Unit as TextUnit}
use Rattle.lg_node.specs.Shapes.{TextShape, IsChecked, IsShapeOf}
use Rattle.lg_op.specs.Nodes.{InForm}
use Rattle.lg_op.specs.declared.node.Node.{Node}
use Rattle.lg_op.specs.declared.op.Op.TheVariants as op
use Rattle.lg_op.specs.declared.op.PlainOp.TheVariants as plain
use Rattle.lg_op.specs.declared.operand.Label.{Label}
use Rattle.lg_op.specs.declared.operand.Operand.TheVariants as operand
use Rattle.lg_opt.specs.Rewritings.{IsTidy, IsOrigin, KeepsOthers, CarriesAddresses, RunsAreFollowed}
use Rattle.lg_dead.specs.Known.{HasNoFolds}
use Rattle.lg_dead.specs.Dead.{HasNoDeadButMoves}
use Rattle.lg_dead.specs.Rewritten.{is_droppable, IsRewrittenNode, AreFinal}
use Rattle.std.specs.List.{All}
use Rattle.lg_asm.specs.Lowered.{is_marked, is_outward, ArePlaces, AreOf, AreNodesCoded, HasNoRoomFor}
use Rattle.lg_asm.specs.NodeChoices.{spills_in}

-- the target, the size of the buffer in which the code was made, marks of the nodes that begin the functions which are called from outside, the bytes, the
-- final nodes with their shape, the registers that are live before and after each, the places of the nodes and of the end, the addresses of the labels, the
-- index of the text's node from which each comes, and how many registers are saved for temporaries
pub record Assembled : Type 0 where
  pub target : Target
  pub size : ℕ
  pub outward : List Bool
  pub bytes : List ℕ
  pub nodes : LabelledNodes
  pub shape : TextShape
  pub live : LiveSets
  pub places : List ℕ
  pub labels : List ℕ
  pub origin : List ℕ
  pub spills : ℕ

-- how many arguments are pushed before each of the first nodes
pub record ArePushed (nodes : List Node) (xs : List ℕ) (count : ℕ) : Type 0 where
  pub counted : length xs ≡ count
  pub each : (i : ℕ) → i < count → slice_index xs i ≡ pushed nodes i
  pub few : (i : ℕ) → i < count → slice_index xs i ≤ 16

-- the nodes are accepted and tidy, none of them can be folded, and none but a `movr` is a dead definition; each comes from a node of the text, in their
-- order; they are at their places, between which are their bytes; a label that is bound at a node has the address of its place
pub record IsCode (c : Assembled) : Type 0 where
  pub shape_is : IsShapeOf c.nodes c.shape
  pub tidy : IsTidy c.nodes
  pub folds : HasNoFolds c.nodes
  pub dead : HasNoDeadButMoves c.nodes c.shape
  pub counted : length c.origin ≡ length c.nodes.nodes
  pub rises : (i k : ℕ) → i < k → k < length c.origin → slice_index c.origin i < slice_index c.origin k
  pub live_are : AreLive c.nodes c.shape c.live
  pub small : length c.bytes ≤ most_code
  pub within : length c.bytes ≤ c.size
  pub are_bytes : AreBytes c.bytes
  pub ordered : ArePlaces c.nodes c.places (length c.bytes)
  pub addresses : AreAddresses c.nodes (length c.bytes) c.labels
  pub addressed : AreOf c.nodes c.places c.labels
  pub coded : AreNodesCoded c.target c.nodes c.shape c.live (is_marked c.nodes c.outward) c.size c.places c.labels c.bytes
  pub saved : c.spills ≡ spills_in c.target c.nodes.nodes c.live (length c.nodes.nodes)

-- ---- laws
-- the final nodes come from those of a text with this shape: addresses of their labels are addresses of the text's, and over such their run follows
-- the text's
pub record ComesFrom (l : LabelledNodes) (shape : TextShape) (c : Assembled) : Type 0 where
  pub checked : IsChecked l (Ok shape)
  pub formed : All InForm l.nodes
  pub addresses : CarriesAddresses l c.nodes
  pub runs : RunsAreFollowed l shape c.nodes c.shape

-- such code agrees with the portable meaning of the text over every data part
abbrev pub CodeAgrees : Type 0
CodeAgrees =
    (c : Assembled) (unit : TextUnit) (shape : TextShape) → IsCode c → ComesFrom unit.nodes shape c → AreBytes unit.image
    → length unit.image ≤ 0x1000000 → Agrees c.bytes c.labels unit c.target

-- so does its run on a processor whose bytes below the stack pointer and its zone change in any way after each instruction, as the handlers of signals change
-- them that run on the code's own stack
abbrev pub CodeWithstands : Type 0
CodeWithstands =
    (c : Assembled) (unit : TextUnit) (shape : TextShape) → IsCode c → ComesFrom unit.nodes shape c → AreBytes unit.image → length unit.image ≤ 0x1000000
    → (args : List ℕ) (trash n : ℕ) (d : ℕ → Run CpuState → Run CpuState) → AreBytes args → length args ≤ most_args → trash < 2 ^ 64
    → IsDisturber (processor_of c.target c.bytes trash) d
    → AgreesAt (mean.machine unit.nodes shape c.labels) (disturbed (processor_of c.target c.bytes trash) d).machine (length unit.nodes.nodes)
    (mean.run_at (start_state unit.image args) []) (run_from c.target unit.image args trash, 0) n

-- the parts of the memory and the word that is in what nothing has set
pub record MayStart (image args : List ℕ) (trash : ℕ) : Type 0 where
  pub image_bytes : AreBytes image
  pub image_few : length image ≤ 0x1000000
  pub args_bytes : AreBytes args
  pub args_few : length args ≤ most_args
  pub word : trash < 2 ^ 64

-- the processor at the start of the code of an accepted text corresponds to the meaning at its start, whatever is live
abbrev pub StartStands : Type 0
StartStands =
    (target : Target) (c : Code) (code image args : List ℕ) (trash : ℕ) (live : Frame → ℕ → Bool) (S : ℕ → Bool) → MayStart image args trash
    → IsShapeOf c.nodes c.shape
    → c.place 0 ≡ code_base → c.outward (entry_at c.nodes 0) ≡ true → (start_of target image args trash).registers ≡ c.outer
    → Stands (processor_of target code trash) c live (start_state image args) [] (run_from target image args trash) S

-- after each `.align` of the text the code is at a multiple of its number
abbrev pub AlignsStand : Type 0
AlignsStand =
    (c : Assembled) (l : LabelledNodes) (i number : ℕ) (node : Node) → IsCode c → KeepsOthers is_droppable l c.origin
    → IsOrigin IsRewrittenNode l c.nodes c.origin → slice_get l.nodes i ≡ Some node
    → node.op ≡ op.Plain plain.Align → node.operands ≡ operand.Number number ∷ []
    → (k : ℕ) × (slice_get c.origin k ≡ Some i) × (slice_index c.places (k + 1) % number ≡ 0)

-- ---- refusals
-- a text with these labels of functions that are called from outside has no room in a size: at one of its final nodes fewer than 256 bytes were free after the
-- code of those before
pub record HasNoRoomWith (target : Target) (l : LabelledNodes) (entries : List Label) (size : ℕ) : Type 0 where
  pub nodes : LabelledNodes
  pub shape : TextShape
  pub origin : List ℕ
  pub final : AreFinal l nodes shape origin
  pub taken : shape.taken ≡ taken_labels l
  pub room : HasNoRoomFor target nodes shape (is_outward nodes entries) size

-- that of code that has no room, and only where the nodes could have more bytes than the size
abbrev pub IsRefusedWith : Target → LabelledNodes → List Label → ℕ → Stop → Type 0
IsRefusedWith target l entries size (stop.Refused r) =
    (r ≡ record { kind = CodeFull; line = 0 }) × (size < 256 * length l.nodes + 256) × HasNoRoomWith target l entries size
IsRefusedWith target l entries size stop.OutOfMemory = Unit {0}

-- where none but the entry is called from outside
abbrev pub HasNoRoom : Target → LabelledNodes → ℕ → Type 0
HasNoRoom target l size = HasNoRoomWith target l [] size

abbrev pub IsRefusedBy : Target → LabelledNodes → ℕ → Stop → Type 0
IsRefusedBy target l size s = IsRefusedWith target l [] size s

-- the same of nodes that are final
abbrev pub IsRefusedFor : Target → LabelledNodes → TextShape → (ℕ → Bool) → ℕ → Stop → Type 0
IsRefusedFor target l shape outward size (stop.Refused r) =
    (r ≡ record { kind = CodeFull; line = 0 }) × (size < 256 * length l.nodes + 256) × HasNoRoomFor target l shape outward size
IsRefusedFor target l shape outward size stop.OutOfMemory = Unit {0}
