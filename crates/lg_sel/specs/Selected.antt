-- What is asked of a node and its buffer, and when the buffer is finished, on every target.
use Rattle.std.specs.Prelude.{◌≡◌, ℕ, ◌+◌, ◌-◌, ◌%◌, ◌^◌, ◌<◌, ◌≤◌, ◌||◌, ⊤, Bool, true, false, List, [], ◌∷◌, ◌++◌, length, take, drop, replicate, slice_index, slice_index_or, Option, Some, None}
use Rattle.std.specs.List.{All, list_any}
use Rattle.lg_base.specs.Layout.{code_base, most_code}
use Rattle.lg_base.specs.declared.target.Target.{Target}
use Rattle.lg_buf.specs.declared.fixes.Fix.{Fix}
use Rattle.lg_buf.specs.declared.fixes.FixKind.{FixKind}
use Rattle.lg_buf.specs.Buffers.{Buffer, AreDone, place_of}
use Rattle.lg_buf.specs.Fixing.{IsWithin, Fits}
use Rattle.lg_carry.specs.Blocks.{spellings}
use Rattle.lg_carry.specs.FinalNodes.{Code, saved_at}
use Rattle.lg_sel.specs.Control.Prologs.{IsHomesOf}
use Rattle.lg_carry.specs.TextNodes.{IsInText, IsFrameOf, HasPlaces, NamesCode}
use Rattle.lg_cpu.specs.Laws.{AreBytes}
use Rattle.lg_node.specs.Labels.{is_label}
use Rattle.lg_node.specs.Preparations.{pushed}
use Rattle.lg_op.specs.Forms.{forms_of}
use Rattle.lg_op.specs.declared.form.Form.{Form}
use Rattle.lg_op.specs.declared.form.Form.TheVariants.{Immediate}
use Rattle.lg_op.specs.declared.node.Node.{Node}
use Rattle.lg_op.specs.declared.op.Op.{Op}
use Rattle.lg_op.specs.declared.op.Op.TheVariants as op
use Rattle.lg_op.specs.declared.op.ControlOp.TheVariants as control
use Rattle.lg_op.specs.declared.op.PlainOp.TheVariants as plain
use Rattle.lg_op.specs.declared.operand.Operand.{Operand}
use Rattle.lg_op.specs.declared.operand.Operand.TheVariants as operand
use Rattle.lg_op.specs.declared.operand.Reg.{Reg}
use Rattle.lg_sel.specs.Holes.{IsApartFrom, HaveAddresses}
use Rattle.lg_sel.specs.Reaches.{reach_of}
use Rattle.lg_temp.specs.declared.choice.Choice.{Choice}
use Rattle.lg_temp.specs.declared.choice.Need.{Need}
use Rattle.lg_temp.specs.Chosen.{around, choices_of}

-- ---- what is asked
-- the size of a frame
pub record IsFrame (frame : ℕ) : Type 0 where
  pub low : 272 ≤ frame
  pub high : frame ≤ 65808
  pub whole : frame % 16 ≡ 0

-- a set of arguments holds another
abbrev pub HoldsStaged : List Bool → List Bool → Type 0
HoldsStaged set staged = (j : ℕ) → slice_index_or staged j false ≡ true → slice_index_or set j false ≡ true

-- the choices are those for the needs of the node, a set of live registers, and a set of arguments that holds those that are staged
pub record AreChosen (target : Target) (needs : List Need) (node : Node) (live : Reg → Bool) (staged : List Bool) (choices : List Choice) : Type 0 where
  pub set : List Bool
  pub holds : HoldsStaged set staged
  pub chosen : choices_of (around target node live set) needs ≡ Some choices

-- `pushargr` and `pushargi`
abbrev pub is_pusharg : Op → Bool
is_pusharg (op.Control control.Pusharg last) = true
is_pusharg o = false

-- the set of the first n arguments
abbrev pub first_arguments : ℕ → List Bool
first_arguments n = replicate n true ++ replicate (16 - n) false

-- it has fewer than 16
abbrev pub AreFirst : List Bool → Type 0
AreFirst staged = (n : ℕ) × (n < 16) × (staged ≡ first_arguments n)

-- a label is in the place of an immediate
abbrev pub is_label_for : Form → Operand → Bool
is_label_for Immediate (operand.Label l) = true
is_label_for f x = false

abbrev pub has_label_for : List Form → List Operand → Bool
has_label_for (f ∷ fs) (x ∷ xs) = is_label_for f x || has_label_for fs xs
has_label_for fs xs = false

-- the operations at which one may
abbrev pub may_take_label : Op → Bool
may_take_label (op.Plain plain.Movi) = true
may_take_label (op.Control control.Pusharg last) = true
may_take_label (op.Control control.Ret last) = true
may_take_label o = false

abbrev pub TakesLabelsWell : Node → Type 0
TakesLabelsWell node = has_label_for (forms_of node.op) node.operands ≡ true → may_take_label node.op ≡ true

-- ---- what follows
-- a place lies within a reach, if there is one, in a buffer that is no larger than it
abbrev pub IsReached : Option ℕ → ℕ → ℕ → ℕ → Type 0
IsReached None size place target = ⊤
IsReached (Some reach) size place target = size ≤ reach → IsWithin reach place target

-- where a field of a kind at a place may be led in a buffer of this size: to the place of its label, if that is bound, and else to every place that lies within
-- its reach where the size does
abbrev pub MayBeLed : FixKind → ℕ → ℕ → ℕ → Option ℕ → Type 0
MayBeLed kind size place target (Some bound) = target ≡ bound
MayBeLed kind size place target None = IsReached (reach_of kind) size place target

-- a field that lies after the bytes of the old buffer leads to a label of the node, and reaches every place to which it may be led, at which an instruction
-- may be, which is a multiple of the unit
pub record IsFixOf (unit : ℕ) (old : Buffer) (n : Node) (f : Fix) : Type 0 where
  pub from : length old.bytes ≤ f.place
  pub names : list_any (is_label f.label.0) n.operands ≡ true
  pub reaches : (target : ℕ) → target % unit ≡ 0 → target ≤ most_code → f.place ≤ most_code
      → MayBeLed f.kind old.size f.place target (place_of old.labels f.label.0) → Fits f.kind f.place target

-- a buffer whose fixes are patched, in which the bytes and the fixes that were appended to an old buffer stand where they were appended, and
-- no other fix has one of the bytes: of the final code, node i has these bytes, and each label has the address of its place
pub record IsFinished (old new : Buffer) (code : List ℕ) (c : Code) (i : ℕ) : Type 0 where
  pub labels : List (Option ℕ)
  pub fixes : List Fix
  pub emitted : List ℕ
  pub done : AreDone labels fixes (length fixes) emitted code
  pub small : length code ≤ most_code
  pub bytes : AreBytes code
  pub rest : List ℕ
  pub stands : drop (length old.bytes) emitted ≡ drop (length old.bytes) new.bytes ++ rest
  pub before : List Fix
  pub behind : List Fix
  pub among : fixes ≡ before ++ (drop (length old.fixes) new.fixes ++ behind)
  pub apart_before : All (IsApartFrom (length old.bytes) (length new.bytes - length old.bytes)) before
  pub apart_after : All (IsApartFrom (length old.bytes) (length new.bytes - length old.bytes)) behind
  pub here : c.place i ≡ code_base + length old.bytes
  pub next : c.place (i + 1) ≡ code_base + length new.bytes
  pub addresses : HaveAddresses labels (slice_index c.addresses)

-- the node is node i of an accepted text: its function has this frame, and where it is a `prolog` reads at most this many homes; its labels are code labels,
-- and these arguments are staged at it, among them all that are pushed; at a `pushargr` or `pushargi` none but these. The nodes are in the code part, those
-- to which the code may jump at multiples of the unit, and all addresses of labels are below 2 ^ 30, as all of the memory is
pub record IsNodeOf (unit : ℕ) (node : Node) (frame homes saved : ℕ) (staged : List Bool) (c : Code) (i : ℕ) : Type 0 where
  pub text : IsInText c i node
  pub frame_is : IsFrameOf c i frame
  pub homes_are : IsHomesOf c i homes
  pub saved_is : saved_at c i ≡ saved
  pub names : NamesCode c node
  pub pushed_are : (j : ℕ) → j < pushed c.nodes.nodes i → slice_index_or staged j false ≡ true
  pub exact : is_pusharg node.op ≡ true → staged ≡ first_arguments (pushed c.nodes.nodes i)
  pub places : HasPlaces unit c
  pub low : (label : ℕ) → slice_index c.addresses label < 2 ^ 30

-- bytes are whole instructions: the spellings, in a row, of some that fit
pub record AreWhole {I : Type 0} (spelling : I → List ℕ) (fits : I → Type 0) (bytes : List ℕ) : Type 0 where
  pub instructions : List I
  pub fit : All fits instructions
  pub bytes_are : bytes ≡ spellings spelling instructions

-- this many bytes from a place on
abbrev pub part_of : List ℕ → ℕ → ℕ → List ℕ
part_of code place count = take count (drop place code)

-- after an `.align` the place is a multiple of its number
abbrev pub IsAligned : Node → ℕ → Type 0
IsAligned node behind = (n : ℕ) → node.op ≡ op.Plain plain.Align → node.operands ≡ operand.Number n ∷ [] → behind % n ≡ 0
