-- The items of a node that computes values name the labels of its operands, have at most one fix, and store where a temporary is saved.
use Rattle.std.proofs.Common.{ℕ, ◌+◌, Bool, List, [], ◌∷◌, ◌++◌, refl, arith}
use Rattle.std.specs.Prelude.{◌==◌, if◌then◌else◌}
use Rattle.lg_a64.specs.declared.instruction.Instr.{Instr}
use Rattle.lg_a64.specs.declared.instruction.Instr.TheVariants as instr
use Rattle.lg_a64.specs.declared.instruction.MulAddOp.TheVariants.{Madd, Msub}
use Rattle.lg_a64.specs.declared.instruction.RegOp.{RegOp}
use Rattle.lg_a64.specs.declared.instruction.RegOp.TheVariants as row
use Rattle.lg_a64.specs.declared.instruction.UnscaledOp.TheVariants.{Ldur, Stur}
use Rattle.lg_base.specs.HostNames.{host_address}
use Rattle.lg_base.specs.Words.{negated}
use Rattle.lg_base.specs.declared.target.Target.TheVariants.{Aarch64}
use Rattle.lg_sela_values.specs.Processor.A64Rows.{frame_pointer, link, zero_register, slot_offset}
use Rattle.lg_sela_values.specs.Processor.Numbers.{number_code}
use Rattle.lg_op.specs.declared.node.Node.{Node}
use Rattle.lg_op.specs.declared.op.BinaryOp.{BinaryOp}
use Rattle.lg_op.specs.declared.op.BinaryOp.TheVariants as binary
use Rattle.lg_op.specs.declared.op.Op.{Op}
use Rattle.lg_op.specs.declared.op.Op.TheVariants as op
use Rattle.lg_op.specs.declared.op.PlainOp.TheVariants as plain_op
use Rattle.lg_op.specs.declared.op.UnaryOp.{UnaryOp}
use Rattle.lg_op.specs.declared.op.UnaryOp.TheVariants as unary
use Rattle.lg_op.specs.declared.op.ValueType.{ValueType}
use Rattle.lg_op.specs.declared.op.WideOp.{WideOp}
use Rattle.lg_op.specs.declared.op.WideOp.TheVariants as wide
use Rattle.lg_op.specs.declared.operand.Operand.{Operand}
use Rattle.lg_op.specs.declared.operand.Operand.TheVariants as operand
use Rattle.lg_sel.proofs.LabelLemmas.{Passes, AllPass, passes-at}
use Rattle.lg_sel.proofs.StoreLemmas as stores
use Rattle.lg_sela.specs.Stores.{a64_stores}
use Rattle.lg_sel.specs.declared.reach.Reach.{Reach}
use Rattle.lg_sela.proofs.Emissions.{NoneStores, number-none, Emits, none, append, more, instructions, plain, number, address, behind}
use Rattle.lg_sela_values.specs.Items.{ones}
use Rattle.lg_sela_values.specs.declared.items.Item.{Item}
use Rattle.lg_sela_values.specs.BinaryCode.{register_code, second_register, loaded_code, is_small, takes_small, small_code, takes_negative, negative_code, negative_form_code, small_form_code, is_mask, mask_code, mask_form_code, number_form_code}
use Rattle.lg_carry.specs.Values.ValueNodes.{extension}
use Rattle.lg_sela_values.specs.UnaryCode.{unary_code, retval_code}
use Rattle.lg_carry.specs.Values.Parts.{operand_in, first_taken}
use Rattle.lg_sela_values.specs.ValueItems.{load_items, binary_items, wide_items, register_in, body_items, saved_items, value_items}
use Rattle.lg_sela_values.specs.WideCode.{wide_code, product_by_link, quotient_by_link, wide_by_link}
use Rattle.lg_temp.specs.Abis.{register_of}
use Rattle.lg_temp.specs.Chosen.{spills}
use Rattle.lg_temp.specs.declared.choice.Choice.{Choice}
use Rattle.lg_temp.specs.declared.choice.Choice.TheVariants.{Free, Own, Spill}

-- ---- instructions: none of them stores
register-none : (o : BinaryOp) (d a b : ℕ) → NoneStores (register_code o d a b)
register-none binary.Add d a b = refl
register-none o d a b = refl

wide-none : (o : WideOp) (d e a b : ℕ) → NoneStores (wide_code o d e a b)
wide-none wide.Mul d e a b = refl
wide-none o d e a b = refl

product-none : (high : RegOp) (d e a : ℕ) → NoneStores (product_by_link high d e a)
product-none high d e a = stores.none-if a64_stores (e == a) (instr.MulAdd Madd d a link zero_register ∷ instr.Reg high e a link ∷ []) (instr.Reg high e a link ∷ instr.MulAdd Madd d a link zero_register ∷ []) refl refl

quotient-none : (divide : RegOp) (d e a : ℕ) → NoneStores (quotient_by_link divide d e a)
quotient-none divide d e a =
    stores.none-if a64_stores (e == a) (instr.Reg divide d a link ∷ instr.MulAdd Msub e d link a ∷ [])
    (instr.Reg divide e a link ∷ instr.MulAdd Msub link e link a ∷ instr.Reg row.Orr d zero_register e ∷ instr.Reg row.Orr e zero_register link ∷ []) refl refl

by-link-none : (o : WideOp) (d e a : ℕ) → NoneStores (wide_by_link o d e a)
by-link-none wide.Mul d e a = product-none row.Smulh d e a
by-link-none wide.MulU d e a = product-none row.Umulh d e a
by-link-none wide.Div d e a = quotient-none row.Sdiv d e a
by-link-none wide.DivU d e a = quotient-none row.Udiv d e a

unary-none : (o : UnaryOp) (d a : ℕ) → NoneStores (unary_code o d a)
unary-none unary.Neg d a = refl
unary-none o d a = refl

loaded-none : (o : BinaryOp) (u d a v : ℕ) → NoneStores (loaded_code o u d a v)
loaded-none o u d a v =
    stores.none-append a64_stores (number_code (second_register o u) v) (register_code o d a (second_register o u)) (number-none (second_register o u) v) (register-none o d a (second_register o u))

small-none : (o : BinaryOp) (d a v : ℕ) → NoneStores (small_code o d a v)
small-none binary.Add d a v = refl
small-none o d a v = refl

negative-none : (o : BinaryOp) (d a v : ℕ) → NoneStores (negative_code o d a v)
negative-none binary.Add d a v = refl
negative-none o d a v = refl

negative-form-none : (o : BinaryOp) (u d a v : ℕ) → NoneStores (negative_form_code o u d a v)
negative-form-none o u d a v =
    let loaded = loaded-none o u d a v in
    stores.none-if a64_stores (takes_negative o) (if is_small (negated v) then negative_code o d a v else loaded_code o u d a v) (loaded_code o u d a v)
    (stores.none-if a64_stores (is_small (negated v)) (negative_code o d a v) (loaded_code o u d a v) (negative-none o d a v) loaded) loaded

small-form-none : (o : BinaryOp) (u d a v : ℕ) → NoneStores (small_form_code o u d a v)
small-form-none o u d a v =
    stores.none-if a64_stores (takes_small o) (if is_small v then small_code o d a v else negative_form_code o u d a v) (loaded_code o u d a v)
    (stores.none-if a64_stores (is_small v) (small_code o d a v) (negative_form_code o u d a v) (small-none o d a v) (negative-form-none o u d a v)) (loaded-none o u d a v)

mask-form-none : (u d a v : ℕ) → NoneStores (mask_form_code u d a v)
mask-form-none u d a v = stores.none-if a64_stores (is_mask v) (mask_code d a v) (loaded_code binary.And u d a v) refl (loaded-none binary.And u d a v)

form-none : (o : BinaryOp) (u d a v : ℕ) → NoneStores (number_form_code o u d a v)
form-none binary.Lsh u d a v = refl
form-none binary.Rsh u d a v = refl
form-none binary.RshU u d a v = refl
form-none binary.And u d a v = mask-form-none u d a v
form-none o u d a v = small-form-none o u d a v

-- ---- items
module _ (reach : Reach) (is : ℕ → Bool) where
  load : (t : ℕ) (x : Operand) → Passes is x → Emits reach is 1 0 (load_items t x)
  load t (operand.Number v) h = number reach is 1 t v
  load t (operand.Host name) h = number reach is 1 t (host_address name)
  load t (operand.Label l) h = address reach is t l.0 h
  load t (operand.Reg r) h = none reach is 1 0
  load t (operand.Slot k) h = none reach is 1 0

  loaded : (t : ℕ) (x : Operand) (code : List Instr) → Passes is x → NoneStores code → Emits reach is 1 0 (load_items t x ++ ones code)
  loaded t x code h few = behind reach is 1 0 (load_items t x) code (load t x h) few

  binary-emits : (o : BinaryOp) (u d a : ℕ) (x : Operand) → Passes is x → Emits reach is 1 0 (binary_items o u d a x)
  binary-emits o u d a (operand.Reg b) h = plain reach is 1 (register_code o d a (register_of Aarch64 b)) (register-none o d a (register_of Aarch64 b))
  binary-emits o u d a (operand.Number v) h = plain reach is 1 (number_form_code o u d a v) (form-none o u d a v)
  binary-emits o u d a (operand.Host name) h = let t : ℕ = second_register o u in loaded t (operand.Host name) (register_code o d a t) h (register-none o d a t)
  binary-emits o u d a (operand.Label l) h = let t : ℕ = second_register o u in loaded t (operand.Label l) (register_code o d a t) h (register-none o d a t)
  binary-emits o u d a (operand.Slot k) h = let t : ℕ = second_register o u in loaded t (operand.Slot k) (register_code o d a t) h (register-none o d a t)

  wide-emits : (o : WideOp) (d e a : ℕ) (x : Operand) → Passes is x → Emits reach is 1 0 (wide_items o d e a x)
  wide-emits o d e a (operand.Reg b) h = plain reach is 1 (wide_code o d e a (register_of Aarch64 b)) (wide-none o d e a (register_of Aarch64 b))
  wide-emits o d e a (operand.Number v) h = loaded link (operand.Number v) (wide_by_link o d e a) h (by-link-none o d e a)
  wide-emits o d e a (operand.Host name) h = loaded link (operand.Host name) (wide_by_link o d e a) h (by-link-none o d e a)
  wide-emits o d e a (operand.Label l) h = loaded link (operand.Label l) (wide_by_link o d e a) h (by-link-none o d e a)
  wide-emits o d e a (operand.Slot k) h = loaded link (operand.Slot k) (wide_by_link o d e a) h (by-link-none o d e a)

  body : (o : Op) (xs : List Operand) (u : ℕ) → AllPass is xs → Emits reach is 1 0 (body_items o xs u)
  body (op.Binary o last) xs u h = binary-emits o u (register_in xs 0) (register_in xs 1) (operand_in xs 2) (passes-at is xs 2 h)
  body (op.Wide o last) xs u h = wide-emits o (register_in xs 0) (register_in xs 1) (register_in xs 2) (operand_in xs 3) (passes-at is xs 3 h)
  body (op.Unary o) xs u h = plain reach is 1 (unary_code o (register_in xs 0) (register_in xs 1)) (unary-none o (register_in xs 0) (register_in xs 1))
  body (op.Plain plain_op.Movi) xs u h = load (register_in xs 0) (operand_in xs 1) (passes-at is xs 1 h)
  body (op.Plain plain_op.VaStart) xs u h = load (register_in xs 0) (operand_in xs 1) (passes-at is xs 1 h)
  body (op.Plain o) xs u h = none reach is 1 0
  body (op.Retval t) xs u h = plain reach is 1 (retval_code t (register_in xs 0)) (retval-none t (register_in xs 0))
    where
      retval-none : (t : ValueType) (d : ℕ) → NoneStores (retval_code t d)
      retval-none t d = unary-none (extension t) d _
  body o xs u h = none reach is 1 0

  -- a register that is saved is stored
  saved : (choices : List Choice) (xs : List Item) → Emits reach is 1 0 xs → Emits reach is 1 (spills choices) (saved_items choices xs)
  saved [] xs a = a
  saved (Free r ∷ choices) xs a = saved choices xs a
  saved (Own r ∷ choices) xs a = saved choices xs a
  saved (Spill r k ∷ choices) xs a =
      let save : List Instr = instr.Unscaled Stur r frame_pointer (slot_offset k) ∷ [] in
      let restore : List Instr = instr.Unscaled Ldur r frame_pointer (slot_offset k) ∷ [] in
      let inner = append reach is 1 0 (spills choices) 0 (saved_items choices xs) (ones restore) (saved choices xs a) (plain reach is 0 restore refl) in
      more reach is (0 + (1 + 0)) 1 (1 + (spills choices + 0)) (spills choices + 1) (saved_items (Spill r k ∷ choices) xs) (omega arith) (omega arith)
      (append reach is 0 (1 + 0) 1 (spills choices + 0) (ones save) (saved_items choices xs ++ ones restore) (instructions reach is 0 1 save (omega arith)) inner)

  pub values-emit : (n : Node) (choices : List Choice) → AllPass is n.operands → Emits reach is 1 (spills choices) (value_items n choices)
  values-emit n choices h = saved choices (body_items n.op n.operands (first_taken choices)) (body n.op n.operands (first_taken choices) h)
