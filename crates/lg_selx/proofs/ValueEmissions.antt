-- The items of a node that computes values name the labels of its operands, have at most one fix, and store where a temporary is saved.
use Rattle.std.proofs.Common.{ℕ, ◌+◌, Bool, List, refl, arith}
use Rattle.std.specs.Prelude.{⊤}
use Rattle.lg_base.specs.HostNames.{host_address}
use Rattle.lg_base.specs.declared.target.Target.TheVariants.{X86_64}
use Rattle.lg_op.specs.declared.node.Node.{Node}
use Rattle.lg_op.specs.declared.op.BinaryOp.{BinaryOp}
use Rattle.lg_op.specs.declared.op.Op.{Op}
use Rattle.lg_op.specs.declared.op.Op.TheVariants as op
use Rattle.lg_op.specs.declared.op.PlainOp.TheVariants as plain_op
use Rattle.lg_op.specs.declared.op.WideOp.{WideOp}
use Rattle.lg_op.specs.declared.operand.Operand.{Operand}
use Rattle.lg_op.specs.declared.operand.Operand.TheVariants as operand
use Rattle.lg_sel.proofs.LabelLemmas.{Passes, AllPass, passes-at}
use Rattle.lg_sel.specs.declared.reach.Reach.{Reach}
use Rattle.lg_selx.proofs.Emissions.{Keeps, keep-none, number-keeps, Emits, none, more, plain, number, address}
use Rattle.lg_selx.proofs.SavedEmissions.{saved}
use Rattle.lg_selx_values.proofs.WithinLemmas.{portable}
use Rattle.lg_selx_values.specs.GoodItems.{Fine}
use Rattle.lg_selx_values.specs.Items.{ones}
use Rattle.lg_selx_values.proofs.RegisterLemmas.{register-portable}
use Rattle.lg_selx_values.proofs.RowLemmas.{HoldsOfRows, Holds, rax-fine, binary-made, binary-number-made, unary-made, retval-made, wide-made, wide-number-made}
use Rattle.lg_selx_values.specs.UnaryCode.{unary_code, retval_code}
use Rattle.lg_carry.specs.Values.Parts.{operand_in, register_for}
use Rattle.lg_selx_values.specs.ValueItems.{load_items, binary_code, binary_number_code, binary_items, wide_items, register_in, body_items, value_items}
use Rattle.lg_selx_values.specs.WideCode.{wide_code, wide_number_code}
use Rattle.lg_temp.specs.Abis.{register_of}
use Rattle.lg_temp.specs.Chosen.{spills}
use Rattle.lg_temp.specs.declared.choice.Choice.{Choice}
use Rattle.lg_x86.specs.declared.instruction.Instr.{Instr}

-- no row of the code of values stores
rows-keep : (frame : ℕ) → HoldsOfRows frame Keeps (λ v. ⊤)
rows-keep frame = record {
  two = λ o rm reg f l. refl;
  half = λ o rm v f small e. refl;
  near = λ reg base v f l small e. refl;
  sum = λ reg base index f l k ne. refl;
  turned = λ v small. tt;
  ext = λ o reg rm f l. refl;
  number = λ r v f small. number-keeps r v;
  zero = refl;
  one = λ o rm f. refl;
  shift = λ o rm count f l. refl;
  turn = λ r f. refl;
  set = λ c r f. refl;
  sign = refl;
  again = refl;
}

register-fine : (x : Operand) → Fine (register_for X86_64 x)
register-fine (operand.Reg r) = ((register-portable r).small, portable r)
register-fine (operand.Number v) = rax-fine
register-fine x = rax-fine

fine-at : (xs : List Operand) (i : ℕ) → Fine (register_in xs i)
fine-at xs i = register-fine (operand_in xs i)

module _ (reach : Reach) (is : ℕ → Bool) (frame : ℕ) where
  of : (n : ℕ) (code : List Instr) → Holds Keeps n code → Emits reach is 1 0 (ones code)
  of n code h = plain reach is 1 code (keep-none code h.each)

  load : (t : ℕ) (x : Operand) → Passes is x → Emits reach is 1 0 (load_items t x)
  load t (operand.Number v) h = number reach is 1 t v
  load t (operand.Host name) h = number reach is 1 t (host_address name)
  load t (operand.Label l) h = address reach is t l.0 h
  load t (operand.Reg r) h = none reach is 1 0
  load t (operand.Slot k) h = none reach is 1 0

  binary-emits : (o : BinaryOp) (d a : ℕ) (x : Operand) → Fine d → Fine a → Emits reach is 1 0 (binary_items o frame d a x)
  binary-emits o d a (operand.Reg r) fd fa = of 7 (binary_code o frame d a (register_of X86_64 r)) (binary-made frame Keeps (λ v. ⊤) (rows-keep frame) o d a (register_of X86_64 r) fd fa (register-fine (operand.Reg r)) (register-portable r).no_stack)
  binary-emits o d a (operand.Number v) fd fa = of 6 (binary_number_code o frame d a v) (binary-number-made frame Keeps (λ v. ⊤) (rows-keep frame) d a v fd fa tt o)
  binary-emits o d a (operand.Host name) fd fa = of 6 (binary_number_code o frame d a (host_address name)) (binary-number-made frame Keeps (λ v. ⊤) (rows-keep frame) d a (host_address name) fd fa tt o)
  binary-emits o d a (operand.Label l) fd fa = none reach is 1 0
  binary-emits o d a (operand.Slot k) fd fa = none reach is 1 0

  wide-emits : (o : WideOp) (d e a : ℕ) (x : Operand) → Fine d → Fine e → Fine a → Emits reach is 1 0 (wide_items o frame d e a x)
  wide-emits o d e a (operand.Reg r) fd fe fa = of 8 (wide_code o frame d e a (register_of X86_64 r)) (wide-made frame Keeps (λ v. ⊤) (rows-keep frame) o d e a (register_of X86_64 r) fd fe fa.0 (register-portable r).small)
  wide-emits o d e a (operand.Number v) fd fe fa = of 8 (wide_number_code o frame d e a v) (wide-number-made frame Keeps (λ v. ⊤) (rows-keep frame) o d e a v fd fe fa.0 tt)
  wide-emits o d e a (operand.Host name) fd fe fa = of 8 (wide_number_code o frame d e a (host_address name)) (wide-number-made frame Keeps (λ v. ⊤) (rows-keep frame) o d e a (host_address name) fd fe fa.0 tt)
  wide-emits o d e a (operand.Label l) fd fe fa = none reach is 1 0
  wide-emits o d e a (operand.Slot k) fd fe fa = none reach is 1 0

  body : (o : Op) (xs : List Operand) → AllPass is xs → Emits reach is 1 0 (body_items frame o xs)
  body (op.Binary o last) xs h = binary-emits o (register_in xs 0) (register_in xs 1) (operand_in xs 2) (fine-at xs 0) (fine-at xs 1)
  body (op.Wide o last) xs h = wide-emits o (register_in xs 0) (register_in xs 1) (register_in xs 2) (operand_in xs 3) (fine-at xs 0) (fine-at xs 1) (fine-at xs 2)
  body (op.Unary o) xs h = of 3 (unary_code o (register_in xs 0) (register_in xs 1)) (unary-made frame Keeps (λ v. ⊤) (rows-keep frame) o (register_in xs 0) (register_in xs 1) (fine-at xs 0) (fine-at xs 1).0)
  body (op.Plain plain_op.Movi) xs h = load (register_in xs 0) (operand_in xs 1) (passes-at is xs 1 h)
  body (op.Plain plain_op.VaStart) xs h = load (register_in xs 0) (operand_in xs 1) (passes-at is xs 1 h)
  body (op.Plain o) xs h = none reach is 1 0
  body (op.Retval t) xs h = of 3 (retval_code t (register_in xs 0)) (retval-made frame Keeps (λ v. ⊤) (rows-keep frame) t (register_in xs 0) (fine-at xs 0))
  body o xs h = none reach is 1 0

  pub values-emit : (n : Node) (choices : List Choice) → AllPass is n.operands → Emits reach is 1 (spills choices) (value_items frame n choices)
  values-emit n choices h =
      more reach is 1 1 (spills choices + 0) (spills choices) (value_items frame n choices) (omega arith) (omega arith)
      (saved reach is 0 choices (body_items frame n.op n.operands) (body n.op n.operands h))
