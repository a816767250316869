-- Where a step is undefined and its node calls a host function, that does not allow its arguments.
use Rattle.std.proofs.Common.{◌≡◌, ℕ, true, List, [], Option, Some, None, refl, sym, ap, ◌∙◌}
use Rattle.std.specs.Option.{option_and_then, option_map}
use Rattle.lg_base.specs.HostNames.{host_by_address}
use Rattle.lg_base.specs.declared.host_name.HostName.{HostName}
use Rattle.lg_host.specs.Host.{Host, Gives, Exits, memory, host_of}
use Rattle.lg_host.specs.Host as host
use Rattle.lg_op.specs.declared.node.Node.{Node}
use Rattle.lg_op.specs.declared.operand.Operand.{Operand}
use Rattle.lg_op.specs.declared.operand.Operand.TheVariants as operand
use Rattle.lg_op.specs.declared.op.Op.{Op}
use Rattle.lg_op.specs.declared.op.Op.TheVariants as op
use Rattle.lg_op.specs.declared.op.ControlOp.TheVariants as control
use Rattle.lg_op.specs.declared.op.LastOperand.{LastOperand}
use Rattle.lg_op.specs.declared.op.LastOperand.TheVariants as last_operand
use Rattle.lg_node.specs.declared.function.Function.{Function}
use Rattle.lg_meaning.specs.States.{State, value, is_open}
use Rattle.lg_meaning.specs.Steps.{Undefined, Text, need, operand_at, node_step, node_of_label, function_here, entry_target, call_step, call_host, call_named, call_operand, host_end, is_marked}
use Rattle.lg_meaning.specs.Reasons.{given, called_by_name, called_at, called_here, called_from, is_undefined, is_not_allowed, row_12}
use Rattle.lg_meaning.specs.declared.reason.Called.{Called}
use Rattle.lg_meaning.specs.declared.reason.Called.TheVariants.{OfHost, OfText}
use Rattle.lg_meaning.specs.declared.reason.Reason.TheVariants.{NotAllowed}
use Rattle.lg_mean.specs.Says.{not_allowed}

no_host : {A : Type 0} (f : Option Function) (name : HostName) → option_map OfText f ≡ Some (OfHost name) → A
no_host None name e = cc
no_host (Some f) name e = cc

same_host : (name other : HostName) → ◌≡◌ {A = Option Called} (Some (OfHost name)) (Some (OfHost other)) → name ≡ other
same_host name other e = cc

undefined_host : (s : State) (h : Host) → host_end s h ≡ Undefined → is_undefined h ≡ true
undefined_host s (Gives v changes mark bytes) e = cc
undefined_host s (Exits status) e = cc
undefined_host s host.Undefined e = refl

module _ (t : Text) (n : Node) (s : State) (args : List ℕ) (name : HostName) where
  by_name : (x : Operand) → called_by_name t x ≡ Some (OfHost name) → call_operand t s args x ≡ call_host s args name
  by_name (operand.Host other) e = ap (call_host s args) (same_host other name e)
  by_name (operand.Label l) e = no_host (function_here t.functions (node_of_label t.places (operand.Label l))) name e
  by_name (operand.Reg r) e = no_host (function_here t.functions (node_of_label t.places (operand.Reg r))) name e
  by_name (operand.Number k) e = no_host (function_here t.functions (node_of_label t.places (operand.Number k))) name e
  by_name (operand.Slot k) e = no_host (function_here t.functions (node_of_label t.places (operand.Slot k))) name e

  by_address : (w : ℕ) (o : Option HostName) → called_at t w o ≡ Some (OfHost name) → call_named t s args w o ≡ call_host s args name
  by_address w (Some other) e = ap (call_host s args) (same_host other name e)
  by_address w None e = no_host (option_and_then (function_here t.functions) (entry_target t w)) name e

  by_word : (v : Option ℕ) → option_and_then (λ w. called_at t w (host_by_address w)) v ≡ Some (OfHost name)
      → need v (λ w. call_named t s args w (host_by_address w)) ≡ call_host s args name
  by_word None e = cc
  by_word (Some w) e = by_address w (host_by_address w) e

  host_step : (last : LastOperand) → called_here t n last s ≡ Some (OfHost name) → call_step t n last args s ≡ call_host s args name
  host_step last_operand.Immediate e = by_name (operand_at n 0) e
  host_step last_operand.Register e = by_word (value t.addresses s (operand_at n 0)) e

  refused : (last : LastOperand) (c : Option Called) → called_here t n last s ≡ c → c ≡ Some (OfHost name) → call_step t n last args s ≡ Undefined → Some (NotAllowed name) ≡ given c (is_not_allowed s args)
  refused last c here e undefined =
      let step : call_host s args name ≡ Undefined = sym (host_step last (here ∙ e)) ∙ undefined in
      rw (e, undefined_host s (host_of name args (is_marked s.variadic) (memory s.mem (is_open s) s.mark)) step) refl

by_call : (t : Text) (n : Node) (s : State) (args : List ℕ) (last : LastOperand) (called : Called) → called_here t n last s ≡ Some called → call_step t n last args s ≡ Undefined → not_allowed called ≡ given (called_here t n last s) (is_not_allowed s args)
by_call t n s args last (OfHost name) e u = refused t n s args name last (called_here t n last s) refl e u
by_call t n s args last (OfText f) e u = rw e refl

pub host_not_allowed : (t : Text) (n : Node) (s : State) (o : Op) (called : Called) → called_from t n o s ≡ Some called → node_step t n o s ≡ Undefined → not_allowed called ≡ row_12 t n o s
host_not_allowed t n s (op.Control control.Call last) called e u = by_call t n s [] last called e u
host_not_allowed t n s (op.Control control.Finish last) called e u = by_call t n s s.pushed last called e u
host_not_allowed t n s o called e u = cc
