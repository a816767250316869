-- Only a return from the first frame ends a run with a word.
use Rattle.std.proofs.Common.{◌≡◌, ℕ, Bool, true, false, List, [], ◌∷◌, Option, Some, None, refl, sym, ap, ◌∙◌}
use Rattle.std.specs.Prelude.{if◌then◌else◌, ◌+◌, ◌-◌, nat_le, slice_get}
use Rattle.lg_base.specs.HostNames.{host_by_address}
use Rattle.lg_base.specs.declared.host_name.HostName.{HostName}
use Rattle.lg_host.specs.Host.{Host, Gives, Exits, memory, host_of}
use Rattle.lg_host.specs.Host as host
use Rattle.lg_op.specs.declared.node.Node.{Node}
use Rattle.lg_op.specs.declared.operand.Operand.{Operand}
use Rattle.lg_op.specs.declared.operand.Operand.TheVariants as operand
use Rattle.lg_op.specs.declared.op.Op.{Op}
use Rattle.lg_op.specs.declared.op.Op.TheVariants as op
use Rattle.lg_op.specs.declared.op.ControlOp.TheVariants as control
use Rattle.lg_op.specs.declared.op.PlainOp.TheVariants as plain
use Rattle.lg_op.specs.declared.op.LastOperand.{LastOperand}
use Rattle.lg_op.specs.declared.op.LastOperand.TheVariants as last_operand
use Rattle.lg_op.specs.declared.op.BinaryOp.{BinaryOp}
use Rattle.lg_op.specs.declared.op.PlainOp.{PlainOp}
use Rattle.lg_op.specs.Operators.{sets_carry, binary_value, carry_in, wide_value, width, store_width}
use Rattle.lg_base.specs.Spaces.{stored}
use Rattle.lg_cells.specs.Memories.{writable}
use Rattle.lg_node.specs.Functions.{frame_of}
use Rattle.lg_meaning.specs.States.{Frame, State, value, is_open}
use Rattle.lg_meaning.specs.Steps.{Outcome, Goes, Ends, Undefined, Text, need, when, quiet, operand_at, on_with_carry, node_of_label, function_here, jump_target, entry_target, address, read, stored_operand, slot, started, called, node_step, plain_step, binary_step, carry_step, back_to, call_step, call_host, call_named, call_node, call_operand, host_end, is_marked}
use Rattle.lg_meaning.specs.Texts.{step}
use Rattle.lg_meaning.specs.Means.{run_at, behind}
use Rattle.lg_meaning.specs.Laws.{StepsAreMeans}
use Rattle.lg_mean.specs.Results.{word_left, where_alone, word_of_return, run_word, WordsLeftAreOfRuns}

need_none : {A : Type 0} (o : Option A) (f : A → Outcome) → ((v : A) → word_left (f v) ≡ None) → word_left (need o f) ≡ None
need_none None f h = refl
need_none (Some v) f h = h v

when_none : (b : Bool) (o : Outcome) → word_left o ≡ None → word_left (when b o) ≡ None
when_none true o h = h
when_none false o h = refl

-- ---- calls
host_none : (s : State) (h : Host) → word_left (host_end s h) ≡ None
host_none s (Gives v changes mark bytes) = refl
host_none s other = refl

module _ (t : Text) (s : State) (args : List ℕ) where
  by_host : (name : HostName) → word_left (call_host s args name) ≡ None
  by_host name = host_none s (host_of name args (is_marked s.variadic) (memory s.mem (is_open s) s.mark))

  by_node : (k : ℕ) → word_left (call_node t s args k) ≡ None
  by_node k = need_none (function_here t.functions k) _ (λ f. when_none (nat_le (0x3FF00010 + frame_of f) (s.frame.sp - s.frame.size))
      (quiet (started (record s { frame = called s args; callers = s.frame ∷ s.callers }) f.entry)) refl)

  by_operand : (x : Operand) → word_left (call_operand t s args x) ≡ None
  by_operand (operand.Host name) = by_host name
  by_operand (operand.Label l) = by_node (node_of_label t.places (operand.Label l))
  by_operand other = by_node 0

  by_name : (w : ℕ) (o : Option HostName) → word_left (call_named t s args w o) ≡ None
  by_name w (Some name) = by_host name
  by_name w None = need_none (entry_target t w) _ by_node

  by_call : (n : Node) (last : LastOperand) → word_left (call_step t n last args s) ≡ None
  by_call n last_operand.Immediate = by_operand (operand_at n 0)
  by_call n last_operand.Register = need_none (value t.addresses s (operand_at n 0)) _ (λ w. by_name w (host_by_address w))

-- ---- nodes
module _ (t : Text) (n : Node) (s : State) where
  by_sets : (carries : Bool) (o : BinaryOp) → word_left (if carries then carry_step t.addresses n o s else binary_step t.addresses n (binary_value o) s) ≡ None
  by_sets true o = need_none (value t.addresses s (operand_at n 1)) _ (λ a. need_none (value t.addresses s (operand_at n 2)) _ (λ b. need_none (carry_in o s.carry) _ (λ bit. refl)))
  by_sets false o = need_none (value t.addresses s (operand_at n 1)) _ (λ a. need_none (value t.addresses s (operand_at n 2)) _ (λ b. need_none (binary_value o a b) _ (λ v. refl)))

  by_leave : (callers : List Frame) → word_left (back_to s None callers) ≡ None
  by_leave [] = refl
  by_leave (g ∷ gs) = refl

  by_plain : (o : PlainOp) → word_left (plain_step t n o s) ≡ None
  by_plain plain.Movi = need_none (value t.addresses s (operand_at n 1)) _ (λ a. refl)
  by_plain plain.Prolog = need_none (function_here t.functions s.at) _ (λ f. refl)
  by_plain plain.Epilog = by_leave s.callers
  by_plain plain.Ret = by_leave s.callers
  by_plain plain.VaStart = need_none (value t.addresses s (operand_at n 1)) _ (λ a. refl)
  by_plain plain.VaArg = need_none (value t.addresses s (operand_at n 1)) _ (λ i. need_none (slice_get s.frame.args i) _ (λ v. refl))
  by_plain plain.VaEnd = need_none (value t.addresses s (operand_at n 0)) _ (λ i. refl)
  by_plain other = refl

  by_return : (v : Option ℕ) (callers : List Frame) → word_left (need v (λ w. back_to s (Some w) callers)) ≡ where_alone callers v
  by_return None [] = refl
  by_return None (g ∷ gs) = refl
  by_return (Some w) [] = refl
  by_return (Some w) (g ∷ gs) = refl

  -- the word with which the step of a node leaves the first frame is that of a return
  pub words_of_returns : (o : Op) → word_left (node_step t n o s) ≡ word_of_return t.addresses n o s
  words_of_returns (op.Binary o last) = by_sets (sets_carry o) o
  words_of_returns (op.Wide o last) = need_none (value t.addresses s (operand_at n 2)) _ (λ a. need_none (value t.addresses s (operand_at n 3)) _ (λ b. need_none (wide_value o a b) _ (λ p. refl)))
  words_of_returns (op.Branch c last) = need_none (value t.addresses s (operand_at n 1)) _ (λ a. need_none (value t.addresses s (operand_at n 2)) _ (λ b. refl))
  words_of_returns (op.BranchSum o last) = need_none (value t.addresses s (operand_at n 1)) _ (λ a. need_none (value t.addresses s (operand_at n 2)) _ (λ b. refl))
  words_of_returns (op.Control control.Jmp last_operand.Register) = need_none (value t.addresses s (operand_at n 0)) _ (λ w. need_none (jump_target t s.at w) _ (λ k. refl))
  words_of_returns (op.Control control.Jmp last_operand.Immediate) = refl
  words_of_returns (op.Control control.Call last) = by_call t s [] n last
  words_of_returns (op.Control control.Finish last) = by_call t s s.pushed n last
  words_of_returns (op.Control control.Pusharg last) = need_none (value t.addresses s (operand_at n 0)) _ (λ v. refl)
  words_of_returns (op.Control control.Ret last) = by_return (value t.addresses s (operand_at n 0)) s.callers
  words_of_returns (op.Unary o) = need_none (value t.addresses s (operand_at n 1)) _ (λ a. refl)
  words_of_returns (op.Plain o) = by_plain o
  words_of_returns (op.Load v at) = need_none (address t.addresses s at n 1) _ (λ a. need_none (read s a (width v)) _ (λ w. refl))
  words_of_returns (op.Store v at) = need_none (address t.addresses s at n 0) _ (λ a. need_none (value t.addresses s (operand_at n (stored_operand at))) _
      (λ w. when_none (writable (is_open s) a (store_width v)) (quiet (on_with_carry (record s { mem = stored s.mem a (store_width v) w }))) refl))
  words_of_returns (op.Retval v) = need_none s.answer _ (λ w. refl)
  words_of_returns (op.Getarg v) = need_none (slice_get s.frame.args (slot (operand_at n 1))) _ (λ w. refl)

-- ---- runs
after_outcome : (s : State) (out : List ℕ) (o : Outcome) → word_left o ≡ run_word (behind (run_at s out) o)
after_outcome s out (Goes t bytes) = refl
after_outcome s out other = refl

pub words_left : StepsAreMeans → WordsLeftAreOfRuns
words_left law = λ l shape A start s out k h. after_outcome s out (step l shape A s) ∙ ap run_word (sym (law l shape A start s out k h))
