-- Outside of the stack no step takes a byte out.
use Rattle.std.proofs.Common.{◌≡◌, inl, inr, ℕ, zero, suc, ◌+◌, ◌-◌, ◌<◌, ◌≤◌, Bool, true, false, List, [], ◌∷◌, Option, Some, None, refl, sym, ap, ◌∙◌, subst, arith}
use Rattle.std.specs.Prelude.{◌==◌, ◌%◌, ◌/◌, is_some, slice_get, nat_le, if◌then◌else◌}
use Rattle.std.proofs.lemmas.Option.{same_Some}
use Rattle.lg_base.specs.HostNames.{host_by_address}
use Rattle.lg_base.specs.Spaces.{put_some, stored}
use Rattle.lg_base.specs.declared.host_name.HostName.{HostName}
use Rattle.lg_cells.specs.Cells.{within}
use Rattle.lg_cells.specs.Memories.{without, writable}
use Rattle.lg_host.specs.Blocks.{Changes, over}
use Rattle.lg_host.specs.Host.{Host, Gives, Exits, Undefined, memory, host_of}
use Rattle.lg_host.specs.HostLaws.{OnGives}
use Rattle.lg_op.specs.declared.node.Node.{Node}
use Rattle.lg_op.specs.declared.op.Addressing.{Addressing}
use Rattle.lg_op.specs.declared.op.BranchSumOp.{BranchSumOp}
use Rattle.lg_op.specs.declared.op.Condition.{Condition}
use Rattle.lg_op.specs.declared.op.LastOperand.{LastOperand}
use Rattle.lg_op.specs.declared.op.LastOperand.TheVariants as last_operand
use Rattle.lg_op.specs.declared.op.Op.{Op}
use Rattle.lg_op.specs.declared.op.Op.TheVariants as op
use Rattle.lg_op.specs.declared.op.ControlOp.TheVariants as control
use Rattle.lg_op.specs.declared.op.PlainOp.TheVariants as plain
use Rattle.lg_op.specs.declared.op.StoreType.{StoreType}
use Rattle.lg_op.specs.declared.operand.Operand.{Operand}
use Rattle.lg_op.specs.declared.operand.Operand.TheVariants as operand
use Rattle.lg_node.specs.declared.function.Function.{Function}
use Rattle.lg_node.specs.Nodes.{LabelledNodes}
use Rattle.lg_node.specs.Functions.{home, frame_of}
use Rattle.lg_node.specs.Shapes.{TextShape}
use Rattle.lg_node.specs.ShapeLaws.{IsWellShaped}
use Rattle.lg_op.specs.Operators.{store_width}
use Rattle.lg_meaning.specs.States.{Frame, State, value, is_open}
use Rattle.lg_meaning.specs.Steps.{Outcome, Goes, Text, operand_at, va_start_step, va_arg_step, va_end_step, on, begun, prolog_step, back_to, host_end, call_host, is_marked, call_node, call_operand, entry_target, call_named, call_step, function_here, branch_step, branch_sum_step, jump_target, jump_step, push_step, store_to, store_step, stored_operand, address, wide_step, unary_step, movi_step, load_step, retval_step, getarg_step, node_step}
use Rattle.lg_meaning.specs.Texts.{text, step_at, step}
use Rattle.lg_meaning.specs.Fits.{RunsIn, IsTopOf, FitsWell}
use Rattle.lg_meaning.specs.Parts.{Grows}
use Rattle.lg_meaning.proofs.FallLemmas.{Moves, Falls, binary_node_falls, wide_falls, unary_falls, movi_falls, load_falls, retval_falls, getarg_falls, va_start_falls, va_arg_falls, va_end_falls}
use Rattle.lg_meaning.proofs.HostFacts.{Writes, host_writes}
use Rattle.lg_meaning.proofs.OpenFacts.{no_locals}
use Rattle.lg_meaning.proofs.Outcomes.{OnGoes, need_on, when_on, on_weaker, on_result}
use Rattle.lg_meaning.proofs.StackLemmas.{IsWhole, top_whole}

-- ---- bytes that stay
put_stays : (m : ℕ → Option ℕ) (at byte a : ℕ) → is_some (m a) ≡ true → is_some (put_some m at byte a) ≡ true
put_stays m at byte a h = by (a == at)
  where
    by : (t : Bool) → is_some (if t then Some byte else m a) ≡ true
    by true = refl
    by false = h

stored_stays : (width : ℕ) (m : ℕ → Option ℕ) (at value a : ℕ) → is_some (m a) ≡ true → is_some (stored m at width value a) ≡ true
unfolding stored
stored_stays zero m at value a h = h
stored_stays (suc width) m at value a h = stored_stays width (put_some m at (value % 256)) (at + 1) (value / 256) a (put_stays m at (value % 256) a h)

over_stays : (changes : Changes) (m : ℕ → Option ℕ) (a : ℕ) → is_some (m a) ≡ true → is_some (over changes m a) ≡ true
over_stays changes m a h = by (changes a)
  where
    by : (o : Option ℕ) → is_some (if is_some o then o else m a) ≡ true
    by None = h
    by (Some c) = refl

without_stays : (m : ℕ → Option ℕ) (from count a : ℕ) → within from count a ≡ false → is_some (m a) ≡ true → is_some (without m from count a) ≡ true
without_stays m from count a out h = rw out h

-- the locals of a frame lie in the stack
locals_high : (sp locals size a : ℕ) → 0x3FF00010 + size ≤ sp → 272 + locals ≤ size → a < 0x3FF00000 → within (sp - 144 - locals) locals a ≡ false
locals_high sp locals size a low room lt = grind arith

frame_high : (f : Frame) (a : ℕ) → IsWhole f → 0x3FF00010 + f.size ≤ f.sp → a < 0x3FF00000 → within (f.sp - 144 - f.locals) f.locals a ≡ false
frame_high f a (inl none) low lt = no_locals f a none.1
frame_high f a (inr room) low lt = locals_high f.sp f.locals f.size a low room lt

module _ (s : State) where
  -- a state with the memory as it was
  pub as_it_was : (t : State) → t.data_size ≡ s.data_size → t.args_size ≡ s.args_size → t.mark ≡ s.mark → t.mem ≡ s.mem → Grows s t
  as_it_was t d g k m = record { data_size = d; args_size = g; mark = (let same : t.mark ≡ s.mark = k in omega arith); bytes = λ a lt h. ap (λ (f : ℕ → Option ℕ). is_some (f a)) m ∙ h }

  moves_grow : (t : State) (k : ℕ) → Moves s t k → Grows s t
  moves_grow t k m = as_it_was t m.data_size m.args_size m.mark m.mem

  falls_grow : (o : Outcome) → OnGoes (Falls s) o → OnGoes (Grows s) o
  falls_grow o h = on_weaker (Falls s) (Grows s) (λ t m. moves_grow t (s.at + 1) m) o h

  same : (t : State) → t.data_size ≡ s.data_size → t.args_size ≡ s.args_size → t.mark ≡ s.mark → t.mem ≡ s.mem → Grows s t
  same t d g k m = as_it_was t d g k m

  branch_grows : (t : Text) (n : Node) (c : Condition) → OnGoes (Grows s) (branch_step t n c s)
  branch_grows t n c = need_on (Grows s) (value t.addresses s (operand_at n 1)) _ (λ a h. need_on (Grows s) (value t.addresses s (operand_at n 2)) _ (λ b g. same _ refl refl refl refl))

  sum_grows : (t : Text) (n : Node) (o : BranchSumOp) → OnGoes (Grows s) (branch_sum_step t n o s)
  sum_grows t n o = need_on (Grows s) (value t.addresses s (operand_at n 1)) _ (λ a h. need_on (Grows s) (value t.addresses s (operand_at n 2)) _ (λ b g. same _ refl refl refl refl))

  jump_grows : (t : Text) (n : Node) → OnGoes (Grows s) (jump_step t n s)
  jump_grows t n = need_on (Grows s) (value t.addresses s (operand_at n 0)) _ (λ w h. need_on (Grows s) (jump_target t s.at w) _ (λ k g. same _ refl refl refl refl))

  push_grows : (A : List ℕ) (n : Node) → OnGoes (Grows s) (push_step A n s)
  push_grows A n = need_on (Grows s) (value A s (operand_at n 0)) _ (λ v h. same _ refl refl refl refl)

  store_grows : (A : List ℕ) (n : Node) (t : StoreType) (at : Addressing) → OnGoes (Grows s) (store_step A n t at s)
  store_grows A n t at =
      need_on (Grows s) (address A s at n 0) _ (λ a h. need_on (Grows s) (value A s (operand_at n (stored_operand at))) _ (λ v g. by a v))
    where
      by : (a v : ℕ) → OnGoes (Grows s) (store_to s t a v)
      by a v = when_on (Grows s) (writable (is_open s) a (store_width t)) _ (λ may. record { data_size = refl; args_size = refl; mark = omega arith; bytes = λ b lt h. stored_stays (store_width t) s.mem a v b h })

  -- ---- calls
  ends_grow : (h : Host) → OnGives h (Writes (memory s.mem (is_open s) s.mark)) → OnGoes (Grows s) (host_end s h)
  ends_grow (Exits status) w = tt
  ends_grow Undefined w = tt
  ends_grow (Gives v changes mark bytes) w = record { data_size = refl; args_size = refl; mark = w.rises; bytes = λ a lt h. over_stays changes s.mem a h }

  host_grows : (args : List ℕ) (name : HostName) → OnGoes (Grows s) (call_host s args name)
  host_grows args name = ends_grow (host_of name args (is_marked s.variadic) (memory s.mem (is_open s) s.mark)) (host_writes (memory s.mem (is_open s) s.mark) name args (is_marked s.variadic))

  node_grows : (t : Text) (args : List ℕ) (k : ℕ) → OnGoes (Grows s) (call_node t s args k)
  node_grows t args k = need_on (Grows s) (function_here t.functions k) _ (λ f h. when_on (Grows s) (nat_le (0x3FF00010 + frame_of f) (s.frame.sp - s.frame.size)) _ (λ room. same _ refl refl refl refl))

  operand_grows : (t : Text) (args : List ℕ) (x : Operand) → OnGoes (Grows s) (call_operand t s args x)
  operand_grows t args (operand.Host name) = host_grows args name
  operand_grows t args _ = node_grows t args _

  named_grows : (t : Text) (args : List ℕ) (w : ℕ) (o : Option HostName) → OnGoes (Grows s) (call_named t s args w o)
  named_grows t args w (Some name) = host_grows args name
  named_grows t args w None = need_on (Grows s) (entry_target t w) _ (λ k h. node_grows t args k)

  call_grows : (t : Text) (n : Node) (last : LastOperand) (args : List ℕ) → OnGoes (Grows s) (call_step t n last args s)
  call_grows t n last_operand.Immediate args = operand_grows t args (operand_at n 0)
  call_grows t n last_operand.Register args = need_on (Grows s) (value t.addresses s (operand_at n 0)) _ (λ w h. named_grows t args w (host_by_address w))

module _ (l : LabelledNodes) (shape : TextShape) (s : State) (w : IsWellShaped l) (n : Node) (here : slice_get l.nodes s.at ≡ Some n) (well : FitsWell l shape s) (A : List ℕ) where
  -- a return takes out locals alone
  back_grows : (v : Option ℕ) (gs : List Frame) → OnGoes (Grows s) (back_to s v gs)
  back_grows v [] = tt
  back_grows v (g ∷ gs) = record {
    data_size = refl;
    args_size = refl;
    mark = omega arith;
    bytes = λ a lt h. without_stays s.mem (s.frame.sp - 144 - s.frame.locals) s.frame.locals a (frame_high s.frame a (top_whole l shape s (home l.nodes s.at) well.fits.top) well.fits.low lt) h;
  }

  -- and so does a function that begins
  prolog_grows : n.op ≡ op.Plain plain.Prolog → OnGoes (Grows s) (prolog_step (text l shape A) s)
  prolog_grows e = need_on (Grows s) (function_here shape.functions s.at) _ by
    where
      by : (f : Function) → function_here shape.functions s.at ≡ Some f → Grows s (on (begun s f))
      by f found =
          let h = (w.entries s.at (rw here (rw e refl))).0 in
          let r : RunsIn shape s s.at = subst (IsTopOf l shape s) h well.fits.top in
          let one : r.function ≡ f = same_Some r.function f (sym r.here ∙ found) in
          let room : 0x3FF00010 + frame_of f ≤ s.frame.sp = subst (λ (u : Function). 0x3FF00010 + frame_of u ≤ s.frame.sp) one (r.top.before (sym r.entry)).2 in
          record {
            data_size = refl;
            args_size = refl;
            mark = omega arith;
            bytes = λ a lt g. without_stays s.mem (s.frame.sp - 144 - f.locals) f.locals a (locals_high s.frame.sp f.locals (frame_of f) a room (omega arith) lt) g;
          }

  grows_of : (o : Op) → n.op ≡ o → OnGoes (Grows s) (node_step (text l shape A) n o s)
  grows_of (op.Binary a b) e = falls_grow s (node_step (text l shape A) n (op.Binary a b) s) (binary_node_falls s (text l shape A) n a b)
  grows_of (op.Wide a b) e = falls_grow s (wide_step A n a s) (wide_falls s A n a)
  grows_of (op.Branch c last) e = branch_grows s (text l shape A) n c
  grows_of (op.BranchSum o last) e = sum_grows s (text l shape A) n o
  grows_of (op.Control control.Jmp last_operand.Register) e = jump_grows s (text l shape A) n
  grows_of (op.Control control.Jmp last_operand.Immediate) e = same s _ refl refl refl refl
  grows_of (op.Control control.Call last) e = call_grows s (text l shape A) n last []
  grows_of (op.Control control.Finish last) e = call_grows s (text l shape A) n last s.pushed
  grows_of (op.Control control.Pusharg last) e = push_grows s A n
  grows_of (op.Control control.Ret last) e = need_on (Grows s) (value A s (operand_at n 0)) _ (λ v h. back_grows (Some v) s.callers)
  grows_of (op.Unary a) e = falls_grow s (unary_step A n a s) (unary_falls s A n a)
  grows_of (op.Plain plain.Movi) e = falls_grow s (movi_step A n s) (movi_falls s A n)
  grows_of (op.Plain plain.Prolog) e = prolog_grows e
  grows_of (op.Plain plain.Epilog) e = back_grows None s.callers
  grows_of (op.Plain plain.Ret) e = back_grows None s.callers
  grows_of (op.Plain plain.VaStart) e = falls_grow s (va_start_step A n s) (va_start_falls s A n)
  grows_of (op.Plain plain.VaArg) e = falls_grow s (va_arg_step A n s) (va_arg_falls s A n)
  grows_of (op.Plain plain.VaEnd) e = falls_grow s (va_end_step A n s) (va_end_falls s A n)
  grows_of (op.Plain _) e = same s _ refl refl refl refl
  grows_of (op.Load v at) e = falls_grow s (load_step A n v at s) (load_falls s A n v at)
  grows_of (op.Store t at) e = store_grows s A n t at
  grows_of (op.Retval v) e = falls_grow s (retval_step n v s) (retval_falls s n v)
  grows_of (op.Getarg v) e = falls_grow s (getarg_step n v s) (getarg_falls s n v)

pub steps_grow : (l : LabelledNodes) (shape : TextShape) (A : List ℕ) (s t : State) (bytes : List ℕ) → IsWellShaped l → FitsWell l shape s → step l shape A s ≡ Goes t bytes → Grows s t
steps_grow l shape A s t bytes w well e = by (slice_get l.nodes s.at) refl e
  where
    by : (o : Option Node) → slice_get l.nodes s.at ≡ o → step_at (text l shape A) o s ≡ Goes t bytes → Grows s t
    by None here h = cc
    by (Some n) here h = on_result (Grows s) (node_step (text l shape A) n n.op s) t bytes (grows_of l shape s w n here well A n.op refl) h
