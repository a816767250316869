-- Functions that begin, calls and returns keep the fit.
use Rattle.std.proofs.Common.{◌≡◌, ⊎_elim, ℕ, ◌+◌, ◌-◌, ◌<◌, ◌≤◌, true, false, List, [], ◌∷◌, Option, Some, None, refl, sym, ap, ◌∙◌, length, subst, arith}
use Rattle.std.specs.Prelude.{slice_get, slice_index_or, nat_le, is_some, if◌then◌else◌}
use Rattle.std.proofs.lemmas.Bool.{eqb-true, false≢true}
use Rattle.std.proofs.lemmas.Option.{same_Some}
use Rattle.lg_base.specs.HostNames.{host_by_address}
use Rattle.lg_base.specs.declared.host_name.HostName.{HostName}
use Rattle.lg_host.specs.Blocks.{Changes, over}
use Rattle.lg_host.specs.Host.{Mem, Host, Gives, Exits, Undefined, memory, host_of}
use Rattle.lg_host.specs.HostLaws.{OnGives}
use Rattle.lg_op.specs.declared.form.Form.{Form}
use Rattle.lg_op.specs.declared.form.Form.TheVariants as form
use Rattle.lg_op.specs.declared.node.Node.{Node}
use Rattle.lg_op.specs.declared.op.LastOperand.{LastOperand}
use Rattle.lg_op.specs.declared.op.LastOperand.TheVariants as last_operand
use Rattle.lg_op.specs.declared.op.Op.{Op}
use Rattle.lg_op.specs.declared.op.Op.TheVariants as op
use Rattle.lg_op.specs.declared.op.ControlOp.TheVariants as control
use Rattle.lg_op.specs.declared.op.PlainOp.TheVariants as plain
use Rattle.lg_op.specs.declared.operand.Operand.{Operand}
use Rattle.lg_op.specs.declared.operand.Operand.TheVariants as operand
use Rattle.lg_op.specs.Forms.{admit}
use Rattle.lg_node.specs.declared.function.Function.{Function}
use Rattle.lg_node.specs.declared.preparation.Preparation.{Preparation}
use Rattle.lg_node.specs.Nodes.{LabelledNodes}
use Rattle.lg_node.specs.Functions.{home, frame_of, is_prolog, is_epilog, is_epilog_at}
use Rattle.lg_node.specs.Labels.{place_of}
use Rattle.lg_node.specs.Preparations.{prepared_after, prepared_before, pushed_of, variadic_of}
use Rattle.lg_node.specs.Checks.{is_begun, may_stand_outside, breaks_preparation}
use Rattle.lg_node.specs.Shapes.{TextShape}
use Rattle.lg_node.specs.ShapeLaws.{has_callee, IsEntry}
use Rattle.lg_node.proofs.FunctionLaws.{home_within}
use Rattle.lg_node.proofs.WalkLemmas.{prepared_on}
use Rattle.lg_cells.specs.Memories.{without}
use Rattle.lg_meaning.specs.States.{Frame, State, value, is_part, is_open}
use Rattle.lg_meaning.specs.Steps.{operand_at, on, begun, prolog_step, called, started, enter, resumed, back_to, leave, ret_step, answered, host_end, call_host, is_marked, call_node, call_operand, begins, is_entry_label, entry_target, call_named, call_step, node_in, function_here}
use Rattle.lg_meaning.specs.Texts.{text}
use Rattle.lg_meaning.specs.Fits.{RunsIn, IsTopOf, IsCaller, AreLinked, is_call, passed, FitsWell}
use Rattle.lg_meaning.proofs.ArriveLemmas.{after_top, before_top}
use Rattle.lg_meaning.proofs.FunctionFacts.{IsAt, same_function}
use Rattle.lg_meaning.proofs.HostFacts.{Writes, host_writes}
use Rattle.lg_meaning.proofs.NodeFacts.{AtNode, prepares, still, at_home, function_found, in_some, running, prepared_next}
use Rattle.lg_meaning.proofs.OpenFacts.{open_instead, open_below, open_above, open_grown, open_given, without_there}
use Rattle.lg_meaning.proofs.Outcomes.{OnGoes, need_on, when_on}
use Rattle.lg_meaning.proofs.StayLemmas.{last_landed, next_fits}

-- the frame that runs is linked to its callers whatever its sizes are
relinked : (l : LabelledNodes) (shape : TextShape) (f : Frame) (size locals : ℕ) (gs : List Frame) → AreLinked l shape f gs → AreLinked l shape (record f { size = size; locals = locals }) gs
relinked l shape f size locals [] h = h
relinked l shape f size locals (g ∷ gs) h = (
  record { at = h.0.at; node = h.0.node; function = h.0.function; back = h.0.back; here = h.0.here; calls = h.0.calls; args = h.0.args; home = h.0.home; found = h.0.found; size = h.0.size; locals = h.0.locals; below = h.0.below },
  h.1,
)

-- a call leaves nothing prepared
call_ends : (c : Option Preparation) (o : Op) → is_call o ≡ true → (breaks_preparation o ≡ true → c ≡ None) → prepared_after c o ≡ None
call_ends None (op.Control control.Call last) e h = refl
call_ends (Some call) (op.Control control.Call last) e h = h refl
call_ends None (op.Control control.Finish last) e h = refl
call_ends (Some call) (op.Control control.Finish last) e h = refl
call_ends c o e h = absurd (false≢true e)

call_goes_on : (o : Op) → is_call o ≡ true → is_epilog o ≡ false
call_goes_on (op.Plain plain.Epilog) e = cc
call_goes_on o e = refl

-- the memory of a state as host functions have it
abbrev at_host : State → Mem
at_host s = memory s.mem (is_open s) s.mark

module _ (l : LabelledNodes) (shape : TextShape) (s : State) (n : Node) (x : AtNode l shape s n) where
  -- after a call node nothing is prepared
  none_behind : (i : ℕ) (m : Node) → slice_get l.nodes i ≡ Some m → is_call m.op ≡ true → prepared_before l.nodes (i + 1) ≡ None
  none_behind i m here calls = prepared_on l.nodes i m here ∙ call_ends (prepared_before l.nodes i) m.op calls (λ breaks. x.shaped.unprepared i m here (rw breaks refl))

  -- ---- a function begins
  pub prolog_fits : (A : List ℕ) → n.op ≡ op.Plain plain.Prolog → OnGoes (FitsWell l shape) (prolog_step (text l shape A) s)
  prolog_fits A e = need_on (FitsWell l shape) (function_here shape.functions s.at) _ by
    where
      silent : prepares n.op ≡ false
      silent = rw e refl

      behind : prepared_before l.nodes (s.at + 1) ≡ prepared_before l.nodes s.at
      behind = prepared_next l shape s n x ∙ still (prepared_before l.nodes s.at) n.op silent

      by : (f : Function) → function_here shape.functions s.at ≡ Some f → FitsWell l shape (on (begun s f))
      by f found =
          let h = (x.shaped.entries s.at (rw x.here (rw e refl))).0 in
          let r : RunsIn shape s s.at = subst (IsTopOf l shape s) h x.well.fits.top in
          let same : r.function ≡ f = same_Some r.function f (sym r.here ∙ found) in
          let fresh = r.top.before (sym r.entry) in
          let next = x.shaped.falls s.at s.at h (rw x.here (rw e refl)) in
          let g = at_home l shape s n x (s.at + 1) s.at next.0 in
          let one : f ≡ g.0 = same_function l f g.0 (function_found l shape x.has x.same s.at f found) g.1.is (ap (λ u. u.entry) (sym same) ∙ r.entry ∙ sym g.1.entry) in
          record {
            fits = record {
              inside = home_within l.nodes (s.at + 1) s.at next.0;
              top = subst (IsTopOf l shape (on (begun s f))) (sym next.0) (after_top l shape s n x (on (begun s f)) (s.at + 1) s.at g.0 g.1 next.1 refl (ap frame_of one) (ap (λ u. u.locals) one));
              low = subst (λ (u : Function). 0x3FF00010 + frame_of u ≤ s.frame.sp) same fresh.2;
              linked = relinked l shape s.frame (frame_of f) f.locals s.callers x.well.fits.linked;
              pushed = x.well.fits.pushed ∙ sym (ap pushed_of behind);
              variadic = x.well.fits.variadic ∙ sym (ap variadic_of behind);
              memory = λ a b m.
                  let y = without_there s.mem (s.frame.sp - 144 - f.locals) f.locals a b m in
                  open_instead s.data_size s.args_size s.mark s.frame (record s.frame { size = frame_of f; locals = f.locals }) s.callers a fresh.1 (x.well.fits.memory a b y.1);
            };
            heap = x.well.heap;
          }

  -- ---- a return
  pub back_fits : (v : Option ℕ) (gs : List Frame) → s.callers ≡ gs → OnGoes (FitsWell l shape) (back_to s v gs)
  back_fits v [] e = tt
  back_fits v (g ∷ gs) e =
      let linked : AreLinked l shape s.frame (g ∷ gs) = subst (AreLinked l shape s.frame) e x.well.fits.linked in
      let c : IsCaller l shape s.frame g = linked.0 in
      let next = x.shaped.falls c.at c.function.entry c.home (ap is_epilog_at c.here ∙ call_goes_on c.node.op c.calls) in
      let h : home l.nodes s.frame.back ≡ Some c.function.entry = ap (home l.nodes) c.back ∙ next.0 in
      let f = at_home l shape s n x (c.at + 1) c.function.entry next.0 in
      let same : c.function ≡ f.0 = same_function l c.function f.0 (function_found l shape x.has x.same c.at c.function c.found) f.1.is (sym f.1.entry) in
      let none : prepared_before l.nodes s.frame.back ≡ None = ap (prepared_before l.nodes) c.back ∙ none_behind c.at c.node c.here c.calls in
      let t : State = resumed (record s { frame = g; callers = gs; mem = without s.mem (s.frame.sp - 144 - s.frame.locals) s.frame.locals }) s.frame.back s.frame.saved v in
      record {
        fits = record {
          inside = home_within l.nodes s.frame.back c.function.entry h;
          top = subst (IsTopOf l shape t) (sym h) (after_top l shape s n x t (c.at + 1) c.function.entry f.0 f.1 next.1 c.back (c.size ∙ ap frame_of same) (c.locals ∙ ap (λ u. u.locals) same));
          linked = linked.1;
          low = (let top : 0x3FF00010 + s.frame.size ≤ s.frame.sp = x.well.fits.low in let below : s.frame.sp + g.size ≡ g.sp = c.below in omega arith);
          pushed = sym (ap pushed_of none);
          variadic = sym (ap variadic_of none);
          memory = λ a b m.
              let y = without_there s.mem (s.frame.sp - 144 - s.frame.locals) s.frame.locals a b m in
              open_above s.data_size s.args_size s.mark s.frame (g ∷ gs) a y.0 (subst (λ (fs : List Frame). is_part s.data_size s.args_size s.mark (s.frame ∷ fs) a ≡ true) e (x.well.fits.memory a b y.1));
        };
        heap = x.well.heap;
      }

  pub leave_fits : (v : Option ℕ) → OnGoes (FitsWell l shape) (leave s v)
  leave_fits v = back_fits v s.callers refl

  pub ret_fits : (A : List ℕ) → OnGoes (FitsWell l shape) (ret_step A n s)
  ret_fits A = need_on (FitsWell l shape) (value A s (operand_at n 0)) _ (λ v e. leave_fits (Some v))

  -- ---- calls
  module _ (args : List ℕ) (out : may_stand_outside n.op (is_begun l.nodes s.at) ≡ false) (pro : is_prolog n.op ≡ false) (epi : is_epilog n.op ≡ false) (calls : is_call n.op ≡ true) (count : length args ≡ passed l.nodes s.at n.op) where
    none_next : prepared_before l.nodes (s.at + 1) ≡ None
    none_next = none_behind s.at n x.here calls

    pub enter_fits : (k : ℕ) (f : Function) → home l.nodes k ≡ Some k → function_here shape.functions k ≡ Some f → OnGoes (FitsWell l shape) (enter s args f)
    enter_fits k f h found = when_on (FitsWell l shape) (nat_le (0x3FF00010 + frame_of f) (s.frame.sp - s.frame.size)) _ by
      where
        by : nat_le (0x3FF00010 + frame_of f) (s.frame.sp - s.frame.size) ≡ true → FitsWell l shape (started (record s { frame = called s args; callers = s.frame ∷ s.callers }) f.entry)
        by fit =
            let room : 0x3FF00010 + frame_of f ≤ s.frame.sp - s.frame.size = grind arith in
            let t : State = started (record s { frame = called s args; callers = s.frame ∷ s.callers }) f.entry in
            let g = at_home l shape s n x k k h in
            let is : IsAt l shape k k f = subst (IsAt l shape k k) (same_Some g.0 f (sym g.1.here ∙ found)) g.1 in
            let there : home l.nodes f.entry ≡ Some k = ap (home l.nodes) is.entry ∙ h in
            let none : prepared_before l.nodes f.entry ≡ None = ap (prepared_before l.nodes) is.entry ∙ (x.shaped.entries k (x.shaped.prologs k h)).1 in
            let p = in_some l shape s n x out in
            let r = running l shape s n x p.0 p.1 pro in
            record {
              fits = record {
                inside = home_within l.nodes f.entry k there;
                top = subst (IsTopOf l shape t) (sym there) (before_top l shape s n x t k f is is.entry refl refl room);
                low = omega (arith, room);
                linked = (
                  record {
                    at = s.at;
                    node = n;
                    function = r.function;
                    back = refl;
                    here = x.here;
                    calls = calls;
                    args = count;
                    home = r.home ∙ ap Some (sym r.is.entry);
                    found = r.is.here;
                    size = r.size;
                    locals = r.locals;
                    below = omega (arith, room);
                  },
                  x.well.fits.linked,
                );
                pushed = sym (ap pushed_of none);
                variadic = sym (ap variadic_of none);
                memory = λ a b m. open_below s.data_size s.args_size s.mark (called s args) (s.frame ∷ s.callers) a (x.well.fits.memory a b m);
              };
              heap = x.well.heap;
            }

    node_fits : (A : List ℕ) (k : ℕ) → home l.nodes k ≡ Some k → OnGoes (FitsWell l shape) (call_node (text l shape A) s args k)
    node_fits A k h = need_on (FitsWell l shape) (function_here shape.functions k) _ (λ f found. enter_fits k f h found)

    -- the memory after a host function
    host_memory : (changes : Changes) (mark v : ℕ) (bytes : List ℕ) → Writes (at_host s) v changes mark bytes → (a b : ℕ) → over changes s.mem a ≡ Some b → is_part s.data_size s.args_size mark (s.frame ∷ s.callers) a ≡ true
    host_memory changes mark v bytes w a b e = by (changes a) refl e
      where
        by : (o : Option ℕ) → changes a ≡ o → (if is_some o then o else s.mem a) ≡ Some b → is_part s.data_size s.args_size mark (s.frame ∷ s.callers) a ≡ true
        by None is m = open_grown s.data_size s.args_size s.mark mark (s.frame ∷ s.callers) a w.rises (x.well.fits.memory a b m)
        by (Some c) is m = ⊎_elim
            (λ (may : is_open s a ≡ true). open_grown s.data_size s.args_size s.mark mark (s.frame ∷ s.callers) a w.rises may)
            (λ (given : (s.mark ≤ a) × (a < mark)). open_given s.data_size s.args_size s.mark mark (s.frame ∷ s.callers) a x.well.heap.low given.0 given.1)
            (w.where_may a c is)

    ends_fit : (h : Host) → OnGives h (Writes (at_host s)) → OnGoes (FitsWell l shape) (host_end s h)
    ends_fit (Exits status) w = tt
    ends_fit Undefined w = tt
    ends_fit (Gives v changes mark bytes) w = next_fits l shape s n x (answered s v (over changes s.mem) mark) out pro epi record {
      at = refl;
      frame = refl;
      callers = refl;
      memory = host_memory changes mark v bytes w;
      heap = record { low = (let up : s.mark ≤ mark = w.rises in omega (arith, x.well.heap.low)); high = w.stays x.well.heap.high };
      pushed = sym (ap pushed_of none_next);
      variadic = sym (ap variadic_of none_next);
    }

    host_fits : (name : HostName) → OnGoes (FitsWell l shape) (call_host s args name)
    host_fits name = ends_fit (host_of name args (is_marked s.variadic) (at_host s)) (host_writes (at_host s) name args (is_marked s.variadic))

    -- a call of a label or of a host function
    operand_fits : (A : List ℕ) (fs : List Form) (xs : List Operand) → n.operands ≡ xs → admit (form.Callee ∷ fs) xs ≡ true → has_callee n.op ≡ true → OnGoes (FitsWell l shape) (call_operand (text l shape A) s args (slice_index_or xs 0 (operand.Number 0)))
    operand_fits A fs (operand.Host name ∷ ys) e f c = host_fits name
    operand_fits A fs (operand.Label y ∷ ys) e f c =
        let j : IsEntry l (place_of l.places y) = x.shaped.calls s.at n y ys x.here c e in
        node_fits A (node_in (place_of l.places y)) (rw (ap node_in j.place) j.entry)
    operand_fits A fs _ e f c = cc

    -- a call of a word
    entry_home : (A : List ℕ) (w k : ℕ) → entry_target (text l shape A) w ≡ Some k → home l.nodes k ≡ Some k
    entry_home A w k t =
        let d = last_landed (is_entry_label (text l shape A)) l.places A w (length l.places) k t in
        by (function_here shape.functions k) refl d.passes
      where
        by : (o : Option Function) → function_here shape.functions k ≡ o → begins o k ≡ true → home l.nodes k ≡ Some k
        by None e b = cc
        by (Some f) e b =
            let is = function_found l shape x.has x.same k f e in
            let at : f.entry ≡ k = eqb-true f.entry k b in
            let order : f.entry ≤ f.last = is.order in
            is.all k (omega arith) (omega arith) ∙ ap Some at

    word_fits : (A : List ℕ) (w : ℕ) (o : Option HostName) → OnGoes (FitsWell l shape) (call_named (text l shape A) s args w o)
    word_fits A w (Some name) = host_fits name
    word_fits A w None = need_on (FitsWell l shape) (entry_target (text l shape A) w) _ (λ k t. node_fits A k (entry_home A w k t))

    pub call_fits : (A : List ℕ) (last : LastOperand) (fs : List Form) → (last ≡ last_operand.Immediate → (admit (form.Callee ∷ fs) n.operands ≡ true) × (has_callee n.op ≡ true)) → OnGoes (FitsWell l shape) (call_step (text l shape A) n last args s)
    call_fits A last_operand.Immediate fs h = operand_fits A fs n.operands refl (h refl).0 (h refl).1
    call_fits A last_operand.Register fs h = need_on (FitsWell l shape) (value A s (operand_at n 0)) _ (λ w e. word_fits A w (host_by_address w))
