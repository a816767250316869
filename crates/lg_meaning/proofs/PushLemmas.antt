-- Steps that prepare a call, and stores, keep the fit.
use Rattle.std.proofs.Common.{◌≡◌, ℕ, ◌+◌, false, List, [], ◌∷◌, ◌++◌, Option, None, Some, refl, sym, ap, ◌∙◌, length, length-append}
use Rattle.lg_op.specs.declared.node.Node.{Node}
use Rattle.lg_op.specs.declared.op.Addressing.{Addressing}
use Rattle.lg_op.specs.declared.op.LastOperand.{LastOperand}
use Rattle.lg_op.specs.declared.op.Op.TheVariants as op
use Rattle.lg_op.specs.declared.op.ControlOp.TheVariants as control
use Rattle.lg_op.specs.declared.op.PlainOp.TheVariants as plain
use Rattle.lg_op.specs.declared.op.StoreType.{StoreType}
use Rattle.lg_node.specs.Nodes.{LabelledNodes}
use Rattle.lg_node.specs.declared.preparation.Preparation.{Preparation}
use Rattle.lg_node.specs.Preparations.{prepared_after, prepared_before, pushed_of, variadic_of}
use Rattle.lg_node.specs.Shapes.{TextShape}
use Rattle.lg_cells.specs.Memories.{writable}
use Rattle.lg_op.specs.Operators.{store_width}
use Rattle.lg_meaning.specs.States.{State, value, is_open}
use Rattle.lg_meaning.specs.Steps.{operand_at, on, prepare_step, ellipsis_step, marked, push_step, store_to, store_step, stored_operand, address}
use Rattle.lg_meaning.specs.Fits.{FitsWell}
use Rattle.lg_meaning.proofs.NodeFacts.{AtNode, prepares, still, prepared_next, prepared_by}
use Rattle.lg_meaning.proofs.OpenFacts.{stored_stands}
use Rattle.lg_meaning.proofs.Outcomes.{OnGoes, need_on, when_on}
use Rattle.lg_meaning.proofs.StayLemmas.{next_fits}

-- an `ellipsis` marks the call that is being prepared, and nothing where none is
pushed_kept : (c : Option Preparation) → pushed_of (prepared_after c (op.Plain plain.Ellipsis)) ≡ pushed_of c
pushed_kept None = refl
pushed_kept (Some call) = refl

marks : (c : Option Preparation) → variadic_of (prepared_after c (op.Plain plain.Ellipsis)) ≡ marked (variadic_of c)
marks None = refl
marks (Some call) = refl

module _ (l : LabelledNodes) (shape : TextShape) (s : State) (n : Node) (x : AtNode l shape s n) where
  pub prepare_fits : n.op ≡ op.Plain plain.Prepare → OnGoes (FitsWell l shape) (prepare_step s)
  prepare_fits e = next_fits l shape s n x (on (record s { pushed = []; variadic = Some false })) (rw e refl) (rw e refl) (rw e refl) record {
    at = refl;
    frame = refl;
    callers = refl;
    memory = x.well.fits.memory;
    heap = x.well.heap;
    pushed = sym (ap pushed_of behind);
    variadic = sym (ap variadic_of behind);
  }
    where
      behind : prepared_before l.nodes (s.at + 1) ≡ Some record { pushed = 0; variadic = false }
      behind = prepared_next l shape s n x ∙ ap (prepared_after (prepared_before l.nodes s.at)) e

  pub ellipsis_fits : n.op ≡ op.Plain plain.Ellipsis → OnGoes (FitsWell l shape) (ellipsis_step s)
  ellipsis_fits e =
      let c = prepared_before l.nodes s.at in
      let behind : prepared_before l.nodes (s.at + 1) ≡ prepared_after c (op.Plain plain.Ellipsis) = prepared_by l shape s n x (op.Plain plain.Ellipsis) c e refl in
      next_fits l shape s n x (on (record s { variadic = marked s.variadic })) (rw e refl) (rw e refl) (rw e refl) record {
        at = refl;
        frame = refl;
        callers = refl;
        memory = x.well.fits.memory;
        heap = x.well.heap;
        pushed = x.well.fits.pushed ∙ sym (ap pushed_of behind ∙ pushed_kept c);
        variadic = ap marked x.well.fits.variadic ∙ sym (ap variadic_of behind ∙ marks c);
      }

  pub push_fits : (A : List ℕ) (last : LastOperand) → n.op ≡ op.Control control.Pusharg last → OnGoes (FitsWell l shape) (push_step A n s)
  push_fits A last e = need_on (FitsWell l shape) (value A s (operand_at n 0)) _ (λ v h. by v)
    where
      by : (v : ℕ) → FitsWell l shape (on (record s { pushed = s.pushed ++ v ∷ [] }))
      by v =
          let c = x.shaped.pushes s.at n x.here (rw e refl) in
          let behind : prepared_before l.nodes (s.at + 1) ≡ prepared_after (Some c.0) (op.Control control.Pusharg last) = prepared_by l shape s n x (op.Control control.Pusharg last) (Some c.0) e c.1 in
          let count : length s.pushed ≡ c.0.pushed = x.well.fits.pushed ∙ ap pushed_of c.1 in
          next_fits l shape s n x (on (record s { pushed = s.pushed ++ v ∷ [] })) (rw e refl) (rw e refl) (rw e refl) record {
            at = refl;
            frame = refl;
            callers = refl;
            memory = x.well.fits.memory;
            heap = x.well.heap;
            pushed = length-append s.pushed (v ∷ []) ∙ ap (λ (k : ℕ). k + 1) count ∙ sym (ap pushed_of behind);
            variadic = x.well.fits.variadic ∙ ap variadic_of c.1 ∙ sym (ap variadic_of behind);
          }

  pub store_fits : (A : List ℕ) (t : StoreType) (at : Addressing) → n.op ≡ op.Store t at → OnGoes (FitsWell l shape) (store_step A n t at s)
  store_fits A t at e =
      need_on (FitsWell l shape) (address A s at n 0) _ (λ a h. need_on (FitsWell l shape) (value A s (operand_at n (stored_operand at))) _ (λ v g. by a v))
    where
      silent : prepares n.op ≡ false
      silent = rw e refl

      behind : prepared_before l.nodes (s.at + 1) ≡ prepared_before l.nodes s.at
      behind = prepared_next l shape s n x ∙ still (prepared_before l.nodes s.at) n.op silent

      by : (a v : ℕ) → OnGoes (FitsWell l shape) (store_to s t a v)
      by a v = when_on (FitsWell l shape) (writable (is_open s) a (store_width t)) _ (λ may. next_fits l shape s n x _ (rw e refl) (rw e refl) (rw e refl) record {
        at = refl;
        frame = refl;
        callers = refl;
        memory = stored_stands (is_open s) (store_width t) s.mem a v may x.well.fits.memory;
        heap = x.well.heap;
        pushed = x.well.fits.pushed ∙ sym (ap pushed_of behind);
        variadic = x.well.fits.variadic ∙ sym (ap variadic_of behind);
      })
