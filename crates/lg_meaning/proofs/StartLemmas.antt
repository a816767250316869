-- The state at the start of a run fits the shape of an accepted text.
use Rattle.std.proofs.Common.{◌≡◌, ℕ, ◌+◌, ◌-◌, ◌<◌, ◌≤◌, Bool, true, false, List, [], ◌∷◌, Option, Some, None, refl, sym, ap, ◌∙◌, subst, length, arith}
use Rattle.std.specs.Prelude.{◌||◌, if◌then◌else◌, slice_get, slice_index}
use Rattle.std.proofs.lemmas.Option.{slice_get_within}
use Rattle.lg_base.specs.Parts.{data_base, args_base, heap_base}
use Rattle.lg_cells.specs.Cells.{within}
use Rattle.lg_op.specs.declared.node.Node.{Node}
use Rattle.lg_op.specs.declared.operand.Label.{Label}
use Rattle.lg_node.specs.declared.function.Function.{Function}
use Rattle.lg_node.specs.Labels.{place_of, is_entry}
use Rattle.lg_node.specs.Nodes.{LabelledNodes}
use Rattle.lg_node.specs.declared.place.Place.{Place}
use Rattle.lg_node.specs.declared.place.Place.TheVariants as place
use Rattle.lg_node.specs.Functions.{open_before, home, frame_of, is_prolog_at}
use Rattle.lg_node.specs.Preparations.{pushed_of, variadic_of, prepared_before}
use Rattle.lg_node.specs.Checks.{end_refusal}
use Rattle.lg_node.specs.Shapes.{TextShape, IsShapeOf}
use Rattle.lg_node.specs.ShapeLaws.{IsWellShaped, HasFunctions}
use Rattle.lg_node.proofs.WalkLemmas.{prepared_start}
use Rattle.lg_meaning.specs.States.{in_locals, is_open}
use Rattle.lg_meaning.specs.Fits.{IsTopOf, Fits, FitsWell}
use Rattle.lg_meaning.specs.Starts.{IsEntryStack, Entry, MayEnter, begins_at, MayBegin, entry_frame, entered_state, start_entry}
use Rattle.lg_meaning.specs.Steps.{node_in}
use Rattle.lg_meaning.proofs.FunctionFacts.{function_at_home}

-- a text without nodes has no function, and is refused for that
some_node : (nodes : List Node) → end_refusal nodes ≡ None → 0 < length nodes
unfolding open_before
some_node [] e = cc
some_node (n ∷ ns) e = omega arith

-- a byte at the start is one of the data or of the arguments
one_of : (x y z : Bool) (u v b : ℕ) → ◌≡◌ {A = Option ℕ} (if x then Some u else (if y then Some v else None)) (Some b) → (x || (y || z)) ≡ true
one_of true y z u v b e = refl
one_of false true z u v b e = refl
one_of false false z u v b e = cc

-- a byte at the start of a text's run is one of the data or of the arguments
pub start_may : (sp : ℕ) (image args : List ℕ) → IsEntryStack sp → MayEnter (start_entry sp image args)
start_may sp image args stack = record {
  stack = stack;
  few = omega arith;
  heap = record { low = omega arith; high = omega arith };
  parts = λ a b e.
      one_of (within data_base (length image) a) (within args_base (length args) a) (within heap_base (heap_base - heap_base) a || false) (slice_index image (a - data_base)) (slice_index args (a - args_base)) b e;
}

-- what is open without a frame is open
open_with : (x y z v w : Bool) → (x || (y || (z || false))) ≡ true → (x || (y || (z || (v || w)))) ≡ true
open_with true y z v w e = refl
open_with false true z v w e = refl
open_with false false true v w e = refl
open_with false false false v w e = cc

entered_open : (e : Entry) (k : ℕ) → MayEnter e → (a b : ℕ) → e.mem a ≡ Some b → is_open (entered_state e k) a ≡ true
entered_open e k may a b f =
    open_with (within data_base e.data_size a) (within args_base e.args_size a) (within heap_base (e.mark - heap_base) a) (in_locals (entry_frame e.sp e.args) a) false (may.parts a b f)

-- the first frame of each function fits the stack
pub frame_small : (f : Function) (sp : ℕ) → f.locals ≤ 65536 → IsEntryStack sp → 0x3FF00010 + frame_of f ≤ sp
frame_small f sp h stack = omega (arith, stack.room)

-- a `prolog` is a node
prolog_inside : (nodes : List Node) (k : ℕ) → is_prolog_at (slice_get nodes k) ≡ true → k < length nodes
prolog_inside nodes k e = by (slice_get nodes k) refl e
  where
    by : (o : Option Node) → slice_get nodes k ≡ o → is_prolog_at o ≡ true → k < length nodes
    by None h f = cc
    by (Some n) h f = slice_get_within nodes k n h

module _ (l : LabelledNodes) (shape : TextShape) (is : IsShapeOf l shape) (w : IsWellShaped l) (has : HasFunctions l) (e : Entry) (may : MayEnter e) where
  -- at the `prolog` of a function
  top_at_entry : (k p : ℕ) → home l.nodes k ≡ Some p → k ≤ p → IsTopOf l shape (entered_state e k) (Some p)
  top_at_entry k p h le =
      let x = function_at_home l shape has is.functions k p h in
      let first = (x.1.is.only k (h ∙ ap Some (sym x.1.entry))).0 in
      record {
        function = x.0;
        here = x.1.here;
        entry = x.1.entry;
        top = record { behind = λ other. absurd (other (omega (arith, first, le, x.1.entry))); before = λ same. (refl, refl, frame_small x.0 e.sp x.1.small may.stack) };
      }

  -- at the first node
  top_at_start : (o : Option ℕ) → home l.nodes 0 ≡ o → IsTopOf l shape (entered_state e 0) o
  top_at_start None h = record { outside = refl; alone = refl; size = refl; locals = refl }
  top_at_start (Some p) h = top_at_entry 0 p h (omega arith)

  entered_fits : (k : ℕ) → k < length l.nodes → prepared_before l.nodes k ≡ None → IsTopOf l shape (entered_state e k) (home l.nodes k) → Fits l shape (entered_state e k)
  entered_fits k inside prepared top = record {
    inside = inside;
    top = top;
    linked = (may.stack, may.few);
    low = omega (arith, may.stack.room);
    pushed = sym (ap pushed_of prepared);
    variadic = sym (ap variadic_of prepared);
    memory = entered_open e k may;
  }

  at_entry : (k : ℕ) → is_prolog_at (slice_get l.nodes k) ≡ true → Fits l shape (entered_state e k)
  at_entry k begins =
      let here = w.entries k begins in
      entered_fits k (prolog_inside l.nodes k begins) here.1 (subst (λ o. IsTopOf l shape (entered_state e k) o) (sym here.0) (top_at_entry k k here.0 (omega arith)))

  at_place : (o : Option Place) → is_entry l.nodes o ≡ true → Fits l shape (entered_state e (node_in o))
  at_place None h = cc
  at_place (Some (place.Image k)) h = cc
  at_place (Some (place.Node k)) h = at_entry k h

  by_begin : (b : Option Label) → MayBegin l b → Fits l shape (entered_state e (begins_at l b))
  by_begin None h = entered_fits 0 (some_node l.nodes is.accepted.end) (prepared_start l.nodes) (top_at_start (home l.nodes 0) refl)
  by_begin (Some x) h = at_place (place_of l.places x) h

  pub start_fits : (b : Option Label) → MayBegin l b → FitsWell l shape (entered_state e (begins_at l b))
  start_fits b h = record { fits = by_begin b h; heap = may.heap }
