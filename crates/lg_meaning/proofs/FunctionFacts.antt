-- The function of a node of an accepted text: each node of a function has that function, and no other.
use Rattle.std.proofs.Common.{◌≡◌, ℕ, ◌+◌, ◌≤◌, Some, refl, sym, ap, ◌∙◌, subst, arith}
use Rattle.std.specs.Prelude.{slice_get, slice_range, sum_by}
use Rattle.std.specs.Option.{option_and_then}
use Rattle.std.proofs.lemmas.Option.{slice_get_within, get_or_from_slice_get}
use Rattle.std.proofs.lemmas.List.Elements.{All-get_or}
use Rattle.lg_node.specs.declared.function.Function.{Function}
use Rattle.lg_node.specs.Nodes.{LabelledNodes}
use Rattle.lg_node.specs.Functions.{home, functions, local_size, IsFunction}
use Rattle.lg_node.specs.Shapes.{TextShape}
use Rattle.lg_node.specs.ShapeTables.{IsSmall}
use Rattle.lg_node.specs.ShapeLaws.{HasFunctions}
use Rattle.lg_meaning.specs.Steps.{function_here}

-- a function of the text, which begins at node p, is that of node i
pub record IsAt (l : LabelledNodes) (shape : TextShape) (i p : ℕ) (f : Function) : Type 0 where
  pub here : function_here shape.functions i ≡ Some f
  pub entry : f.entry ≡ p
  pub is : IsFunction l.nodes f
  pub small : f.locals ≤ 65536

module _ (l : LabelledNodes) (shape : TextShape) (hf : HasFunctions l) (fe : shape.functions ≡ functions l.nodes) where
  pub function_at_home : (i p : ℕ) → home l.nodes i ≡ Some p → (f : Function) × IsAt l shape i p f
  function_at_home i p h =
      let x = hf.numbers i p h in
      let fs = functions l.nodes in
      let lt = slice_get_within fs x.number x.function x.listed in
      let e = get_or_from_slice_get fs x.number x.function x.function x.listed in
      let small : IsSmall x.function = subst IsSmall e (All-get_or IsSmall fs x.number x.function lt hf.small) in (
        x.function,
        record {
          here = rw fe (ap (option_and_then (slice_get fs)) x.numbered ∙ x.listed);
          entry = x.entry;
          is = subst (IsFunction l.nodes) e (All-get_or (IsFunction l.nodes) fs x.number x.function lt hf.ranges);
          small = small.locals;
        },
      )

-- two functions with one entry are one
pub same_function : (l : LabelledNodes) (f g : Function) → IsFunction l.nodes f → IsFunction l.nodes g → f.entry ≡ g.entry → f ≡ g
same_function l f g i j e =
    let last : f.last ≡ g.last = omega (arith, (j.only f.last (i.all f.last i.order (omega arith) ∙ ap Some e)).1, (i.only g.last (j.all g.last j.order (omega arith) ∙ ap Some (sym e))).1) in
    let locals : f.locals ≡ g.locals = i.locals ∙ ap (λ (x : ℕ). sum_by local_size (slice_range l.nodes x (f.last + 1))) e ∙ ap (λ (x : ℕ). sum_by local_size (slice_range l.nodes g.entry (x + 1))) last ∙ sym j.locals in
    parts f.entry g.entry f.last g.last f.locals g.locals e last locals
  where
    parts : (a a' b b' c c' : ℕ) → a ≡ a' → b ≡ b' → c ≡ c' → ◌≡◌ {A = Function} record { entry = a; last = b; locals = c } record { entry = a'; last = b'; locals = c' }
    parts a a' b b' c c' x y z = rw (x, y, z) refl
