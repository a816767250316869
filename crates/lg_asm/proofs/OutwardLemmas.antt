-- The marks of the nodes at which labels are bound.
use Rattle.std.proofs.Common.{◌≡◌, ℕ, ◌+◌, ◌<◌, ◌≤◌, Bool, false, ◌||◌, List, [], ◌∷◌, Option, Some, length, take, refl, sym, ap, ◌∙◌, arith, ⊎_elim}
use Rattle.std.specs.Prelude.{◌==◌, slice_get, slice_index_or}
use Rattle.std.specs.List.{All, list_any}
use Rattle.std.specs.Option.{option_flatten}
use Rattle.std.proofs.Math.Seq.{take-length}
use Rattle.std.proofs.lemmas.Bool.{cases_lt}
use Rattle.std.proofs.lemmas.List.{get_or_past}
use mathlib.Core.Path.{fun_ext}
use Rattle.lg_carry.specs.Entries.{entry_at}
use Rattle.lg_meaning.specs.Starts.{begins_at}
use Rattle.lg_meaning.specs.Steps.{node_in}
use Rattle.lg_node.specs.Nodes.{LabelledNodes, MayStand}
use Rattle.lg_node.specs.declared.place.Place.{Place}
use Rattle.lg_node.specs.declared.place.Place.TheVariants as place
use Rattle.lg_op.specs.declared.operand.Label.{Label}
use Rattle.lg_asm.specs.Lowered.{is_marked, is_outward}
use Rattle.lg_asm.proofs.WellLemmas.{within-of}

-- no label is bound after the end
none-past : (l : LabelledNodes) → All (MayStand (length l.nodes)) l.places → (i : ℕ) → length l.nodes + 1 ≤ i → (x : Label) → (i == begins_at l (Some x)) ≡ false
none-past l placed i past x = by (slice_get l.places x.0) refl
  where
    apart : (k : ℕ) → k ≤ length l.nodes → (i == k) ≡ false
    apart k le = grind (arith, le, past)

    by : (o : Option (Option Place)) → slice_get l.places x.0 ≡ o → (i == begins_at l (Some x)) ≡ false
    by (Some (Some (place.Node k))) e = ap (λ (o : Option (Option Place)). i == node_in (option_flatten o)) e ∙ apart k (within-of (length l.nodes) l.places placed x.0 k e)
    by r e = ap (λ (o : Option (Option Place)). i == node_in (option_flatten o)) e ∙ apart 0 (omega arith)

any-none : (p : Label → Bool) (xs : List Label) → ((x : Label) → p x ≡ false) → list_any p xs ≡ false
any-none p [] h = refl
any-none p (x ∷ xs) h = ap (λ b. b || list_any p xs) (h x) ∙ any-none p xs h

-- the nodes of the first labels are marked
pub record AreMarked (l : LabelledNodes) (entries : List Label) (marks : List Bool) (n : ℕ) : Type 0 where
  pub count : length marks ≡ length l.nodes + 1
  pub each : (i : ℕ) → i < length marks → slice_index_or marks i false ≡ list_any (λ x. i == begins_at l (Some x)) (take n entries)

pub marked-all : (l : LabelledNodes) (entries : List Label) (marks : List Bool) (n : ℕ) → All (MayStand (length l.nodes)) l.places → AreMarked l entries marks n → n ≡ length entries
    → is_marked l marks ≡ is_outward l entries
marked-all l entries marks n placed h e = fun_ext (λ i. ap (λ b. (i == entry_at l 0) || b) (⊎_elim (λ lt. inside i lt) (λ ge. outside i ge) (cases_lt i (length marks))))
  where
    inside : (i : ℕ) → i < length marks → slice_index_or marks i false ≡ list_any (λ x. i == begins_at l (Some x)) entries
    inside i lt = h.each i lt ∙ ap (λ k. list_any (λ x. i == begins_at l (Some x)) (take k entries)) e ∙ ap (list_any (λ x. i == begins_at l (Some x))) (take-length entries)

    outside : (i : ℕ) → length marks ≤ i → slice_index_or marks i false ≡ list_any (λ x. i == begins_at l (Some x)) entries
    outside i ge = get_or_past marks i false ge ∙ sym (any-none (λ x. i == begins_at l (Some x)) entries (λ x. none-past l placed i (omega (arith, h.count, ge)) x))
