-- The table of the nodes that stay.
use Rattle.std.proofs.Common.{◌≡◌, ⊎_elim, ℕ, ◌+◌, ◌<◌, ◌≤◌, Bool, true, false, List, [], ◌∷◌, ◌++◌, Some, length, refl, sym, ap, ◌∙◌, get_or, arith}
use Rattle.std.specs.Prelude.{slice_get, slice_index_or}
use Rattle.std.proofs.lemmas.Bool.{cases_lt}
use Rattle.std.proofs.lemmas.List.{get_or_append_left, get_or_past}
use Rattle.std.proofs.lemmas.Option.{slice_get-get_or}
use Rattle.std.proofs.Math.ListN.{length-append}
use Rattle.std.proofs.Math.Seq.{get_or-append_seam}
use Rattle.std.specs.Int.Bits.{and_zero_r}
use Rattle.lg_op.specs.declared.node.Node.{Node}
use Rattle.lg_op.specs.declared.operand.Reg.{Reg}
use Rattle.lg_op.specs.declared.operand.Reg.TheVariants.{R0, R1, R2, V0, V1, V2, Fp}
use Rattle.lg_live.specs.RegSets.{has}
use Rattle.lg_live.specs.declared.reg_set.RegSet.{RegSet}
use Rattle.lg_live.specs.Needs.{AreNeeded}
use Rattle.lg_node.specs.Nodes.{LabelledNodes}
use Rattle.lg_node.specs.Shapes.{TextShape}
use Rattle.lg_opt.specs.Rewritings.{marked}
use Rattle.lg_dead.specs.Dead.{stays_at, stays, needs_in, AreExact}
use Rattle.lg_dead.specs.Dropping.{AreStays}
use Rattle.lg_dead.proofs.NeededLemmas.{needed-inside}

pub more-stays : (l : LabelledNodes) (sets : List RegSet) (table : List Bool) (b : Bool) → AreStays l sets table → b ≡ stays (needs_in sets) l (length table) → AreStays l sets (table ++ b ∷ [])
more-stays l sets table b are e i lt = ⊎_elim below here (cases_lt i (length table))
  where
    below : i < length table → marked (table ++ b ∷ []) i ≡ stays (needs_in sets) l i
    below less = get_or_append_left table (b ∷ []) false i less ∙ are i less

    here : length table ≤ i → marked (table ++ b ∷ []) i ≡ stays (needs_in sets) l i
    here ge =
        let same : i ≡ length table = omega (arith, lt, length-append table (b ∷ [])) in
        ap (marked (table ++ b ∷ [])) same ∙ get_or-append_seam table b [] false ∙ e ∙ ap (stays (needs_in sets) l) (sym same)

pub same-needs : (sets : List RegSet) (l : LabelledNodes) (i : ℕ) (n : Node) (next : RegSet) (b : Bool) → ((r : Reg) → has next r ≡ needs_in sets (i + 1) r) → Some n ≡ slice_get l.nodes i → b ≡ stays_at (has next) (Some n) → b ≡ stays (needs_in sets) l i
same-needs sets l i n next b h here e = e ∙ ap (λ f. stays_at f (Some n)) (λ j. λ r. h r j) ∙ ap (stays_at (needs_in sets (i + 1))) here

-- a table of sets is exact
no-register : (r : Reg) → has (record { 0 = 0 }) r ≡ true → ⊥
no-register R0 e = cc
no-register R1 e = cc
no-register R2 e = cc
no-register V0 e = cc
no-register V1 e = cc
no-register V2 e = cc
no-register Fp e = cc

pub exact-in : (l : LabelledNodes) (s : TextShape) (sets : List RegSet) → AreNeeded l s sets → AreExact l s (needs_in sets)
exact-in l s sets are i r = ⊎_elim
    (λ (lt : i < length sets). are.exact i (get_or sets i (record { 0 = 0 })) (slice_get-get_or sets i (record { 0 = 0 }) lt) r)
    (λ (ge : length sets ≤ i). (
      (λ e. absurd (no-register r (ap (λ (x : RegSet). has x r) (sym (get_or_past sets i (record { 0 = 0 }) ge)) ∙ e))),
      (λ x. let lt = needed-inside l s r i x in let c = are.count in absurd (omega arith)),
    ))
    (cases_lt i (length sets))

pub no-fp-in : (sets : List RegSet) (i : ℕ) → needs_in sets i Fp ≡ false
no-fp-in sets i = rw (and_zero_r (slice_index_or sets i (record { 0 = 0 })).0) refl
