-- The plain addresses, label by label.
use Rattle.std.proofs.Common.{◌≡◌, ℕ, suc, ◌+◌, ◌<◌, ◌≤◌, List, [], ◌∷◌, ◌++◌, length, take, map, Option, Some, sym, ap, ◌∙◌, subst, arith, ⊎_elim}
use Rattle.std.specs.Prelude.{slice_get, IfSome}
use Rattle.std.proofs.lemmas.List.{map-append}
use Rattle.std.proofs.lemmas.Option.{slice_get_within, get_or_from_slice_get, same_Some}
use Rattle.std.proofs.lemmas.Bool.{cases_lt}
use Rattle.std.proofs.Math.Seq.{take-suc}
use Rattle.lg_node.specs.declared.place.Place.{Place}
use Rattle.lg_node.specs.declared.place.Place.TheVariants as place
use Rattle.lg_node.specs.Nodes.{LabelledNodes, IsWithin}
use Rattle.lg_meaning.specs.Addresses.{IsBound, AreWithin, plain_address}

pub next_address : (places : List (Option Place)) (k : ℕ) (o : Option Place) → Some o ≡ slice_get places k → map plain_address (take (k + 1) places) ≡ map plain_address (take k places) ++ plain_address o ∷ []
next_address places k o e =
    let lt = slice_get_within places k o (sym e) in
    let here = get_or_from_slice_get places k o o (sym e) in
    let more : k + 1 ≡ suc k = omega arith in
    ap (λ n. map plain_address (take n places)) more
    ∙ ap (map plain_address) (take-suc places k o lt ∙ ap (λ p. take k places ++ p ∷ []) here)
    ∙ map-append plain_address (take k places) (o ∷ [])

-- the first n labels are bound within the text
abbrev pub AreWithinAmong : LabelledNodes → ℕ → Type 0
AreWithinAmong l labels = (x i : ℕ) → x < labels → IsBound l x (place.Node i) → i ≤ length l.nodes

pub within_more : (l : LabelledNodes) (k : ℕ) (o : Option Place) → Some o ≡ slice_get l.places k → IfSome o (IsWithin (length l.nodes)) → AreWithinAmong l k → AreWithinAmong l (k + 1)
within_more l k o e w before x i lt bound = ⊎_elim
    (λ less. before x i less bound)
    (λ (not_less : k ≤ x).
    let same : x ≡ k = omega (arith, lt, not_less) in
    let is : o ≡ Some (place.Node i) = same_Some o (Some (place.Node i)) (e ∙ ap (slice_get l.places) (sym same) ∙ bound) in
    subst (λ (p : Option Place). IfSome p (IsWithin (length l.nodes))) is w)
    (cases_lt x k)

pub all_within : (l : LabelledNodes) (labels : ℕ) → length l.places ≤ labels → AreWithinAmong l labels → AreWithin l
all_within l labels all w x i bound = w x i (omega (arith, slice_get_within l.places x (Some (place.Node i)) bound, all)) bound
