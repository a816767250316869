-- The labels of a node, one after another.
use Rattle.std.proofs.Common.{◌≡◌, ℕ, zero, suc, ◌+◌, ◌-◌, ◌<◌, ◌≤◌, true, false, List, [], ◌∷◌, length, drop, get_or, Option, Some, None, sym, ap, ◌∙◌, arith}
use Rattle.std.proofs.lemmas.Bool.Decides.{nat_tests}
use Rattle.std.specs.Prelude.{slice_get, slice_index, slice_index_or, IfSome, IfNone}
use Rattle.std.proofs.lemmas.Option.{slice_get-get_or, get_or_from_slice_get}
use Rattle.lg_base.specs.Layout.{code_base}
use Rattle.std.proofs.lemmas.List.{drop_all}
use Rattle.lg_node.specs.declared.place.Place.{Place}
use Rattle.lg_node.specs.declared.place.Place.TheVariants as place
use Rattle.lg_node.specs.Labels.{is_at}
use Rattle.lg_list.specs.Lines.{Entry}
use Rattle.lg_list.specs.Lines.Entry.{Label}
use Rattle.lg_list.specs.Listing.{labels_at, AreAddressed}
use Rattle.lg_node.specs.NextLabels.{NextAt, NoneAt}
use Rattle.lg_op.specs.declared.operand.Label.{Label as OpLabel}
use Rattle.lg_list.proofs.ListingLemmas.{labels-bound, labels-elsewhere, labels-none}

-- labels that are bound elsewhere are passed over
pub labels-skip : (d i from to : ℕ) (words : List (List ℕ)) (places : List (Option Place)) → length words ≡ length places → from + d ≡ to → to ≤ length places → ((k : ℕ) → from ≤ k → k < to → is_at i (slice_index_or places k None) ≡ false) → labels_at i (drop from words) (drop from places) ≡ labels_at i (drop to words) (drop to places)
labels-skip zero i from to words places e f le other = let same : from ≡ to = omega arith in ap (λ n. labels_at i (drop n words) (drop n places)) same
labels-skip (suc d) i from to words places e f le other =
    let in_words : from < length words = omega arith in
    let in_places : from < length places = omega arith in
    labels-elsewhere i from words places (get_or words from []) (get_or places from None) (sym (slice_get-get_or words from [] in_words)) (sym (slice_get-get_or places from None in_places)) (other from (omega arith) (omega arith))
    ∙ labels-skip d i (from + 1) to words places e (omega arith) le (λ k low high. other k (omega arith) high)

-- none is left
pub labels-done : (i from : ℕ) (words : List (List ℕ)) (places : List (Option Place)) → length words ≡ length places → from ≤ length places → NoneAt places i from → labels_at i (drop from words) (drop from places) ≡ []
labels-done i from words places e le other =
    labels-skip (length places - from) i from (length places) words places e (omega arith) (omega arith) other
    ∙ labels-none i (drop (length places) words) (drop (length places) places) (drop_all (length places) words (omega arith))

-- the labels from one on that is bound at the node, or none
abbrev pub left : ℕ → List (List ℕ) → List (Option Place) → Option OpLabel → List Entry
left i words places None = []
left i words places (Some l) = labels_at i (drop l.0 words) (drop l.0 places)

-- a label that was found
abbrev pub IsFound : List (Option Place) → ℕ → Option OpLabel → Type 0
IsFound places i None = Unit {0}
IsFound places i (Some l) = NextAt places i l.0 l.0

pub found-of : (places : List (Option Place)) (i from : ℕ) (o : Option OpLabel) → IfSome o (λ l. NextAt places i from l.0) → IsFound places i o
found-of places i from None n = tt
found-of places i from (Some l) n = record { later = omega arith; within = n.within; bound = n.bound; none = λ k low high. absurd (omega (arith, low, high)) }

-- the labels from a number on are those from the first of them on
pub left-from : (i from : ℕ) (words : List (List ℕ)) (places : List (Option Place)) (o : Option OpLabel) → length words ≡ length places → from ≤ length places → IfSome o (λ l. NextAt places i from l.0) → IfNone o (NoneAt places i from) → labels_at i (drop from words) (drop from places) ≡ left i words places o
left-from i from words places None e le n z = labels-done i from words places e le z
left-from i from words places (Some l) e le n z = labels-skip (l.0 - from) i from l.0 words places e (omega (arith, n.later)) (omega (arith, n.within)) n.none

-- a label, and those after it
pub labels-here : (i : ℕ) (words : List (List ℕ)) (places : List (Option Place)) (word : List ℕ) (l : ℕ) → NextAt places i l l → Some word ≡ slice_get words l → labels_at i (drop l words) (drop l places) ≡ Label word ∷ labels_at i (drop (l + 1) words) (drop (l + 1) places)
labels-here i words places word l n w = labels-bound i l words places word (get_or places l None) w (sym (slice_get-get_or places l None n.within)) n.bound

pub left-step : (i : ℕ) (words : List (List ℕ)) (places : List (Option Place)) (word : List ℕ) (l : OpLabel) (o : Option OpLabel) → length words ≡ length places → NextAt places i l.0 l.0 → Some word ≡ slice_get words l.0 → IfSome o (λ m. NextAt places i (l.0 + 1) m.0) → IfNone o (NoneAt places i (l.0 + 1))
    → left i words places (Some l) ≡ Label word ∷ left i words places o
left-step i words places word l o e n w found none =
    labels-here i words places word l.0 n w
    ∙ ap (λ (es : List Entry). Label word ∷ es) (left-from i (l.0 + 1) words places o e (omega (arith, n.within)) found none)

-- how many labels are left at most
abbrev pub ahead : ℕ → Option OpLabel → ℕ
ahead count None = 0
ahead count (Some l) = count - l.0

-- a label that is found is bound at the node
is_at-node : (i : ℕ) (p : Option Place) → is_at i p ≡ true → p ≡ Some (place.Node i)
is_at-node i (Some (place.Node k)) e = let same : k ≡ i = grind (arith, nat_tests) in ap (λ n. Some (place.Node n)) same
is_at-node i (Some (place.Image k)) e = cc
is_at-node i None e = cc

pub NextAt-bound : (i from label : ℕ) (places : List (Option Place)) → NextAt places i from label → slice_get places label ≡ Some (Some (place.Node i))
NextAt-bound i from label places n = slice_get-get_or places label None n.within ∙ ap (λ p. Some p) (is_at-node i (get_or places label None) n.bound)

-- and its address is among those of the labels
pub NextAt-address : (i from label : ℕ) (bound : List (Option Place)) (places labels : List ℕ) → AreAddressed bound places labels → NextAt bound i from label → slice_get labels label ≡ Some (code_base + slice_index places i)
NextAt-address i from label bound places labels a n = a label i (NextAt-bound i from label bound n)

pub address-is : (label address : ℕ) (labels : List ℕ) → slice_get labels label ≡ Some address → slice_index labels label ≡ address
address-is label address labels e = get_or_from_slice_get labels label address 0 e
