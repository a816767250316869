-- Code can be listed, and a listing in two parts.
use Rattle.std.proofs.Common.{◌≡◌, ℕ, ◌<◌, List, ◌++◌, length, Option, Some, refl, ap, ◌∙◌, arith}
use Rattle.std.specs.Io.KnownBytes.{Appends}
use Rattle.std.proofs.lemmas.Option.{slice_get-get_or, slice_get_within}
use Rattle.lg_asm.specs.Assembled.{Assembled, IsCode}
use Rattle.lg_base.specs.declared.target.Target.{Target}
use Rattle.lg_list.specs.Listing.{AreAddressed, Placed, listing}
use Rattle.lg_node.specs.Nodes.{LabelledNodes}
use Rattle.lg_node.specs.declared.place.Place.TheVariants as place
use Rattle.lg_list.proofs.WriteLemmas.{Progress, begun, went}
use Rattle.lg_run.specs.Says.{listing_of}

pub code_placed : (c : Assembled) → IsCode c → Placed c.places (length c.nodes.nodes) (length c.bytes)
code_placed c code = record {
  count = code.ordered.long;
  first = code.ordered.first;
  last = code.ordered.last;
  rise = code.ordered.order;
  small = let small = code.small in omega (arith, small);
}

pub code_addressed : (c : Assembled) → IsCode c → AreAddressed c.nodes.places c.places c.labels
code_addressed c code x i bound =
    let within : x < length c.nodes.places = slice_get_within c.nodes.places x (Some (place.Node i)) bound in
    let count = code.addressed.count in
    let inside : x < length c.labels = omega (arith, within, count) in
    slice_get-get_or c.labels x 0 inside ∙ ap Some (code.addressed.nodes x i bound)

-- what is listed of the parts of code is the code's listing
pub listed_is : (c : Assembled) (target : Target) (bytes places : List ℕ) (nodes : LabelledNodes) → target ≡ c.target → bytes ≡ c.bytes → places ≡ c.places → nodes ≡ c.nodes
    → listing target bytes places nodes ≡ listing_of c
unfolding listing_of
listed_is c target bytes places nodes e₁ e₂ e₃ e₄ = rw (e₁, e₂, e₃, e₄) refl

-- bytes in two parts: the first was written
pub first_written : (old now : Option (List ℕ)) (before after : ℕ) (xs ys : List ℕ) → Appends old now xs → after ≡ before → Progress old now before after ys (xs ++ ys)
first_written old now before after xs ys told kept = went _ _ _ _ _ _ _ _ _ _ _ (begun old before (xs ++ ys)) refl refl told kept
