-- A place in the data part stays in it where bytes come after.
use Rattle.std.proofs.Common.{◌≡◌, ℕ, ◌≤◌, List, Option, Some, length, length-append, ap, ◌∙◌, arith}
use Rattle.std.specs.List.{All}
use Rattle.std.proofs.lemmas.List.Elements.{All-weaker}
use Rattle.lg_node.specs.declared.place.Place.{Place}
use Rattle.lg_node.specs.declared.place.Place.TheVariants as place
use Rattle.lg_tst.specs.Answers.{LiesWithin}
use Rattle.lg_tst.specs.DataParts.{DataBytes, image_of}

lies_further : (m n : ℕ) → m ≤ n → (bound : Option Place) → LiesWithin m bound → LiesWithin n bound
lies_further m n h (Some (place.Image k)) lies = omega (arith, h, lies)
lies_further m n h _ lies = tt

-- places within the bytes that were read are places within the image
pub lie_in_image : (part : DataBytes) (image : List ℕ) (places : List (Option Place)) → image ≡ image_of part → All (LiesWithin (length part.bytes)) places → All (LiesWithin (length image)) places
lie_in_image part image places same all =
    let more = ap length same ∙ length-append part.bytes _ in
    All-weaker (LiesWithin (length part.bytes)) (LiesWithin (length image)) (lies_further (length part.bytes) (length image) (omega (arith, more))) places all
