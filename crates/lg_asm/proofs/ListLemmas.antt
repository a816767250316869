-- Code can be listed.
use Rattle.std.proofs.Common.{◌<◌, length, Some, ap, ◌∙◌, arith}
use Rattle.std.proofs.lemmas.Option.{slice_get-get_or, slice_get_within}
use Rattle.lg_asm.specs.Assembled.{Assembled, IsCode}
use Rattle.lg_list.specs.Listing.{AreAddressed}
use Rattle.lg_node.specs.declared.place.Place.TheVariants as place

pub code_addressed : (c : Assembled) → IsCode c → AreAddressed c.nodes.places c.places c.labels
code_addressed c code x i bound =
    let within : x < length c.nodes.places = slice_get_within c.nodes.places x (Some (place.Node i)) bound in
    let count = code.addressed.count in
    let inside : x < length c.labels = omega (arith, within, count) in
    slice_get-get_or c.labels x 0 inside ∙ ap Some (code.addressed.nodes x i bound)
