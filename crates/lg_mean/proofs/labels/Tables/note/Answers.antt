use Rattle.std.proofs.Common.{Some, None, ap, sym, ◌∙◌}
use Rattle.lg_node.specs.declared.place.Place.TheVariants as place
use Rattle.lg_mean.proofs.TableLemmas.{none_more}
use Rattle.lg_mean.proofs.labels.Tables.note.Goals as goal

pub returns-in-Some-Image : goal.returns-in-Some-Image
returns-in-Some-Image c = none_more c.args.nodes.now c.args.shape.now c.args.addresses.now c.args.label (Some (place.Image c.in-Some-Image.field-0-0)) (sym c.place.ensures.place ∙ ap Some (c.in-Some-Image.is ∙ ap Some c.in-Some-Image.field-0-is)) tt _ _ c.requires.before

pub returns-in-None : goal.returns-in-None
returns-in-None c = none_more c.args.nodes.now c.args.shape.now c.args.addresses.now c.args.label None (sym c.place.ensures.place ∙ ap Some c.in-None.is) tt _ _ c.requires.before
