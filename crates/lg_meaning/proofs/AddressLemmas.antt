-- The plain addresses are addresses of the labels.
use Rattle.std.proofs.Common.{◌≡◌, ℕ, suc, zero, ◌+◌, ◌*◌, ◌≤◌, List, [], ◌∷◌, Option, Some, refl, ap, length, arith}
use Rattle.std.specs.Prelude.{map, slice_get, slice_index}
use Rattle.lg_base.specs.Layout.{code_base}
use Rattle.lg_node.specs.declared.place.Place.{Place}
use Rattle.lg_node.specs.declared.place.Place.TheVariants as place
use Rattle.lg_node.specs.Nodes.{LabelledNodes}
use Rattle.lg_meaning.specs.Addresses.{IsBound, AreAddresses, AreWithin, plain_address, plain_addresses}

plain_count : (places : List (Option Place)) → length (map plain_address places) ≡ length places
plain_count [] = refl
plain_count (p ∷ ps) = ap suc (plain_count ps)

plain_at : (places : List (Option Place)) (x : ℕ) (o : Option Place) → slice_get places x ≡ Some o → slice_index (map plain_address places) x ≡ plain_address o
plain_at [] x o e = cc
plain_at (p ∷ ps) zero o e = let same : p ≡ o = cc in ap plain_address same
plain_at (p ∷ ps) (suc x) o e = plain_at ps x o e

module _ (l : LabelledNodes) where
  at_node : (x i : ℕ) → IsBound l x (place.Node i) → slice_index (plain_addresses l) x ≡ code_base + 256 * i
  at_node x i e = plain_at l.places x (Some (place.Node i)) e

  pub plain_are : (size : ℕ) → AreWithin l → 256 * length l.nodes ≤ size → AreAddresses l size (plain_addresses l)
  plain_are size within long = record {
    count = plain_count l.places;
    images = λ x k e. plain_at l.places x (Some (place.Image k)) e;
    within = λ x i e. (omega (arith, at_node x i e), omega (arith, at_node x i e, within x i e));
    order = λ x y i j e f h. omega (arith, at_node x i e, at_node y j f);
    entries = λ x y i j b c h. omega (arith, at_node x i b.bound, at_node y j c.bound);
  }
