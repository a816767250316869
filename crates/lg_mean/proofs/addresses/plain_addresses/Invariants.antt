use Rattle.std.proofs.Common.{◌≡◌, map, take}
use Rattle.lg_meaning.specs.Addresses.{plain_address}
use Rattle.lg_mean.proofs.AddressLemmas.{AreWithinAmong}
use Rattle.lg_mean.proofs.addresses.plain_addresses.Given as goal

abbrev pub invariant-loop-label : goal.invariant-loop-label
invariant-loop-label l = record {
  value : l.addresses.items ≡ map plain_address (take l.label l.nodes.places);
  within : AreWithinAmong l.nodes l.label;
}
