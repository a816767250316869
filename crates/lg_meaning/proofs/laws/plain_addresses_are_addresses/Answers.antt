use Rattle.lg_meaning.proofs.AddressLemmas.{plain_are}
use Rattle.lg_meaning.proofs.laws.plain_addresses_are_addresses.Goals as goal

pub returns : goal.returns
returns c = plain_are
