-- The entries of the host functions: each leads to its function, is a multiple of 16, and lies below the code.
use Rattle.std.proofs.Common.{◌≡◌, ◌%◌, ◌^◌, ◌<◌, Some, refl, arith}
use Rattle.lg_base.specs.HostNames.{host_index, host_address, host_by_address}
use Rattle.lg_base.specs.declared.host_name.HostName.{HostName}
use Rattle.lg_base.specs.declared.host_name.HostName.TheVariants.{Printf}

-- the length of the order
index-few : (name : HostName) → host_index name < 13
index-few Printf = omega arith
index-few _ = omega arith

pub entry-found : (name : HostName) → host_by_address (host_address name) ≡ Some name
entry-found Printf = refl
entry-found _ = refl

pub entry-aligned : (name : HostName) → host_address name % 16 ≡ 0
entry-aligned name = omega arith

pub entry-low : (name : HostName) → host_address name < 0x10000000
entry-low name = omega (arith, index-few name)

pub entry-small : (name : HostName) → host_address name < 2 ^ 64
entry-small name = omega (arith, index-few name)
