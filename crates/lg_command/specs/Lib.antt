pub mod Commands
pub mod Laws
pub mod Plans
pub mod Rules
