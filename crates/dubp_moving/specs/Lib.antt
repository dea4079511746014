pub mod Chains
pub mod Others
pub mod States
