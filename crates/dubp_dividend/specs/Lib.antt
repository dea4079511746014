pub mod Reevaluation
