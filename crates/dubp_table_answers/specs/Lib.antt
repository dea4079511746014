pub mod CertificationLines
pub mod MoneyViews
