pub mod PutWhole
pub mod RulesPut
