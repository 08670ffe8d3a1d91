pub mod RuleRead
