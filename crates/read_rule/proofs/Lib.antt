pub mod RuleParts
pub mod RuleStruct
pub mod RulePatterns
