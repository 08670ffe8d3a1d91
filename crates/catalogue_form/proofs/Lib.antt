pub mod FrontBytes
pub mod OneMore
pub mod Reached
pub mod FormFound
pub mod RulesStanding
