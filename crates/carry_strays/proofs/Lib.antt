pub mod DropAnswered
pub mod OneDropping
