-- from what is answered to the definition of the engine
pub mod AnsweredTold
-- nothing is left open
pub mod OneEngine
