-- the children of a situation by inner codes
pub mod Children
-- how the structs of the code hold them
pub mod Laid
-- how situations stand for the paper's
pub mod Coding
